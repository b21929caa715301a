use Rattle.std.proofs.Common.{rules}
use Rattle.times.specs.declared.codings.Kind.TheVariants.{Whole, Fine}
use Rattle.files.proofs.headers.start.Goals as goal

-- the number is the version of no kind
pub returns-in_default-try_from : goal.returns-in_default-try_from
returns-in_default-try_from c =
    let named = c.in_default-try_from.ensures in
    let one = named.1 Whole in
    let two = named.1 Fine in
    search rules
