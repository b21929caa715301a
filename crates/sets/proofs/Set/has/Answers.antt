use Rattle.std.proofs.Common.{◌∙◌, ap}
use Rattle.sets.specs.Sets.{has}
use Rattle.sets.proofs.Bits.{none_past}
use Rattle.sets.proofs.Set.has.Goals as goal

pub returns-else-member-lt64-clause-value : goal.returns-else-member-lt64-clause-value
returns-else-member-lt64-clause-value c =
    none_past c.self.inside.bits c.args.member 64 c.self.invariant c.if-member-lt64.false ∙ ap (λ s. has s c.args.member) c.self.view_is
