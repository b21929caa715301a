use Rattle.std.proofs.Common.{◌^◌, ◌<◌, ◌≤◌, sym, ◌∙◌, arith, pow_mono}
use Rattle.std.proofs.lemmas.Bool.{le-leb, lt-ltb}
use Rattle.plans.proofs.checks.is_set_of.Goals as goal

pub returns-then-letters-ge8 : goal.returns-then-letters-ge8
returns-then-letters-ge8 c =
    let many = c.if-letters-ge8.true in
    let least : 2 ^ 8 ≤ 2 ^ c.args.letters = pow_mono many in
    let small : c.args.set < 2 ^ c.args.letters = omega (arith, c.ranges.set.fits) in
    le-leb 8 c.args.letters many ∙ sym (lt-ltb c.args.set (2 ^ c.args.letters) small)
