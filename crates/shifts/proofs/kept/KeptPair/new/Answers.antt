use Rattle.std.proofs.Common.{arith}
use Rattle.plans.specs.Lent.{plan_in, table_in}
use Rattle.plans.proofs.Views.{limits_of}
use Rattle.shifts.proofs.Timed.{timed}
use Rattle.shifts.proofs.kept.KeptPair.new.Goals as goal

pub invariant_of-result : goal.invariant_of-result
invariant_of-result g c =
    let of = g.T.Time.moment in
    let pair = c.args.pair.now in
    let kept = c.in_ok-check_pair.ensures.says in
    record { few = omega (arith, kept.limits.few, limits_of of pair.head.now pair.limits.now); timed = timed (plan_in of pair) (table_in of pair) kept.times }
