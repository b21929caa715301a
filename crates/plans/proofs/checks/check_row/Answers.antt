use Rattle.std.proofs.Common.{rules}
use Rattle.refusals.proofs.Chained.{each_passes}
use Rattle.plans.specs.Faults.{memory_fault}
use Rattle.plans.specs.Lent.{plan_in, table_in}
use Rattle.plans.specs.Memory.{time_refusal}
use Rattle.plans.proofs.checks.check_row.Goals as goal

pub returns : goal.returns
returns g c =
    let pair = c.args.pair.now in
    let p = plan_in g.T.Time.moment pair in
    let ts = table_in g.T.Time.moment pair in
    rw c.points.ensures at (each_passes _ _ (search rules) memory_fault (time_refusal p ts c.args.row) c.points.result (λ i a h k. search rules) _ (search rules) c.try_for_each.ensures.runs)
