use Rattle.std.proofs.Common.{rules, ap, ◌∙◌}
use Rattle.refusals.specs.Answers.{unless}
use Rattle.refusals.specs.Searches.{first}
use Rattle.refusals.proofs.Chained.{each_passes}
use Rattle.plans.specs.Faults.{memory_fault}
use Rattle.plans.specs.Lent.{plan_in, table_in}
use Rattle.plans.specs.Memory.{row_refusal}
use Rattle.plans.proofs.Views.{rows_of}
use Rattle.plans.proofs.checks.check_times.Goals as goal

pub returns : goal.returns
returns g c =
    let pair = c.args.pair.now in
    let refusing = row_refusal (plan_in g.T.Time.moment pair) (table_in g.T.Time.moment pair) in
    let rows = c.rows.ensures ∙ rows_of g.T.Time.moment pair.head.now pair.limits.now in
    each_passes _ _ (search rules) memory_fault refusing c.rows.result (λ i a h k. search rules) _ (search rules) c.try_for_each.ensures.runs ∙ ap (λ n. unless (first n refusing) tt) rows
