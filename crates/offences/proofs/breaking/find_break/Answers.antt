use Rattle.std.proofs.Common.{rules, ap, ◌∙◌}
use Rattle.refusals.specs.Searches.{first}
use Rattle.refusals.proofs.Chained.{first_mapped}
use Rattle.plans.specs.Lent.{plan_in, table_in}
use Rattle.plans.proofs.Views.{rows_of}
use Rattle.offences.specs.Faults.{offence_refusal}
use Rattle.offences.specs.Verdicts.{break_in}
use Rattle.offences.proofs.breaking.find_break.Goals as goal

pub returns : goal.returns
returns g c =
    let pair = c.args.pair.now in
    let breaking = break_in (plan_in g.T.Time.moment pair) (table_in g.T.Time.moment pair) in
    let rows = c.rows.ensures ∙ rows_of g.T.Time.moment pair.head.now pair.limits.now in
    first_mapped _ _ (search rules) offence_refusal breaking c.rows.result (λ i a q h k. search rules) _ (search rules) c.find_map.ensures.runs ∙ ap (λ n. first n breaking) rows
