use Rattle.std.proofs.Common.{rules, ◌∙◌}
use Rattle.plans.specs.Lent.{plan_in, table_in}
use Rattle.plans.proofs.Views.{rows_of}
use Rattle.refusals.proofs.Chained.{first_mapped}
use Rattle.offences.specs.Faults.{offence_refusal}
use Rattle.offences.specs.Verdicts.{early_between}
use Rattle.reactions.proofs.Trial.early_in.Goals as goal

pub returns : goal.returns
returns g c =
    let pair = c.args.self.now.pair.now in
    let rows = c.rows.ensures ∙ rows_of g.T.Time.moment pair.head.now pair.limits.now in
    rw (← rows) (first_mapped _ _ (search rules) offence_refusal (early_between (plan_in g.T.Time.moment pair) (table_in g.T.Time.moment pair) (g.R.Rule.sees c.args.self.now.rule.now) c.args.a) c.rows.result (λ i a q h k. search rules) _ (search rules) c.find_map.ensures.runs)
