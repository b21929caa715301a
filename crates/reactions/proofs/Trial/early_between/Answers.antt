use Rattle.std.proofs.Common.{rules, ◌∙◌, ap}
use Rattle.plans.specs.Lent.{plan_in, table_in}
use Rattle.refusals.specs.Searches.{first, when}
use Rattle.refusals.proofs.Chained.{first_passing}
use Rattle.offences.specs.Faults.{offence_refusal}
use Rattle.offences.specs.Verdicts.{acts_early, early_offence}
use Rattle.refusals.proofs.Chained.{made_answer}
use Rattle.reactions.proofs.Trial.early_between.Goals as goal

pub returns : goal.returns
returns g c =
    let pair = c.args.self.now.pair.now in
    let test = acts_early (plan_in g.T.Time.moment pair) (table_in g.T.Time.moment pair) (g.R.Rule.sees c.args.self.now.rule.now) c.args.a c.args.b in
    let made = early_offence c.args.a c.args.b in
    made_answer offence_refusal made c.find.result c.map.result c.map.ensures.cases (λ x y k. search rules)
    ∙ first_passing _ _ (search rules) test made c.points.result (λ i a h k. search rules) _ (search rules) c.find.ensures.runs
    ∙ ap (λ n. first n (λ i. when (test i) (made i))) c.points.ensures
