use Rattle.std.proofs.Common.{rules, ◌∙◌, ap}
use Rattle.refusals.specs.Answers.{refusal_at}
use Rattle.refusals.specs.Searches.{first, when}
use Rattle.refusals.proofs.Chained.{first_passing}
use Rattle.plans.specs.Lent.{plan_in, table_in}
use Rattle.plans.specs.Plans.{moment}
use Rattle.plans.proofs.Views.{letters_of}
use Rattle.turns.specs.Turns.{waits_for}
use Rattle.turns.proofs.find_wait.Goals as goal

pub returns : goal.returns
returns g c =
    let pair = c.args.pair.now in
    let p = plan_in g.T.Time.moment pair in
    let ts = table_in g.T.Time.moment pair in
    let test = waits_for p ts (g.R.Rule.sees c.args.rule.now) c.args.out c.args.told c.args.row (moment p ts c.args.row c.args.point) in
    first_passing _ _ (search rules) test (refusal_at 16) c.letters.result (λ i a h k. search rules) _ (search rules) c.find.ensures.runs
    ∙ ap (λ n. first n (λ i. when (test i) (refusal_at 16 i))) (c.letters.ensures ∙ letters_of g.T.Time.moment pair.head.now pair.limits.now)
