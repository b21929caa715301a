use Rattle.std.proofs.Common.{rules, ◌∙◌, ap}
use Rattle.refusals.specs.Searches.{every}
use Rattle.plans.specs.Lent.{plan_in, table_in}
use Rattle.plans.proofs.Views.{letters_of}
use Rattle.offences.specs.Verdicts.{alike_in}
use Rattle.refusals.proofs.Chained.{all_passing}
use Rattle.reactions.proofs.Trial.is_alike.Goals as goal

pub returns : goal.returns
returns g c =
    let pair = c.args.self.now.pair.now in
    let test = alike_in (plan_in g.T.Time.moment pair) (table_in g.T.Time.moment pair) (g.R.Rule.sees c.args.self.now.rule.now) c.args.a c.args.b (g.T.Time.moment c.args.at) in
    all_passing _ _ (search rules) test c.letters.result (λ i a h k. search rules) _ (search rules) c.all.ensures.runs ∙ ap (λ n. every n test) (c.letters.ensures ∙ letters_of g.T.Time.moment pair.head.now pair.limits.now)
