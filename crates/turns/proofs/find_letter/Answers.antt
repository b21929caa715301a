use Rattle.std.proofs.Common.{rules, eqb, ◌∙◌, sym, ap}
use Rattle.std.proofs.lemmas.Iterator.Adapters.{option_map_id}
use Rattle.refusals.specs.Searches.{first, when}
use Rattle.refusals.proofs.Chained.{first_passing}
use Rattle.plans.specs.Lent.{plan_in}
use Rattle.plans.specs.Plans.{test}
use Rattle.plans.proofs.Views.{letters_of}
use Rattle.turns.proofs.find_letter.Goals as goal

pub returns : goal.returns
returns g c =
    let pair = c.args.pair.now in
    let is_point = λ (i : _). eqb (test (plan_in g.T.Time.moment pair) i) c.args.point in
    sym (option_map_id c.find.result)
    ∙ first_passing _ _ (search rules) is_point (λ i. i) c.letters.result (λ i a h k. search rules) _ (search rules) c.find.ensures.runs
    ∙ ap (λ n. first n (λ i. when (is_point i) i)) (c.letters.ensures ∙ letters_of g.T.Time.moment pair.head.now pair.limits.now)
