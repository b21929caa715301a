use Rattle.std.proofs.Common.{rules, ◌∙◌, sym, ap}
use Rattle.std.proofs.lemmas.Iterator.Adapters.{option_map_id}
use Rattle.refusals.specs.Searches.{first, when}
use Rattle.refusals.proofs.Chained.{first_passing}
use Rattle.plans.specs.Lent.{plan_in}
use Rattle.plans.proofs.Views.{rows_of}
use Rattle.turns.specs.Turns.{agrees}
use Rattle.turns.proofs.lowest_row.Goals as goal

pub returns : goal.returns
returns g c =
    let pair = c.args.pair.now in
    let test = agrees (plan_in g.T.Time.moment pair) c.args.told c.args.outcomes in
    sym (option_map_id c.find.result)
    ∙ first_passing _ _ (search rules) test (λ i. i) c.rows.result (λ i a h k. search rules) _ (search rules) c.find.ensures.runs
    ∙ ap (λ n. first n (λ i. when (test i) i)) (c.rows.ensures ∙ rows_of g.T.Time.moment pair.head.now pair.limits.now)
