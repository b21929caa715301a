use Rattle.std.proofs.Common.{rules, ◌∙◌, sym, ap}
use Rattle.std.proofs.lemmas.Iterator.Adapters.{option_map_id}
use Rattle.refusals.specs.Searches.{first, when}
use Rattle.refusals.proofs.Chained.{first_passing}
use Rattle.plans.specs.Lent.{plan_in, table_in}
use Rattle.turns.specs.Turns.{leads}
use Rattle.turns.proofs.earliest_point.Goals as goal

pub returns : goal.returns
returns g c =
    let pair = c.args.pair.now in
    let test = leads (plan_in g.T.Time.moment pair) (table_in g.T.Time.moment pair) c.args.released c.args.row in
    sym (option_map_id c.find.result)
    ∙ first_passing _ _ (search rules) test (λ i. i) c.points.result (λ i a h k. search rules) _ (search rules) c.find.ensures.runs
    ∙ ap (λ n. first n (λ i. when (test i) i)) c.points.ensures
