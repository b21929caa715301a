use Rattle.std.proofs.Common.{rules, ◌∙◌, ap}
use Rattle.refusals.specs.Searches.{every}
use Rattle.plans.specs.Lent.{plan_in, table_in}
use Rattle.turns.specs.Turns.{behind}
use Rattle.refusals.proofs.Chained.{all_passing}
use Rattle.turns.proofs.is_unpreceded.Goals as goal

pub returns : goal.returns
returns g c =
    let pair = c.args.pair.now in
    let test = behind (plan_in g.T.Time.moment pair) (table_in g.T.Time.moment pair) c.args.released c.args.row c.args.point in
    all_passing _ _ (search rules) test c.points.result (λ i a h k. search rules) _ (search rules) c.all.ensures.runs
    ∙ ap (λ n. every n test) c.points.ensures
