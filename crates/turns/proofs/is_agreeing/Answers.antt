use Rattle.std.proofs.Common.{rules, ◌∙◌, ap}
use Rattle.refusals.specs.Searches.{every}
use Rattle.plans.proofs.Views.{letters_of}
use Rattle.turns.specs.Turns.{agrees_in}
use Rattle.refusals.proofs.Chained.{all_passing}
use Rattle.turns.proofs.is_agreeing.Goals as goal

pub returns : goal.returns
returns g c =
    let pair = c.args.pair.now in
    let test = agrees_in c.args.told c.args.outcomes c.args.row in
    all_passing _ _ (search rules) test c.letters.result (λ i a h k. search rules) _ (search rules) c.all.ensures.runs
    ∙ ap (λ n. every n test) (c.letters.ensures ∙ letters_of g.T.Time.moment pair.head.now pair.limits.now)
