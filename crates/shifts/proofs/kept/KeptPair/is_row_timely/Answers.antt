use Rattle.std.proofs.Common.{ap, ◌∙◌, rules}
use Rattle.plans.specs.Lent.{plan_in, table_in}
use Rattle.plans.proofs.Views.{letters_of}
use Rattle.refusals.specs.Searches.{every}
use Rattle.shift_theory.specs.Lent.{delay_in}
use Rattle.shift_theory.specs.Shifts.{timely}
use Rattle.refusals.proofs.Chained.{all_passing}
use Rattle.shifts.proofs.kept.KeptPair.is_row_timely.Goals as goal

pub returns : goal.returns
returns g c =
    let of = g.T.Time.moment in
    let pair = c.args.self.now.pair in
    let test = timely (plan_in of pair) (table_in of pair) (delay_in pair) c.args.row in
    all_passing _ _ (search rules) test c.letters.result (λ i a h k. search rules) _ (search rules) c.all.ensures.runs ∙ ap (λ n. every n test) (c.letters.ensures ∙ letters_of of pair.head.now pair.limits.now)
