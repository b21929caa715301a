use Rattle.std.proofs.Common.{ℕ, Bool, ap, ◌∙◌, rules}
use Rattle.plans.specs.Lent.{plan_in, table_in}
use Rattle.plans.specs.Plans.{letters}
use Rattle.plans.proofs.Views.{rows_of}
use Rattle.refusals.specs.Searches.{every}
use Rattle.shift_theory.specs.Lent.{delay_in}
use Rattle.shift_theory.specs.Shifts.{timely}
use Rattle.refusals.proofs.Chained.{all_passing}
use Rattle.shifts.proofs.kept.KeptPair.are_timely.Goals as goal

pub returns : goal.returns
returns g c =
    let of = g.T.Time.moment in
    let pair = c.args.self.now.pair in
    let p = plan_in of pair in
    let test : ℕ → Bool = λ row. every (letters p) (timely p (table_in of pair) (delay_in pair) row) in
    all_passing _ _ (search rules) test c.rows.result (λ i a h k. search rules) _ (search rules) c.all.ensures.runs ∙ ap (λ n. every n test) (c.rows.ensures ∙ rows_of of pair.head.now pair.limits.now)
