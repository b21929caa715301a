use Rattle.std.proofs.Common.{◌≡◌, ◌/◌, ◌%◌, ◌∙◌, subst, arith}
use Rattle.plans.specs.Lent.{plan_in, table_in}
use Rattle.plans.proofs.Views.{letters_of}
use Rattle.shift_theory.specs.Lent.{delay_in}
use Rattle.shift_theory.specs.Shifts.{shifted_moment}
use Rattle.shift_theory.proofs.Filling.{few_rows, row_below, time_there}
use Rattle.shifts.proofs.kept.KeptPair.time_at.Goals as goal

pub overflow_cast-at : goal.overflow_cast-at
overflow_cast-at g c =
    let of = g.T.Time.moment in
    let pair = c.args.self.now.pair in
    let p = plan_in of pair in
    let d = delay_in pair in
    let wide = c.from-points.ensures ∙ c.count_points.ensures in
    let below = row_below p d c.args.at c.from-points.result wide pair.head.now.some c.requires in
    let few = few_rows p d (omega (arith, letters_of of pair.head.now pair.limits.now, pair.head.now.lettered)) in
    omega arith

pub returns : goal.returns
returns g c =
    let of = g.T.Time.moment in
    let pair = c.args.self.now.pair in
    let p = plan_in of pair in
    let ts = table_in of pair in
    let wide = c.from-points.ensures ∙ c.count_points.ensures in
    subst (λ w. of c.shifted_time.result ≡ shifted_moment p ts (delay_in pair) (c.args.at / w) (c.args.at % w)) wide c.shifted_time.ensures ∙ time_there p (delay_in pair) ts c.args.at c.requires
