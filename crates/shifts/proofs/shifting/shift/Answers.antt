use Rattle.std.proofs.Common.{length, sym, refl, ap, ◌∙◌}
use Rattle.std.proofs.lemmas.Result.{err_from_is_err_and}
use Rattle.refusals.specs.Answers.{given, unless}
use Rattle.plans.specs.Lent.{plan_in, table_in}
use Rattle.plans.proofs.Views.{placed_of}
use Rattle.shift_theory.specs.Lent.{delay_in, round_in}
use Rattle.shift_theory.specs.Shifts.{shift_refusal, shifted_outline}
use Rattle.shift_theory.proofs.Answering.{stays_refused, answered}
use Rattle.shift_theory.proofs.Outlines.{plan_is}
use Rattle.shift_theory.proofs.Shifting.{shifted_as}
use Rattle.shifts.proofs.Checked.{same, none, can}
use Rattle.shifts.proofs.shifting.shift.Goals as goal

pub returns-in_err-kept : goal.returns-in_err-kept
returns-in_err-kept g c =
    let pair = c.args.pair.now in
    let p = plan_in g.T.Time.moment pair in
    let ts = table_in g.T.Time.moment pair in
    let d = delay_in pair in
    let l = length c.args.limits.now in
    let t = length c.args.times.now in
    let q = err_from_is_err_and c.from_residual.result c.from_residual.ensures.1 in
    let e = stays_refused (shift_refusal p ts d l t) _ pair (shifted_outline p (round_in pair)) c.in_err-kept.ensures in
    rw (q.1, q.2) (record { answer = e; limits = refl; times = refl; meaning = answered p ts d l t (round_in pair) _ e; promise = tt })

pub fill_limits-requires : goal.fill_limits-requires
fill_limits-requires g c = (can g.T.Time.moment c.args.pair.now _ _ _ c.in_ok-kept.ensures).limits_fit

pub fill_times-requires : goal.fill_times-requires
fill_times-requires g c = (can g.T.Time.moment c.args.pair.now _ _ _ c.in_ok-kept.ensures).times_fit

pub shifted_head-requires : goal.shifted_head-requires
shifted_head-requires g c = (can g.T.Time.moment c.args.pair.now _ _ _ c.in_ok-kept.ensures).small.points

pub returns : goal.returns
returns g c =
    let of = g.T.Time.moment in
    let pair = c.in_ok-kept.kept.pair in
    let p = plan_in of pair in
    let ts = table_in of pair in
    let d = delay_in pair in
    let l = length c.args.limits.now in
    let t = length c.args.times.now in
    let can = can of c.args.pair.now pair l t c.in_ok-kept.ensures in
    let e = ap given c.shifted_head.ensures ∙ ap (λ f. unless f (shifted_outline p (round_in pair))) (sym (none of c.args.pair.now pair l t c.in_ok-kept.ensures)) in
    let placed = placed_of of pair.head.now pair.limits.now in
    let plan = plan_is of c.shifted_head.result _ p d (round_in pair) c.shifted_head.ensures c.fill_limits.ensures.front in
    let promise = shifted_as p ts d placed pair.head.now.delayed can.memory can.small _ _ plan c.fill_times.ensures.front in
    rw (same of c.args.pair.now pair l t c.in_ok-kept.ensures) (record { answer = e; limits = (c.fill_limits.ensures.front, c.fill_limits.ensures.rest); times = (c.fill_times.ensures.front, c.fill_times.ensures.rest); meaning = answered p ts d l t (round_in pair) _ e; promise = promise })
