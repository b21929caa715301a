use Rattle.std.proofs.Common.{◌≤◌, sym, ◌∙◌, subst, arith}
use Rattle.heads.specs.Heads.{IsHead}
use Rattle.plans.specs.Lent.{plan_in}
use Rattle.plans.specs.Plans.{letters}
use Rattle.plans.proofs.Views.{letters_of}
use Rattle.shift_theory.specs.Lent.{round_in}
use Rattle.shift_theory.proofs.Outlines.{no_refusal, shifted_is_head, outline_is}
use Rattle.shifts.proofs.kept.KeptPair.shifted_head.Goals as goal

pub unreachable-requires : goal.unreachable-requires
unreachable-requires g c =
    let pair = c.args.self.now.pair in
    let head = pair.head.now in
    let p = plan_in g.T.Time.moment pair in
    let k = letters_of g.T.Time.moment head pair.limits.now in
    let few : letters p ≤ 6 = omega (arith, k, head.lettered) in
    let is = outline_is p _ _ _ (round_in pair) _ c.count_points.ensures c.next_points-points.ensures (c.from.ensures ∙ c.letters.ensures ∙ k) c.round.ensures few in
    let made = shifted_is_head p (round_in pair) head.some c.requires few head.rounded in
    no_refusal _ _ (subst IsHead (sym is) made) c.in_default.ensures.says

pub returns : goal.returns
returns g c =
    let pair = c.args.self.now.pair in
    let head = pair.head.now in
    let p = plan_in g.T.Time.moment pair in
    let k = letters_of g.T.Time.moment head pair.limits.now in
    let few : letters p ≤ 6 = omega (arith, k, head.lettered) in
    c.in-Ok.ensures.says.1 ∙ outline_is p _ _ _ (round_in pair) _ c.count_points.ensures c.next_points-points.ensures (c.from.ensures ∙ c.letters.ensures ∙ k) c.round.ensures few
