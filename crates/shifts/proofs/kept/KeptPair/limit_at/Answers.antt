use Rattle.std.proofs.Common.{◌∙◌}
use Rattle.plans.specs.Lent.{plan_in}
use Rattle.plans.proofs.Views.{limits_of}
use Rattle.shift_theory.specs.Lent.{delay_in}
use Rattle.shift_theory.proofs.Filling.{there_at, back_at}
use Rattle.shifts.proofs.kept.KeptPair.limit_at.Goals as goal

pub returns-then-past-eq0 : goal.returns-then-past-eq0
returns-then-past-eq0 g c =
    let of = g.T.Time.moment in
    let pair = c.args.self.now.pair in
    c.limit_to.ensures ∙ there_at (plan_in of pair) (delay_in pair) _ (limits_of of pair.head.now pair.limits.now) c.args.j c.if-j-limits.false c.requires c.if-past-eq0.true

pub returns-else-past-eq0 : goal.returns-else-past-eq0
returns-else-past-eq0 g c =
    let of = g.T.Time.moment in
    let pair = c.args.self.now.pair in
    c.limit_from.ensures ∙ back_at (plan_in of pair) (delay_in pair) _ (limits_of of pair.head.now pair.limits.now) c.args.j c.if-j-limits.false c.requires c.if-past-eq0.false
