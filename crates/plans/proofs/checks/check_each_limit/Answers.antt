use Rattle.std.proofs.Common.{◌≡◌, rules, ap, ◌∙◌}
use Rattle.refusals.specs.Answers.{answer_of, unless}
use Rattle.refusals.specs.Searches.{first}
use Rattle.plans.specs.Faults.{memory_fault}
use Rattle.plans.specs.Memory.{limit_refusal}
use Rattle.plans.specs.Views.{plan_of}
use Rattle.plans.proofs.Views.{limits_of, asked, limit_asked}
use Rattle.refusals.proofs.Numbered.{each_listed}
use Rattle.plans.proofs.checks.check_each_limit.Goals as goal

pub returns : goal.returns
returns g c =
    let f = g.T.Time.moment in
    let head = c.args.head.now in
    let limits = c.args.limits.now in
    let refusing = limit_refusal (plan_of f head limits) in
    each_listed _ _ (search rules) memory_fault refusing limits _ _
    (λ p e. c.enumerate.ensures.runs p p.seen e)
    (λ q e. rw (e, c.iter.ensures.rest) at (c.iter.ensures.runs q q.seen))
    (λ i x a l is k. let e : answer_of (λ u. u) memory_fault a ≡ unless (asked f head limits i x.now l) tt = search rules in e ∙ ap (λ o. unless o tt) (limit_asked f head limits i x.now l (is x.now)))
    _ c.try_for_each.ensures.runs
    ∙ ap (λ n. unless (first n refusing) tt) (limits_of f head limits)
