use Rattle.std.proofs.Common.{◌≡◌, rules, arith, ap, ◌∙◌}
use Rattle.std.proofs.lemmas.Grind.{common_steps}
use Rattle.std.specs.Option.{option_map}
use Rattle.refusals.specs.Searches.{first, when}
use Rattle.refusals.proofs.Chained.{first_place}
use Rattle.plans.specs.Lent.{plan_in, table_in}
use Rattle.plans.specs.Views.{limit_of}
use Rattle.plans.proofs.Views.{limits_of, limit_there}
use Rattle.offences.specs.Faults.{offence_refusal}
use Rattle.offences.specs.Verdicts.{breaks, breaks_limit, limit_offence}
use Rattle.offences.proofs.breaking.break_in.Goals as goal

pub returns : goal.returns
returns g c =
    let f = g.T.Time.moment in
    let pair = c.args.pair.now in
    let limits = pair.limits.now in
    let p = plan_in f pair in
    let ts = table_in f pair in
    let offence = limit_offence c.args.row in
    let broken = breaks p ts c.args.row in
    let named : option_map offence_refusal c.map.result ≡ option_map offence c.position.result = grind (arith, common_steps) in
    named ∙ first_place _ _ (search rules) limits c.iter.result
    (λ q e. rw (e, c.iter.ensures.rest) at (c.iter.ensures.runs q q.seen))
    broken offence
    (λ i x a l is k. let e : a ≡ breaks_limit p ts c.args.row (limit_of f x.now) = search rules in e ∙ ap (breaks_limit p ts c.args.row) (ap (limit_of f) (is x.now) ∙ limit_there f pair.head.now limits i x.now l))
    _ c.position.ensures.runs
    ∙ ap (λ n. first n (λ j. when (broken j) (offence j))) (limits_of f pair.head.now limits)
