use Rattle.std.proofs.Common.{◌≡◌, arith}
use Rattle.std.proofs.lemmas.Grind.{common_steps}
use Rattle.refusals.specs.Answers.{answer_of, unless}
use Rattle.plans.specs.Faults.{memory_fault}
use Rattle.refusals.specs.Searches.{or_else}
use Rattle.plans.specs.Memory.{many_refusal, limits_refusal}
use Rattle.plans.specs.Views.{plan_of}
use Rattle.plans.proofs.Memories.{limits_say}
use Rattle.plans.proofs.checks.check_limits.Goals as goal

pub returns-in_err-check_limit_count-clause-says : goal.returns-in_err-check_limit_count-clause-says
returns-in_err-check_limit_count-clause-says g c =
    let p = plan_of g.T.Time.moment c.args.head.now c.args.limits.now in
    let e : answer_of (λ u. u) memory_fault c.from_residual.result ≡ unless (or_else (many_refusal p) (limits_refusal p)) tt = grind (arith, common_steps) in
    limits_say p _ e

pub returns-clause-says : goal.returns-clause-says
returns-clause-says g c =
    let p = plan_of g.T.Time.moment c.args.head.now c.args.limits.now in
    let e : answer_of (λ u. u) memory_fault c.check_each_limit.result ≡ unless (or_else (many_refusal p) (limits_refusal p)) tt = grind (arith, common_steps) in
    limits_say p _ e
