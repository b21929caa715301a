use Rattle.std.proofs.Common.{◌≡◌, arith}
use Rattle.std.proofs.lemmas.Grind.{common_steps}
use Rattle.refusals.specs.Answers.{answer_of, unless}
use Rattle.plans.specs.Faults.{memory_fault}
use Rattle.plans.specs.Lent.{plan_in, table_in}
use Rattle.plans.specs.Memory.{memory_refusal}
use Rattle.plans.proofs.Memories.{memory_says}
use Rattle.plans.proofs.checks.check_pair.Goals as goal

pub returns-in_err-check_limit_count-clause-says : goal.returns-in_err-check_limit_count-clause-says
returns-in_err-check_limit_count-clause-says g c =
    let p = plan_in g.T.Time.moment c.args.pair.now in
    let ts = table_in g.T.Time.moment c.args.pair.now in
    let e : answer_of (λ u. u) memory_fault c.from_residual.result ≡ unless (memory_refusal p ts) tt = grind (arith, common_steps) in
    memory_says p ts _ e

pub returns-in_err-check_time_count-clause-says : goal.returns-in_err-check_time_count-clause-says
returns-in_err-check_time_count-clause-says g c =
    let p = plan_in g.T.Time.moment c.args.pair.now in
    let ts = table_in g.T.Time.moment c.args.pair.now in
    let e : answer_of (λ u. u) memory_fault c.from_residual-in_err-check_time_count.result ≡ unless (memory_refusal p ts) tt = grind (arith, common_steps) in
    memory_says p ts _ e

pub returns-in_err-check_each_limit-clause-says : goal.returns-in_err-check_each_limit-clause-says
returns-in_err-check_each_limit-clause-says g c =
    let p = plan_in g.T.Time.moment c.args.pair.now in
    let ts = table_in g.T.Time.moment c.args.pair.now in
    let e : answer_of (λ u. u) memory_fault c.from_residual-in_err-check_each_limit.result ≡ unless (memory_refusal p ts) tt = grind (arith, common_steps) in
    memory_says p ts _ e

pub returns-clause-says : goal.returns-clause-says
returns-clause-says g c =
    let p = plan_in g.T.Time.moment c.args.pair.now in
    let ts = table_in g.T.Time.moment c.args.pair.now in
    let e : answer_of (λ u. u) memory_fault c.check_times.result ≡ unless (memory_refusal p ts) tt = grind (arith, common_steps) in
    memory_says p ts _ e
