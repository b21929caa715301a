use Rattle.std.proofs.Common.{rules, length}
use Rattle.refusals.proofs.Chained.{each_passes}
use Rattle.heads.specs.Faults.{head_fault}
use Rattle.heads.specs.Heads.{outline, test_refusal}
use Rattle.heads.proofs.makers.check_tests.Goals as goal

pub returns : goal.returns
returns c =
    each_passes _ _ (search rules) head_fault (test_refusal (outline c.args.points c.args.tests.now 0 0)) (length c.args.tests.now) (λ i a h k. search rules) _ (search rules) c.try_for_each.ensures.runs
