use Rattle.std.proofs.Common.{◌≡◌, ◌+◌, ◌-◌, arith}
use Rattle.plan_reader.proofs.Limits.{no_head_refusal}
use Rattle.plan_reader.proofs.filling.head_at.Goals as goal

pub unreachable-requires : goal.unreachable-requires
unreachable-requires c =
    let header = c.args.header.now in
    let at = c.args.at in
    let size : (at + c.from.result) - at ≡ header.tests = omega (arith, c.from.ensures) in
    no_head_refusal _ _ c.requires.1 (rw size at c.in_default.ensures.says)
