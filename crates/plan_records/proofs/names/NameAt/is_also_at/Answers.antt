use Rattle.std.proofs.Common.{◌<◌, sym, ◌∙◌, arith}
use Rattle.refusals.proofs.Firsts.{every_more}
use Rattle.plan_records.specs.Names.{name_size}
use Rattle.plan_records.proofs.Naming.{equal_bytes, other_byte, other_lengths}
use Rattle.plan_records.proofs.names.NameAt.is_also_at.Goals as goal

pub returns-then-byte_at-self : goal.returns-then-byte_at-self
returns-then-byte_at-self c =
    other_lengths c.args.self.now.bytes.now c.args.earlier c.args.self.now.at (λ e. c.if-byte_at-self.true (c.byte_at.ensures ∙ e))

pub returns-then-byte_at-self-2 : goal.returns-then-byte_at-self-2
returns-then-byte_at-self-2 c =
    let bytes = c.args.self.now.bytes.now in
    let inside : 1 < name_size bytes c.args.earlier = omega (arith, c.requires.some, c.byte_at.ensures, c.if-byte_at-self.false) in
    other_byte bytes c.args.earlier c.args.self.now.at 1 inside (λ e. c.if-byte_at-self-2.true (c.byte_at-2.ensures ∙ e))

pub returns-then-byte_at-self-3 : goal.returns-then-byte_at-self-3
returns-then-byte_at-self-3 c =
    let bytes = c.args.self.now.bytes.now in
    let inside : c.from-last.result < name_size bytes c.args.earlier = omega (arith, c.requires.some, c.byte_at.ensures, c.if-byte_at-self.false, c.from-last.ensures) in
    other_byte bytes c.args.earlier c.args.self.now.at c.from-last.result inside (λ e. c.if-byte_at-self-3.true (c.byte_at-3.ensures ∙ e))

pub returns-then-byte_at-self-4 : goal.returns-then-byte_at-self-4
returns-then-byte_at-self-4 c =
    let bytes = c.args.self.now.bytes.now in
    let inside : c.loop-j.j < name_size bytes c.args.earlier = omega (arith, c.loop-j-test.true, c.byte_at.ensures, c.if-byte_at-self.false, c.from-last.ensures) in
    other_byte bytes c.args.earlier c.args.self.now.at c.loop-j.j inside (λ e. c.if-byte_at-self-4.true (c.byte_at-in-loop-j.ensures ∙ e))

pub loop-j-preserved : goal.loop-j-preserved
loop-j-preserved c =
    (every_more _ c.loop-j.j c.loop-j.invariant.0 (equal_bytes _ _ (sym c.byte_at-in-loop-j.ensures ∙ c.if-byte_at-self-4.false)), omega arith)
