use Rattle.std.proofs.Common.{◌≡◌, ◌+◌, not, sym, ap, ◌∙◌, arith}
use Rattle.refusals.proofs.Firsts.{every_more}
use Rattle.plan_records.specs.Names.{name_size, name_place, same_name}
use Rattle.plan_records.proofs.Naming.{one_equal, place_more}
use Rattle.plan_records.proofs.names.NameAt.is_new.Goals as goal

pub is_also_at-requires : goal.is_also_at-requires
is_also_at-requires c =
    record { near = omega (arith, c.loop-i.invariant.1, c.loop-i.invariant.3); there = c.requires.there; some = c.requires.some }

pub returns-then-is_also_at : goal.returns-then-is_also_at
returns-then-is_also_at c =
    let name = c.args.self.now in
    one_equal name.bytes.now name.start name.number c.loop-i._i name.at c.loop-i.earlier c.loop-i.invariant.2 c.loop-i-test.true (sym c.if-is_also_at.true ∙ c.is_also_at.ensures)

pub loop-i-preserved : goal.loop-i-preserved
loop-i-preserved c =
    let name = c.args.self.now in
    let bytes = name.bytes.now in
    let here = c.loop-i.invariant.2 in
    let long : 1 + c.from.result ≡ name_size bytes c.loop-i.earlier = omega (arith, c.from.ensures, c.byte_at.ensures) in
    let small = c.byte_at.type_inv in
    let more = place_more bytes name.start c.loop-i._i in
    let next : c.loop-i.earlier + (1 + c.from.result) ≡ name_place bytes name.start (c.loop-i._i + 1) = ap (λ n. c.loop-i.earlier + n) long ∙ ap (λ q. q + name_size bytes q) here ∙ sym more in
    (every_more _ c.loop-i._i c.loop-i.invariant.0 (ap not (ap (λ q. same_name bytes q name.at) (sym here) ∙ sym c.is_also_at.ensures ∙ c.if-is_also_at.false)), omega arith, next, omega (arith, c.from.ensures, small))
