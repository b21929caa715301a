use Rattle.std.proofs.Common.{rules, ◌≡◌, ◌+◌, ◌-◌, true, false, get_or, take, drop, ap, arith}
use Rattle.std.proofs.lemmas.Iterator.{cases_from_all, YieldsList-from_slice}
use Rattle.fields.specs.Fields.{between}
use Rattle.plan_records.proofs.Naming.{every_part}
use Rattle.plan_records.proofs.names.NameAt.is_printable.Goals as goal

pub returns : goal.returns
returns c =
    let name = c.args.self.now in
    let bytes = name.bytes.now in
    let size : (name.at + 1 + c.from.result) - (name.at + 1) ≡ get_or bytes name.at 0 = omega (arith, c.from.ensures) in
    every_part bytes (name.at + 1) (get_or bytes name.at 0) (between 0x21 0x7E) _ _ (ap (λ n. take n (drop (name.at + 1) bytes)) size) (omega (arith, c.requires)) (cases_from_all _ _ _ (λ x. between 0x21 0x7E x ≡ true) (λ x. between 0x21 0x7E x ≡ false) c.all.ensures.ran (YieldsList-from_slice _ c.iter.ensures.rest) (λ x q k. search rules) (λ x q k. search rules))
