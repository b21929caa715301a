use Rattle.std.proofs.Common.{[], ◌∷◌, sym, ap, ◌∙◌}
use Rattle.std.proofs.lemmas.Result.{err_from_is_err_and}
use Rattle.fields.specs.Fields.{checked}
use Rattle.fields.specs.Laid.{laid}
use Rattle.fields.specs.Readings.{end_field}
use Rattle.fields.proofs.Chains.{onward, halted}
use Rattle.plan_records.specs.Readers.{stood}
use Rattle.plan_records.specs.Records.{record_count, record_fields, record_place}
use Rattle.plan_contents.proofs.Steps.{end_passes, end_halts}
use Rattle.plan_reader.proofs.records.Records.check.Goals as goal

pub returns-in_err-end : goal.returns-in_err-end
returns-in_err-end c =
    let p = err_from_is_err_and c.from_residual.result c.from_residual.ensures.1 in
    let r = c.args.self.now.reader in
    let file = r.file.now in
    let h = r.header in
    let e = c.in_err-end.ensures ∙ ap (λ n. checked file (laid n (record_fields h file)) (stood r n)) c.count.ensures in
    rw (p.1, p.2) (halted file (laid (record_count h) (record_fields h file)) (end_field file (record_place h file (record_count h)) ∷ []) (stood r (record_count h)) tt _ e)

pub returns-in_err-next : goal.returns-in_err-next
returns-in_err-next c =
    let p = err_from_is_err_and c.from_residual-in_err-next.result c.from_residual-in_err-next.ensures.1 in
    let r = c.args.self.now.reader in
    let file = r.file.now in
    let h = r.header in
    let e = c.in_ok-end.ensures ∙ ap (λ n. checked file (laid n (record_fields h file)) (stood r n)) c.count.ensures in
    let o = onward file (laid (record_count h) (record_fields h file)) (end_field file (record_place h file (record_count h)) ∷ []) (stood r (record_count h)) _ tt e in
    rw (p.1, p.2) (end_halts r _ o.0 _ c.in_err-next.ensures.answer ∙ sym o.1)

pub returns : goal.returns
returns c =
    let r = c.args.self.now.reader in
    let file = r.file.now in
    let h = r.header in
    let e = c.in_ok-end.ensures ∙ ap (λ n. checked file (laid n (record_fields h file)) (stood r n)) c.count.ensures in
    let o = onward file (laid (record_count h) (record_fields h file)) (end_field file (record_place h file (record_count h)) ∷ []) (stood r (record_count h)) _ tt e in
    end_passes r _ o.0 _ c.in_ok-next.ensures.answer ∙ sym o.1
