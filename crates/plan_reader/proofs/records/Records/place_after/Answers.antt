use Rattle.std.proofs.Common.{ap, ◌∙◌}
use Rattle.std.proofs.lemmas.Result.{err_from_is_err_and}
use Rattle.refusals.specs.Answers.{given}
use Rattle.fields.specs.Laid.{laid}
use Rattle.fields.proofs.Chains.{passed, stopped}
use Rattle.plan_records.specs.Readers.{stood}
use Rattle.plan_records.specs.Records.{record_fields, record_place}
use Rattle.plan_reader.proofs.records.Records.place_after.Goals as goal

pub returns-in_err-pass : goal.returns-in_err-pass
returns-in_err-pass c =
    let p = err_from_is_err_and c.from_residual.result c.from_residual.ensures.1 in
    let r = c.args.self.now.reader in
    let file = r.file.now in
    let n = c.args.count in
    rw (p.1, p.2) (stopped file (laid n (record_fields r.header file)) (stood r n) (record_place r.header file n) _ c.in_err-pass.ensures)

pub returns : goal.returns
returns c =
    let r = c.args.self.now.reader in
    let file = r.file.now in
    let n = c.args.count in
    let q = passed file (laid n (record_fields r.header file)) (stood r n) _ (record_place r.header file n) c.in_ok-pass.ensures in
    ap given (c.place.ensures ∙ ap (λ q. q.place) q.0) ∙ q.1
