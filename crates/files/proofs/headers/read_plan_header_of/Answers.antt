use Rattle.std.proofs.Common.{◌∙◌}
use Rattle.std.proofs.lemmas.Result.{err_from_is_err_and}
use Rattle.fields.proofs.Chains.{judged}
use Rattle.files.specs.Headers.{plan_fields_of, header_in}
use Rattle.files.proofs.Parts.{start_of_stops, as_any}
use Rattle.files.proofs.headers.read_plan_header_of.Goals as goal

pub returns-in_err-start_of : goal.returns-in_err-start_of
returns-in_err-start_of c =
    let p = err_from_is_err_and c.from_residual.result c.from_residual.ensures.1 in
    let file = c.args.file.now in
    let e = start_of_stops file c.args.version _ c.in_err-start_of.ensures in
    rw (p.1, p.2) (record { answer = e; first = judged file (plan_fields_of c.args.version) (header_in file) _ e })

pub returns : goal.returns
returns c =
    let file = c.args.file.now in
    let v = c.args.version in
    let e = c.read_plan_header.ensures.answer ∙ as_any file v _ c.in_ok-start_of.ensures in
    record { answer = e; first = judged file (plan_fields_of v) (header_in file) _ e }
