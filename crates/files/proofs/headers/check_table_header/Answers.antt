use Rattle.std.proofs.lemmas.Result.{err_from_is_err_and}
use Rattle.files.specs.Headers.{table_fields}
use Rattle.fields.proofs.Chains.{judged}
use Rattle.files.proofs.Parts.{table_stops, table_ends}
use Rattle.files.proofs.headers.check_table_header.Goals as goal

pub returns-in_err-place : goal.returns-in_err-place
returns-in_err-place c =
    let p = err_from_is_err_and c.from_residual.result c.from_residual.ensures.1 in
    let file = c.args.file.now in
    let plan = c.args.plan.now in
    let e = table_stops file plan _ c.in_err-place.ensures in
    rw (p.1, p.2) (record { answer = e; first = judged file (table_fields plan) tt _ e })

pub returns : goal.returns
returns c =
    let file = c.args.file.now in
    let plan = c.args.plan.now in
    let e = table_ends file plan _ _ c.in_ok-place.ensures c.check_counts_at.ensures in
    record { answer = e; first = judged file (table_fields plan) tt _ e }
