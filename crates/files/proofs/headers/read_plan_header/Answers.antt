use Rattle.std.proofs.lemmas.Result.{err_from_is_err_and}
use Rattle.files.specs.Headers.{plan_fields, header_in}
use Rattle.fields.proofs.Chains.{judged}
use Rattle.files.proofs.Parts.{start_stops, counts_stop, figures_stop, assembles}
use Rattle.files.proofs.headers.read_plan_header.Goals as goal

pub returns-in_err-version : goal.returns-in_err-version
returns-in_err-version c =
    let p = err_from_is_err_and c.from_residual.result c.from_residual.ensures.1 in
    let file = c.args.file.now in
    let e = start_stops file _ c.in_err-version.ensures in
    rw (p.1, p.2) (record { answer = e; first = judged file plan_fields (header_in file) _ e })

pub returns-in_err-points : goal.returns-in_err-points
returns-in_err-points c =
    let p = err_from_is_err_and c.from_residual-in_err-points.result c.from_residual-in_err-points.ensures.1 in
    let file = c.args.file.now in
    let e = counts_stop file _ c.in_ok-version.ensures _ c.in_err-points.ensures in
    rw (p.1, p.2) (record { answer = e; first = judged file plan_fields (header_in file) _ e })

pub returns-in_err-round : goal.returns-in_err-round
returns-in_err-round c =
    let p = err_from_is_err_and c.from_residual-in_err-round.result c.from_residual-in_err-round.ensures.1 in
    let file = c.args.file.now in
    let e = figures_stop file _ c.in_ok-version.ensures _ c.in_ok-points.ensures _ c.in_err-round.ensures in
    rw (p.1, p.2) (record { answer = e; first = judged file plan_fields (header_in file) _ e })

pub returns : goal.returns
returns c =
    let file = c.args.file.now in
    let e = assembles file _ c.in_ok-version.ensures _ c.in_ok-points.ensures _ c.in_ok-round.ensures in
    record { answer = e; first = judged file plan_fields (header_in file) _ e }
