use Rattle.std.proofs.Common.{ap, ◌∙◌}
use Rattle.std.proofs.lemmas.Result.{err_from_is_err_and}
use Rattle.refusals.specs.Answers.{given}
use Rattle.plan_contents.proofs.Opening.{open_halts, names_halt, names_there}
use Rattle.plan_reader.proofs.names.read_names.Goals as goal

pub returns-in_err-records : goal.returns-in_err-records
returns-in_err-records c =
    let p = err_from_is_err_and c.from_residual.result c.from_residual.ensures.1 in
    rw (p.1, p.2) (open_halts c.args.file.now c.args.kind _ _ c.in_err-records.ensures.answer)

pub returns-in_err-end : goal.returns-in_err-end
returns-in_err-end c =
    let p = err_from_is_err_and c.from_residual-in_err-end.result c.from_residual-in_err-end.ensures.1 in
    let o = c.in_ok-records.ensures in
    rw (p.1, p.2) (names_halt c.args.file.now c.args.kind c.in_ok-records.records.reader o.same o.answer _ c.header.ensures _ c.from-points.ensures _ c.in_err-end.ensures)

pub part-requires : goal.part-requires
part-requires c =
    let o = c.in_ok-records.ensures in
    let t = names_there c.args.file.now c.args.kind c.in_ok-records.records.reader o.same o.answer _ c.header.ensures _ c.from-points.ensures _ c.in_ok-end.ensures in
    (t.0, t.1)

pub returns : goal.returns
returns c =
    let o = c.in_ok-records.ensures in
    let t = names_there c.args.file.now c.args.kind c.in_ok-records.records.reader o.same o.answer _ c.header.ensures _ c.from-points.ensures _ c.in_ok-end.ensures in
    ap given c.part.ensures ∙ t.2
