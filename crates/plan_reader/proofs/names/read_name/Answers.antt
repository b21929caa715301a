use Rattle.std.proofs.Common.{Some, ap, ◌∙◌, arith}
use Rattle.std.proofs.lemmas.Result.{err_from_is_err_and}
use Rattle.refusals.specs.Answers.{given}
use Rattle.plan_contents.proofs.Opening.{open_halts, no_name, before_halts, name_halts, name_there}
use Rattle.plan_reader.proofs.names.read_name.Goals as goal

pub returns-in_err-records : goal.returns-in_err-records
returns-in_err-records c =
    let p = err_from_is_err_and c.from_residual.result c.from_residual.ensures.1 in
    rw (p.1, p.2) (open_halts c.args.file.now c.args.kind _ _ c.in_err-records.ensures.answer)

pub returns-then-point-header : goal.returns-then-point-header
returns-then-point-header c =
    let o = c.in_ok-records.ensures in
    no_name c.args.file.now c.args.kind c.in_ok-records.records.reader o.same o.answer _ c.header.ensures c.args.point c.if-point-header.true

pub returns-in_err-from : goal.returns-in_err-from
returns-in_err-from c =
    let p = err_from_is_err_and c.from_residual-in_err-from.result c.from_residual-in_err-from.ensures.1 in
    let o = c.in_ok-records.ensures in
    rw (p.1, p.2) (before_halts c.args.file.now c.args.kind c.in_ok-records.records.reader o.same o.answer _ c.header.ensures c.args.point c.if-point-header.false _ c.from.ensures _ c.in_err-from.ensures)

pub returns-in_err-end : goal.returns-in_err-end
returns-in_err-end c =
    let p = err_from_is_err_and c.from_residual-in_err-end.result c.from_residual-in_err-end.ensures.1 in
    let o = c.in_ok-records.ensures in
    rw (p.1, p.2) (name_halts c.args.file.now c.args.kind c.in_ok-records.records.reader o.same o.answer _ c.header.ensures c.args.point c.if-point-header.false _ c.from-2.ensures _ c.in_err-end.ensures)

pub overflow_add-from-2 : goal.overflow_add-from-2
overflow_add-from-2 c =
    let o = c.in_ok-records.ensures in
    let t = name_there c.args.file.now c.args.kind c.in_ok-records.records.reader o.same o.answer _ c.header.ensures c.args.point c.if-point-header.false _ _ c.from.ensures c.from-2.ensures _ _ c.in_ok-from.ensures c.in_ok-end.ensures in
    omega (arith, t.0, t.1)

pub part-requires : goal.part-requires
part-requires c =
    let o = c.in_ok-records.ensures in
    let t = name_there c.args.file.now c.args.kind c.in_ok-records.records.reader o.same o.answer _ c.header.ensures c.args.point c.if-point-header.false _ _ c.from.ensures c.from-2.ensures _ _ c.in_ok-from.ensures c.in_ok-end.ensures in
    (t.0, t.1)

pub returns : goal.returns
returns c =
    let o = c.in_ok-records.ensures in
    let t = name_there c.args.file.now c.args.kind c.in_ok-records.records.reader o.same o.answer _ c.header.ensures c.args.point c.if-point-header.false _ _ c.from.ensures c.from-2.ensures _ _ c.in_ok-from.ensures c.in_ok-end.ensures in
    ap (λ l. given (Some l)) c.part.ensures ∙ t.2
