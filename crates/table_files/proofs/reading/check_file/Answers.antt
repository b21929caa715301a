use Rattle.std.proofs.lemmas.Result.{err_from_is_err_and}
use Rattle.time_fields.proofs.Spelled.{Bytes}
use Rattle.table_files.proofs.Stepping.{header_stops, room_stops, times_stop, end_stops, all_passed}
use Rattle.table_files.proofs.Rounds.{known, ready}
use Rattle.table_files.proofs.reading.check_file.Goals as goal

pub returns-in_err-check_table_header : goal.returns-in_err-check_table_header
returns-in_err-check_table_header g c =
    let p = err_from_is_err_and c.from_residual.result c.from_residual.ensures.1 in
    let kind = g.T.Time.kind in
    let head = c.args.head.now in
    let file = c.args.file.now in
    let small : Bytes file = λ i. (c.type_inv.file i).fits in
    let e = header_stops kind head file c.args.room _ _ c.plan_header.ensures c.in_err-check_table_header.ensures.answer in
    rw (p.1, p.2) (record { answer = e; known = known kind head file c.args.room small _ e; ready = tt })

pub returns-in_err-check_room : goal.returns-in_err-check_room
returns-in_err-check_room g c =
    let p = err_from_is_err_and c.from_residual-in_err-check_room.result c.from_residual-in_err-check_room.ensures.1 in
    let kind = g.T.Time.kind in
    let head = c.args.head.now in
    let file = c.args.file.now in
    let small : Bytes file = λ i. (c.type_inv.file i).fits in
    let e = room_stops kind head file c.args.room _ c.plan_header.ensures c.in_ok-check_table_header.ensures.answer _ c.table_size-size.ensures _ c.in_err-check_room.ensures in
    rw (p.1, p.2) (record { answer = e; known = known kind head file c.args.room small _ e; ready = tt })

pub returns-in_err-check_times : goal.returns-in_err-check_times
returns-in_err-check_times g c =
    let p = err_from_is_err_and c.from_residual-in_err-check_times.result c.from_residual-in_err-check_times.ensures.1 in
    let kind = g.T.Time.kind in
    let head = c.args.head.now in
    let file = c.args.file.now in
    let small : Bytes file = λ i. (c.type_inv.file i).fits in
    let e = times_stop kind head file c.args.room _ c.plan_header.ensures c.in_ok-check_table_header.ensures.answer _ c.table_size-size.ensures _ c.in_ok-check_room.ensures c.in_err-check_times.ensures in
    rw (p.1, p.2) (record { answer = e; known = known kind head file c.args.room small _ e; ready = tt })

pub returns-in_err-check_end : goal.returns-in_err-check_end
returns-in_err-check_end g c =
    let p = err_from_is_err_and c.from_residual-in_err-check_end.result c.from_residual-in_err-check_end.ensures.1 in
    let kind = g.T.Time.kind in
    let head = c.args.head.now in
    let file = c.args.file.now in
    let small : Bytes file = λ i. (c.type_inv.file i).fits in
    let e = end_stops kind head file c.args.room _ c.plan_header.ensures c.in_ok-check_table_header.ensures.answer _ c.table_size-size.ensures c.in_ok-check_room.ensures c.in_ok-check_times.ensures _ c.time_place.ensures _ c.in_err-check_end.ensures in
    rw (p.1, p.2) (record { answer = e; known = known kind head file c.args.room small _ e; ready = tt })

pub returns : goal.returns
returns g c =
    let kind = g.T.Time.kind in
    let head = c.args.head.now in
    let file = c.args.file.now in
    let small : Bytes file = λ i. (c.type_inv.file i).fits in
    let e = all_passed kind head file c.args.room _ c.plan_header.ensures c.in_ok-check_table_header.ensures.answer _ c.table_size-size.ensures c.in_ok-check_room.ensures c.in_ok-check_times.ensures _ c.time_place.ensures c.in_ok-check_end.ensures in
    record { answer = e; known = known kind head file c.args.room small _ e; ready = ready kind head file c.args.room _ e }
