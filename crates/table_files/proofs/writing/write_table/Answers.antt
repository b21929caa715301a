use Rattle.std.proofs.Common.{◌≡◌, ◌≤◌, ◌++◌, map, length, drop, sym, ap, ◌∙◌, subst, arith}
use Rattle.std.proofs.lemmas.List.{length-map}
use Rattle.std.proofs.lemmas.Result.{err_from_is_err_and}
use Rattle.refusals.specs.Answers.{given}
use Rattle.fields.proofs.Readings.{room_for}
use Rattle.table_files.specs.Layouts.{time_place, table_length}
use Rattle.table_files.specs.Trips.{IsTable}
use Rattle.table_files.specs.Writings.{IsWritten, table_bytes}
use Rattle.table_files.proofs.Judging.{size_small}
use Rattle.table_files.proofs.Putting.{put_both}
use Rattle.table_files.proofs.Outcomes.{full_size, memory_stops, room_stops, goes}
use Rattle.table_files.proofs.Rounds.{reads_back}
use Rattle.table_files.proofs.writing.write_table.Goals as goal

pub returns-in_err-check_memory : goal.returns-in_err-check_memory
returns-in_err-check_memory g c =
    let p = err_from_is_err_and c.from_residual.result c.from_residual.ensures.1 in
    let ts = map g.T.Time.moment c.args.times.now in
    let s = memory_stops g.T.Time.kind c.args.head.now ts c.args.file.now _ c.in_err-check_memory.ensures.answer c.in_err-check_memory.ensures.says in
    rw (p.1, p.2) (record { answer = s.answer; bytes = s.left; says = s.says; back = tt })

pub time_place-length-requires : goal.time_place-length-requires
time_place-length-requires g c =
    let times = c.args.times.now in
    let kept = c.in_ok-check_memory.ensures.says.times in
    let size = full_size c.args.head.now (map g.T.Time.moment times) kept in
    omega (arith, size, length-map times g.T.Time.moment, size_small c.args.head.now)

pub returns-in_err-check_room : goal.returns-in_err-check_room
returns-in_err-check_room g c =
    let p = err_from_is_err_and c.from_residual-in_err-check_room.result c.from_residual-in_err-check_room.ensures.1 in
    let kind = g.T.Time.kind in
    let head = c.args.head.now in
    let times = c.args.times.now in
    let file = c.args.file.now in
    let ts = map g.T.Time.moment times in
    let memory = c.in_ok-check_memory.ensures in
    let size = sym (length-map times g.T.Time.moment) ∙ full_size head ts memory.says.times in
    let long : c.time_place-length.result ≡ table_length kind head = c.time_place-length.ensures ∙ ap (time_place kind) size in
    let s = room_stops kind head ts file memory.answer memory.says.times _ long _ c.in_err-check_room.ensures in
    rw (p.1, p.2) (record { answer = s.answer; bytes = s.left; says = s.says; back = tt })

pub put_header-requires : goal.put_header-requires
put_header-requires g c =
    omega (arith, c.time_place-length.ensures, room_for (length c.args.file.now) _ c.in_ok-check_room.ensures)

pub put_times-requires : goal.put_times-requires
put_times-requires g c =
    let times = c.args.times.now in
    let kept = c.in_ok-check_memory.ensures.says.times in
    let size = full_size c.args.head.now (map g.T.Time.moment times) kept in
    (omega (arith, size, length-map times g.T.Time.moment, size_small c.args.head.now), omega (arith, c.time_place-length.ensures, room_for (length c.args.file.now) _ c.in_ok-check_room.ensures))

pub returns : goal.returns
returns g c =
    let kind = g.T.Time.kind in
    let head = c.args.head.now in
    let times = c.args.times.now in
    let ts = map g.T.Time.moment times in
    let memory = c.in_ok-check_memory.ensures in
    let size = sym (length-map times g.T.Time.moment) ∙ full_size head ts memory.says.times in
    let long : c.time_place-length.result ≡ table_length kind head = c.time_place-length.ensures ∙ ap (time_place kind) size in
    let room = room_for (length c.args.file.now) _ c.in_ok-check_room.ensures in
    let s = goes kind head ts c.args.file.now memory.answer memory.says.times (subst (λ n. n ≤ length c.args.file.now) long room) in
    let both = put_both kind head ts (length times) c.args.file.now c.put_header.new.file c.put_times.new.file (sym (length-map times g.T.Time.moment)) c.put_header.ensures c.put_times.ensures.bytes in
    let end = ap (λ n. table_bytes kind head ts ++ drop (time_place kind n) c.args.file.now) size in
    let table : IsTable kind head ts = record { kept = memory.says.times; of_kind = c.put_times.ensures.coded } in
    let back = reads_back kind head ts c.put_times.new.file (drop (table_length kind head) c.args.file.now) c.time_place-length.result table (both ∙ end) long in
    record { answer = ap given long ∙ s.answer; bytes = both ∙ end ∙ s.left; says = subst (IsWritten kind head ts (length c.args.file.now)) (sym long) s.says; back = back }
