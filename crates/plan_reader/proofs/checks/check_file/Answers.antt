use Rattle.std.proofs.Common.{◌≡◌, ℕ, List, ap, ◌∙◌}
use Rattle.std.proofs.lemmas.Result.{err_from_is_err_and}
use Rattle.refusals.specs.Answers.{given}
use Rattle.fields.specs.Laid.{passing}
use Rattle.refusals.specs.Rooms.{room_answer}
use Rattle.fields.proofs.Laid.{yes}
use Rattle.plan_records.specs.declared.readers.Reader.{Reader}
use Rattle.plan_contents.specs.Readings.{header, body_fields}
use Rattle.plan_contents.proofs.Checking.{open_stops, opened, short, records_stop, all_counted, all_read}
use Rattle.plan_reader.specs.Checks.{all_fields}
use Rattle.plan_reader.proofs.checks.check_file.Goals as goal

-- the records that a reader passes are those of its file
same_body : (r : Reader) (file : List ℕ) → r.file.now ≡ file → r.header ≡ header file → passing r.file.now (all_fields r.header r.file.now) ≡ passing file (body_fields file)
same_body r file e h =
    ap (λ f. passing f (all_fields r.header f)) e ∙ ap (λ h. passing file (all_fields h file)) h

pub returns-in_err-records : goal.returns-in_err-records
returns-in_err-records g c =
    let p = err_from_is_err_and c.from_residual.result c.from_residual.ensures.1 in
    let e = open_stops g.T.Time.kind c.args.file.now c.args.room _ c.kind.ensures _ c.in_err-records.ensures.answer in
    rw (p.1, p.2) (record { answer = e; known = tt })

pub returns-in_err-check_room : goal.returns-in_err-check_room
returns-in_err-check_room g c =
    let p = err_from_is_err_and c.from_residual-in_err-check_room.result c.from_residual-in_err-check_room.ensures.1 in
    let kind = g.T.Time.kind in
    let file = c.args.file.now in
    let o = opened kind file c.args.room _ c.kind.ensures _ c.in_ok-records.ensures.answer in
    let size : c.from.result ≡ (header file).limits = c.from.ensures ∙ ap (λ h. h.limits) (c.header-header.ensures ∙ o.0) in
    let e = short kind file c.args.room o.1 _ size _ c.in_err-check_room.ensures in
    rw (p.1, p.2) (record { answer = e; known = tt })

pub returns-in_err-check : goal.returns-in_err-check
returns-in_err-check g c =
    let p = err_from_is_err_and c.from_residual-in_err-check.result c.from_residual-in_err-check.ensures.1 in
    let kind = g.T.Time.kind in
    let file = c.args.file.now in
    let o = opened kind file c.args.room _ c.kind.ensures _ c.in_ok-records.ensures.answer in
    let size : c.from.result ≡ (header file).limits = c.from.ensures ∙ ap (λ h. h.limits) (c.header-header.ensures ∙ o.0) in
    let enough : yes ≡ room_answer c.args.room (header file).limits = c.in_ok-check_room.ensures ∙ ap (room_answer c.args.room) size in
    let e = records_stop kind file c.args.room o.1 enough _ (c.in_err-check.ensures ∙ same_body c.in_ok-records.records.reader file c.in_ok-records.ensures.same o.0) in
    rw (p.1, p.2) (record { answer = e; known = tt })

pub returns : goal.returns
returns g c =
    let kind = g.T.Time.kind in
    let file = c.args.file.now in
    let o = opened kind file c.args.room _ c.kind.ensures _ c.in_ok-records.ensures.answer in
    let there = c.header-header.ensures ∙ o.0 in
    let size : c.from.result ≡ (header file).limits = c.from.ensures ∙ ap (λ h. h.limits) there in
    let enough : yes ≡ room_answer c.args.room (header file).limits = c.in_ok-check_room.ensures ∙ ap (room_answer c.args.room) size in
    let all : yes ≡ passing file (body_fields file) = c.in_ok-check.ensures ∙ same_body c.in_ok-records.records.reader file c.in_ok-records.ensures.same o.0 in
    record { answer = ap (λ h. given h.limits) there ∙ all_counted kind file c.args.room o.1 enough all; known = (there, all_read kind file c.args.room o.1 enough all) }
