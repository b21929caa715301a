use Rattle.std.proofs.Common.{◌≡◌, ◌+◌, ◌*◌}
use Rattle.table_files.specs.Layouts.{time_place}
use Rattle.table_files.proofs.Timed.{time_asked}
use Rattle.table_files.proofs.reading.Source.check_time.Goals as goal

pub returns : goal.returns
returns g c =
    let kind = g.T.Time.kind in
    let head = c.args.self.now.head.now in
    let at : c.time_place-place.result ≡ time_place kind (c.args.row * head.points + c.args.point) = cc in
    time_asked kind head c.args.self.now.file.now c.args.row c.args.point _ at _ _ c.in_ok-time.ensures c.check_rule.ensures
