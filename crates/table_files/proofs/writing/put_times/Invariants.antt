use Rattle.std.proofs.Common.{◌≡◌, ◌*◌, map, take}
use lib.Seq.{paste}
use Rattle.std.specs.List.{flat_map, AllByRecursion}
use Rattle.times.specs.Coding.{time_bytes, width_of}
use Rattle.time_fields.specs.Kinds.{OfKind}
use Rattle.table_files.proofs.writing.put_times.Given as goal

abbrev pub invariant-loop-i : goal.invariant-loop-i
invariant-loop-i g l =
    let t = g.T.Time in
    (l.file ≡ paste l.initial.file 7 (flat_map (time_bytes t.kind) (map t.moment (take l.i l.times))) (width_of t.kind * l.i)) × AllByRecursion (OfKind t.kind) (map t.moment (take l.i l.times))
