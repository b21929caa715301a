use Rattle.std.proofs.Common.{◌≡◌, map, take}
use Rattle.table_files.specs.Readings.{times_in}
use Rattle.table_files.proofs.reading.fill_times.Given as goal

abbrev pub invariant-loop-i : goal.invariant-loop-i
invariant-loop-i g l = map g.T.Time.moment (take l.i l.slot-items) ≡ times_in g.T.Time.kind l.file l.i
