use Rattle.std.proofs.Common.{◌≡◌, ℕ, ◌<◌, length, slice_index_or}
use Rattle.shifts.proofs.filling.fill.Given as goal

abbrev pub invariant-loop-i : goal.invariant-loop-i
invariant-loop-i g l =
    (length l.slot-items ≡ l.i-end) × ((j : ℕ) (d : g.row.X.Denot) → j < l.i → goal.F-post g l.item j (slice_index_or l.slot-items j d))
