-- Sets of points and of letters, as bits.
use Rattle.std.specs.Prelude.{ℕ, ◌+◌, ◌/◌, ◌%◌, ◌^◌, Bool, cond, ◌==◌}

-- bit i is 1
abbrev pub has : ℕ → ℕ → Bool
has set i = (set / 2 ^ i % 2) == 1

-- the set with one more
abbrev pub joined : ℕ → ℕ → ℕ
joined set i = cond (has set i) set (set + 2 ^ i)
