-- A moment is a pair of integers, ticks and grains: what a value of any kind of time stands for.
-- Ticks are the steps of the clock. Grains are finer: they order the moments of one tick, before it and after it.
use Rattle.std.specs.Prelude.{◌≡◌, ℕ, Bool, true, false, cond, not, ◌&&◌, ℤ, pos, ◌+ℤ◌, ◌-ℤ◌, ◌≤ℤ◌, Some, None, Option, int_le, int_lt, nat_le}

pub record Moment : Type 0 where
  pub ticks : ℤ
  pub grains : ℤ

abbrev pub moment_of : ℤ → ℤ → Moment
moment_of t g = record { ticks = t; grains = g }

-- by ticks, and then by grains
abbrev pub earlier : Moment → Moment → Bool
earlier a b = cond (int_lt a.ticks b.ticks) true (cond (int_lt b.ticks a.ticks) false (int_lt a.grains b.grains))

-- a sum and a difference are taken part by part
abbrev pub plus : Moment → Moment → Moment
plus a b = record { ticks = a.ticks +ℤ b.ticks; grains = a.grains +ℤ b.grains }

abbrev pub minus : Moment → Moment → Moment
minus a b = record { ticks = a.ticks -ℤ b.ticks; grains = a.grains -ℤ b.grains }

-- a whole number of ticks, with no grains
abbrev pub whole : ℤ → Moment
whole z = record { ticks = z; grains = pos 0 }

-- second minus first is at most bound
abbrev pub within : Moment → Moment → Moment → Bool
within first second bound = not (earlier bound (minus second first))

abbrev pub same_integer : ℤ → ℤ → Bool
same_integer y z = int_le y z && int_le z y

abbrev pub same_moment : Moment → Moment → Bool
same_moment a b = same_integer a.ticks b.ticks && same_integer a.grains b.grains

abbrev pub is_zero : Moment → Bool
is_zero m = same_moment m (whole (pos 0))

-- from minus h to h
abbrev pub between : ℤ → ℤ → Bool
between h z = int_le (pos 0 -ℤ h) z && int_le z h

-- the range of times
abbrev pub in_range : Moment → Bool
in_range m = between (pos 1000000000) m.ticks && between (pos 1000000) m.grains

-- so many whole ticks later, unless that leaves the range
abbrev pub added : Moment → ℕ → Option Moment
added m n = let s = plus m (whole (pos n)) in cond (in_range s) (Some s) None

-- the ticks alone, so many later
abbrev pub later_ticks : ℤ → ℕ → Option ℤ
later_ticks z n = let s = z +ℤ pos n in cond (between (pos 1000000000) s) (Some s) None

-- how many ticks can be added
abbrev pub ticks_of : ℕ → Option ℕ
ticks_of n = cond (nat_le n 1000000000) (Some n) None

-- the ticks, less 1 where the moment lies before its own whole tick
abbrev pub last_tick : Moment → ℤ
last_tick m = cond (int_lt m.grains (pos 0)) (m.ticks -ℤ pos 1) m.ticks

-- z is the last whole tick that is not later than m
pub record LastWhole (m : Moment) (z : ℤ) : Type 0 where
  pub reached : earlier m (whole z) ≡ false
  pub last : (y : ℤ) → earlier m (whole y) ≡ false → y ≤ℤ z

-- what the bound of a limit keeps to
abbrev pub bound_rule : Moment → Bool
bound_rule m = between (pos 1000000) m.ticks && between (pos 1000) m.grains

-- what a time of a table keeps to: it is not before zero and not too late
abbrev pub table_rule : Moment → Bool
table_rule m = not (earlier m (whole (pos 0))) && (int_le m.ticks (pos 1000000) && between (pos 1000) m.grains)
