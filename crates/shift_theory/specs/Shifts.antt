-- A plan with a delay as a plan without one: each test becomes a plain point, and a new test stands the delay after it.
use Rattle.std.specs.Prelude.{ℕ, ◌+◌, ◌-◌, ◌*◌, ◌/◌, ◌%◌, Bool, cond, not, ◌&&◌, List, [], ◌∷◌, ◌++◌, map, length, ℤ, pos, neg_ℤ, Option, int_le, nat_le, nat_lt}
use Rattle.std.specs.List.{range_with_len, flat_map}
use Rattle.refusals.specs.Answers.{Answer, unless, refusal_at}
use Rattle.refusals.specs.declared.Refusal.{Refusal}
use Rattle.times.specs.Moments.{Moment, plus, whole}
use Rattle.heads.specs.Heads.{Outline, outline}
use Rattle.plans.specs.Memory.{memory_refusal}
use Rattle.plans.specs.Plans.{Plan, letters, test, rows, moment}
use Rattle.refusals.specs.Searches.{or_else, when, every}
use Rattle.plans.specs.declared.limits.Limit.{Limit}

-- so many ticks later; grains stay
abbrev pub later : Moment → ℕ → Moment
later o d = plus o (whole (pos d))

-- a limit without letters
abbrev pub plain_limit : ℕ → ℕ → ℤ → Limit Moment
plain_limit x y ticks = record { from = x; to = y; wanted = 0; unwanted = 0; bound = whole ticks }

module _ (p : Plan) where
  -- how many points the shifted plan has, how many limits, and how many times its table has
  abbrev pub points_size : ℕ
  points_size = p.points + letters p

  abbrev pub limits_size : ℕ
  limits_size = length p.limits + 2 * letters p

  abbrev pub times_size : ℕ
  times_size = rows p * points_size

  -- test i becomes the i-th point after the old ones
  abbrev pub new_tests : List ℕ
  new_tests = range_with_len p.points (letters p)

  -- r stays, and there is no delay
  abbrev pub shifted_outline : ℕ → Outline
  shifted_outline round = outline points_size new_tests round 0

  module _ (d : ℕ) where
    -- of test i: new minus old is at most d, and old minus new is at most minus d
    abbrev pub new_limits : ℕ → List (Limit Moment)
    new_limits i = plain_limit (test p i) (p.points + i) (pos d) ∷ plain_limit (p.points + i) (test p i) (neg_ℤ (pos d)) ∷ []

    -- the old limits, and then two for each test
    abbrev pub shifted_limits : List (Limit Moment)
    shifted_limits = p.limits ++ flat_map new_limits (range_with_len 0 (letters p))

    abbrev pub shifted_plan : Plan
    shifted_plan = record { points = points_size; tests = new_tests; limits = shifted_limits }

module _ (p : Plan) (ts : List Moment) (d : ℕ) where
  -- the moment of a new test in a row
  abbrev pub new_moment : ℕ → ℕ → Moment
  new_moment row i = later (moment p ts row (test p i)) d

  -- a row has the moments of the old points, and then those of the new tests
  abbrev pub shifted_moment : ℕ → ℕ → Moment
  shifted_moment row x = cond (nat_lt x p.points) (moment p ts row x) (new_moment row (x - p.points))

  -- by row, and then by point
  abbrev pub shifted_table : List Moment
  shifted_table = map (λ at. shifted_moment (at / points_size p) (at % points_size p)) (range_with_len 0 (times_size p))

  -- of a new time the ticks alone count
  abbrev pub timely : ℕ → ℕ → Bool
  timely row i = int_le (new_moment row i).ticks (pos 1000000)

  abbrev pub all_timely : Bool
  all_timely = every (rows p) (λ row. every (letters p) (timely row))

  -- at most 48 points, at most 256 limits, and no new time of more than 1,000,000 ticks
  abbrev pub small : Bool
  small = (nat_le (points_size p) 48 && nat_le (limits_size p) 256) && all_timely

  abbrev pub large_refusal : Option Refusal
  large_refusal = when (not small) (refusal_at 18 0)

-- 11: an array has room for fewer than there are
abbrev pub room_refusal : ℕ → ℕ → Option Refusal
room_refusal room size = when (nat_lt room size) (refusal_at 11 size)

module _ (p : Plan) (ts : List Moment) (d : ℕ) (limits_room times_room : ℕ) where
  abbrev pub rooms_refusal : Option Refusal
  rooms_refusal = or_else (room_refusal limits_room (limits_size p)) (room_refusal times_room (times_size p))

  -- the rules of memory, then 18, then 11 for limits, then 11 for times
  abbrev pub shift_refusal : Option Refusal
  shift_refusal = or_else (memory_refusal p ts) (or_else (large_refusal p ts d) rooms_refusal)

  -- the head of the shifted plan, or the first refusal
  abbrev pub shift_answer : ℕ → Answer Outline
  shift_answer round = unless shift_refusal (shifted_outline p round)
