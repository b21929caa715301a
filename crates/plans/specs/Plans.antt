-- Plans and tables, over moments. No kind of time and no rule is named here.
use Rattle.std.specs.Prelude.{ℕ, ◌+◌, ◌*◌, ◌^◌, ◌<◌, Bool, ◌&&◌, List, length, pos, ◌==◌, bit_and, slice_index, slice_index_or}
use Rattle.sets.specs.Sets.{has}
use Rattle.times.specs.Moments.{Moment, whole, within}
use Rattle.plans.specs.declared.limits.Limit.{Limit}

-- so many points, of which 0 is the start; the point of each test; and the limits
pub record Plan : Type 0 where
  pub points : ℕ
  pub tests : List ℕ
  pub limits : List (Limit Moment)

-- letter i is the outcome of test i
abbrev pub letters : Plan → ℕ
letters p = length p.tests

abbrev pub test : Plan → ℕ → ℕ
test p i = slice_index p.tests i

-- a table has a row for each way in which the tests can come out
abbrev pub rows : Plan → ℕ
rows p = 2 ^ letters p

-- letter i is true in a row whose number has bit i
abbrev pub holds : ℕ → ℕ → Bool
holds row i = has row i

-- the points that a row has a time for: all of them
abbrev pub Step : Plan → ℕ → ℕ → Type 0
Step p row x = x < p.points

-- a table of so many points and letters has a time for each point in each row
abbrev pub size_for : ℕ → ℕ → ℕ
size_for n k = 2 ^ k * n

-- where a table of so many points keeps the time of a point in a row: by row, and then by point
abbrev pub place_for : ℕ → ℕ → ℕ → ℕ
place_for n row x = row * n + x

abbrev pub place : Plan → ℕ → ℕ → ℕ
place p row x = place_for p.points row x

abbrev pub origin : Moment
origin = whole (pos 0)

-- the moment of a point in a row
abbrev pub moment : Plan → List Moment → ℕ → ℕ → Moment
moment p ts row x = slice_index_or ts (place p row x) origin

abbrev pub limit_at : Plan → ℕ → Limit Moment
limit_at p j = slice_index_or p.limits j (record { from = 0; to = 0; wanted = 0; unwanted = 0; bound = origin })

-- a limit applies in a row that has all its letters as wanted
abbrev pub applies : Limit Moment → ℕ → Bool
applies l row = bit_and row l.wanted == l.wanted && bit_and row l.unwanted == 0

-- the second point's time minus the first's is at most the bound
abbrev pub keeps : Plan → List Moment → ℕ → Limit Moment → Bool
keeps p ts row l = within (moment p ts row l.from) (moment p ts row l.to) l.bound
