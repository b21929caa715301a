-- The verdict on a plan and a table under the meaning of a rule.
use Rattle.std.specs.Prelude.{ℕ, Bool, not, ◌&&◌, ◌||◌, List, length, Option}
use Rattle.refusals.specs.Answers.{Answer, unless}
use Rattle.refusals.specs.declared.Refusal.{Refusal}
use Rattle.times.specs.Moments.{Moment, same_moment}
use Rattle.rules.specs.Meanings.{Meaning}
use Rattle.refusals.specs.Searches.{or_else, first, when, every, same}
use Rattle.plans.specs.Plans.{Plan, letters, rows, test, holds, moment, limit_at, applies, keeps}
use Rattle.plans.specs.Memory.{memory_refusal}
use Rattle.plans.specs.declared.limits.Limit.{Limit}

-- 12: row, limit
abbrev pub limit_offence : ℕ → ℕ → Refusal
limit_offence row j = record { number = 12; first = row; second = j; third = 0 }

-- 13: row, row, point
abbrev pub early_offence : ℕ → ℕ → ℕ → Refusal
early_offence a b x = record { number = 13; first = a; second = b; third = x }

module _ (p : Plan) (ts : List Moment) where
  -- a limit applies in a row and is not kept there
  abbrev pub breaks_limit : ℕ → Limit Moment → Bool
  breaks_limit row l = applies l row && not (keeps p ts row l)

  abbrev pub breaks : ℕ → ℕ → Bool
  breaks row j = breaks_limit row (limit_at p j)

  abbrev pub break_in : ℕ → Option Refusal
  break_in row = first (length p.limits) (λ j. when (breaks row j) (limit_offence row j))

  abbrev pub first_break : Option Refusal
  first_break = first (rows p) break_in

module _ (p : Plan) (ts : List Moment) (m : Meaning) where
  -- a row sees a letter at a moment
  abbrev pub sees : ℕ → Moment → ℕ → Bool
  sees row t i = m i (moment p ts row (test p i)) t

  -- both rows see the letter, with one value, or neither sees it
  abbrev pub alike_in : ℕ → ℕ → Moment → ℕ → Bool
  alike_in a b t i = same (sees a t i) (sees b t i) && (not (sees a t i) || same (holds a i) (holds b i))

  -- both rows see the same letters with the same values
  abbrev pub alike : ℕ → ℕ → Moment → Bool
  alike a b t = every (letters p) (alike_in a b t)

  -- row a acts at a point on what it does not see there: row b sees the same, and has the point at another moment
  abbrev pub acts_early : ℕ → ℕ → ℕ → Bool
  acts_early a b x = not (same_moment (moment p ts a x) (moment p ts b x)) && alike a b (moment p ts a x)

  abbrev pub early_between : ℕ → ℕ → Option Refusal
  early_between a b = first p.points (λ x. when (acts_early a b x) (early_offence a b x))

  abbrev pub early_in : ℕ → Option Refusal
  early_in a = first (rows p) (early_between a)

  abbrev pub first_early : Option Refusal
  first_early = first (rows p) early_in

  -- the first limit offence by row, then limit; else the first early offence by row, row, then point
  abbrev pub offence : Option Refusal
  offence = or_else (first_break p ts) first_early

  -- the rules of memory come first
  abbrev pub verdict : Answer (Unit {0})
  verdict = unless (or_else (memory_refusal p ts) offence) tt
