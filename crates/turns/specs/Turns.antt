-- Which row is played, which of its steps comes next, and which outcome a step waits for. Sets of bits say which points are released, which letters have their token out, which are told, and which of those are told true.
use Rattle.std.specs.Prelude.{ℕ, Bool, not, ◌&&◌, ◌||◌, List, Option, ◌==◌}
use Rattle.refusals.specs.Answers.{refusal_at}
use Rattle.refusals.specs.Searches.{first, when, every, same}
use Rattle.refusals.specs.declared.Refusal.{Refusal}
use Rattle.sets.specs.Sets.{has}
use Rattle.times.specs.Moments.{Moment, earlier}
use Rattle.rules.specs.Meanings.{Meaning}
use Rattle.plans.specs.Plans.{Plan, letters, rows, test, holds, moment}
use Rattle.offences.specs.Verdicts.{sees}

-- a row has a letter as it was told, if it was
abbrev pub agrees_in : (told outcomes row i : ℕ) → Bool
agrees_in told outcomes row i = not (has told i) || same (holds row i) (has outcomes i)

module _ (p : Plan) where
  -- a row agrees with all outcomes told
  abbrev pub agrees : (told outcomes row : ℕ) → Bool
  agrees told outcomes row = every (letters p) (agrees_in told outcomes row)

  abbrev pub lowest : (told outcomes : ℕ) → Option ℕ
  lowest told outcomes = first (rows p) (λ row. when (agrees told outcomes row) row)

  -- the letter of a point that is a test
  abbrev pub letter_of : ℕ → Option ℕ
  letter_of x = first (letters p) (λ i. when (test p i == x) i)

module _ (p : Plan) (ts : List Moment) where
  -- a point is released, or not earlier than x in the row
  abbrev pub behind : (released row x y : ℕ) → Bool
  behind released row x y = has released y || not (earlier (moment p ts row y) (moment p ts row x))

  -- x is not released, and no point that is not released is earlier
  abbrev pub leads : (released row x : ℕ) → Bool
  leads released row x = not (has released x) && every p.points (behind released row x)

  -- the earliest of them, and the lowest of those at its moment
  abbrev pub earliest : (released row : ℕ) → Option ℕ
  earliest released row = first p.points (λ x. when (leads released row x) x)

module _ (p : Plan) (ts : List Moment) (m : Meaning) where
  -- a letter's token is out, it is not told, and it is seen at t in the row
  abbrev pub waits_for : (out told row : ℕ) → Moment → ℕ → Bool
  waits_for out told row t i = (has out i && not (has told i)) && sees p ts m row t i

  -- 16, with the lowest such letter
  abbrev pub waiting : (out told row x : ℕ) → Option Refusal
  waiting out told row x = first (letters p) (λ i. when (waits_for out told row (moment p ts row x) i) (refusal_at 16 i))
