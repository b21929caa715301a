-- The head of a shifted plan.
use Rattle.std.proofs.Common.{◌≡◌, ℕ, zero, suc, ◌+◌, ◌<◌, ◌≤◌, List, ◌∷◌, map, take, refl, ap, arith}
use Rattle.std.specs.List.{range_with_len}
use Rattle.std.proofs.lemmas.List.FromFn.{length-range_with_len, get_or-range_with_len}
use Rattle.refusals.specs.declared.Refusal.{Refusal}
use Rattle.times.specs.Moments.{Moment}
use Rattle.heads.specs.Heads.{Outline, outline, outline_of, IsHead, HeadRefused, counts, figures, test}
use Rattle.plans.specs.Plans.{Plan, letters}
use Rattle.plans.specs.Views.{limit_of, plan_of}
use Rattle.heads.specs.declared.Head.{Head}
use Rattle.plans.specs.declared.limits.Limit.{Limit}
use Rattle.shift_theory.specs.Shifts.{points_size, shifted_outline, shifted_limits, shifted_plan}

take_counting : (a n k : ℕ) → k ≤ n → take k (range_with_len a n) ≡ range_with_len a k
take_counting a n zero h = refl
take_counting a zero (suc k) h = absurd (omega arith)
take_counting a (suc n) (suc k) h = ap (λ xs. a ∷ xs) (take_counting (a + 1) n k (omega arith))

pub no_refusal : (o : Outline) (r : Refusal) → IsHead o → HeadRefused o r → ⊥
no_refusal o r h (counts broken) = broken h.counts
no_refusal o r h (figures c broken) = broken h.figures
no_refusal o r h (test c f i l before broken) = broken (h.tests i l)

module _ (p : Plan) (round : ℕ) (some : 1 ≤ p.points) (few : points_size p ≤ 48) (lettered : letters p ≤ 6) (rounded : round ≤ 1000000) where
  pub shifted_is_head : IsHead (shifted_outline p round)
  shifted_is_head =
      let long = length-range_with_len p.points (letters p) in
      record {
        counts = record { some = omega arith; few = few; lettered = omega arith };
        figures = record { rounded = rounded; delayed = omega arith };
        tests = λ i l.
            let below : i < letters p = omega arith in
            let at = get_or-range_with_len p.points (letters p) i 0 below in
            record { started = omega arith; placed = omega arith; new = λ j before e. let there = get_or-range_with_len p.points (letters p) j 0 (omega arith) in omega arith };
      }

-- the tests from an array that counts up
pub outline_is : (p : Plan) (w k r round : ℕ) (tests : List ℕ) → w ≡ points_size p → tests ≡ range_with_len p.points 6 → k ≡ letters p → r ≡ round → letters p ≤ 6 → outline w (take k tests) r 0 ≡ shifted_outline p round
outline_is p w k r round tests a b c e h = rw (a, b, c, e, take_counting p.points 6 (letters p) h)

-- a head with that outline, and limits, are the shifted plan
pub plan_is : {X : Type 0} (of : X → Moment) (h : Head) (ls : List (Limit X)) (p : Plan) (d round : ℕ) → outline_of h ≡ shifted_outline p round → map (limit_of of) ls ≡ shifted_limits p d → plan_of of h ls ≡ shifted_plan p d
plan_is of h ls p d round e l = λ i. record { points = (e i).points; tests = (e i).tests; limits = l i }
