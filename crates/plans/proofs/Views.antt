-- What is read of lent slices.
use Rattle.std.proofs.Common.{◌≡◌, ℕ, ◌^◌, ◌<◌, Bool, true, false, not, List, length, get_or, Some, None, Option, sym, ap, ◌∙◌, arith}
use lib.ListN.{length-map}
use Rattle.std.proofs.lemmas.List.{get_or-map}
use Rattle.refusals.specs.Answers.{refusal_at}
use Rattle.refusals.specs.declared.Refusal.{Refusal}
use Rattle.times.specs.Moments.{Moment, bound_rule}
use Rattle.heads.specs.declared.Head.{Head}
use Rattle.heads.proofs.Tests.{length-tests, read_test}
use Rattle.plans.specs.Plans.{Plan, letters, rows, test, limit_at}
use Rattle.plans.specs.Memory.{fitting, fits, limit_refusal}
use Rattle.refusals.specs.Searches.{or_else, when}
use Rattle.plans.specs.Views.{limit_of, plan_of}
use Rattle.plans.specs.declared.limits.Limit.{Limit}

module _ {X : Type 0} (f : X → Moment) (h : Head) (ls : List (Limit X)) where
  pub letters_of : h.letters ≡ letters (plan_of f h ls)
  letters_of = sym (length-tests h)

  pub rows_of : 2 ^ h.letters ≡ rows (plan_of f h ls)
  rows_of = ap (λ n. 2 ^ n) letters_of

  pub limits_of : length ls ≡ length (plan_of f h ls).limits
  limits_of = simp length-map

  -- each test is a point of the plan
  pub placed_of : (i : ℕ) → i < letters (plan_of f h ls) → test (plan_of f h ls) i < h.points
  placed_of i lt =
      let e = letters_of in
      let below : i < h.letters = omega arith in
      rw (← read_test h i) (h.placed i below)

-- a limit that was read, and the two rules that it is asked for
module _ {X : Type 0} (f : X → Moment) (h : Head) (ls : List (Limit X)) (j : ℕ) (d : Limit X) (lt : j < length ls) where
  abbrev plan : Plan
  plan = plan_of f h ls

  pub limit_there : limit_of f (get_or ls j d) ≡ limit_at plan j
  limit_there = sym (get_or-map (limit_of f) ls j d _ lt)

  -- what refuses the limit
  abbrev pub asked : Option Refusal
  asked = or_else (when (not (fitting h.points (2 ^ h.letters) d)) (refusal_at 8 j)) (when (not (bound_rule (f d.bound))) (refusal_at 9 j))

  pub limit_asked : d ≡ get_or ls j d → asked ≡ limit_refusal plan j
  limit_asked is =
      ap (λ rows. or_else (when (not (fitting h.points rows d)) (refusal_at 8 j)) (when (not (bound_rule (f d.bound))) (refusal_at 9 j))) (rows_of f h ls)
      ∙ ap (λ l. or_else (when (not (fits plan l)) (refusal_at 8 j)) (when (not (bound_rule l.bound)) (refusal_at 9 j))) (ap (limit_of f) is ∙ limit_there)

-- one rule after another
module _ {X : Type 0} (x y : X) where
  pub first_rule : (a b : Bool) → false ≡ a → Some x ≡ or_else (when (not a) x) (when (not b) y)
  first_rule a b e = rw (← e)

  pub second_rule : (a b : Bool) → true ≡ a → false ≡ b → Some y ≡ or_else (when (not a) x) (when (not b) y)
  second_rule a b e h = rw (← e, ← h)

  pub both_rules : (a b : Bool) → true ≡ a → true ≡ b → None ≡ or_else (when (not a) x) (when (not b) y)
  both_rules a b e h = rw (← e, ← h)
