-- From the rules of memory and the offences to the answer.
use Rattle.std.proofs.Common.{◌≡◌, ℕ, ◌/◌, ◌%◌, ◌^◌, ◌<◌, ◌≤◌, Bool, true, false, not, ◌&&◌, eqb, ltb, Some, None, Option, sym, ap, ◌∙◌, arith}
use Rattle.std.proofs.Math.Nat.{div-eq_of_lt}
use Rattle.std.proofs.Math.Pow.{pow_mono}
use Rattle.std.proofs.lemmas.Bool.{le-ltb}
use Rattle.refusals.specs.Answers.{given, refused, unless}
use Rattle.refusals.specs.Searches.{or_else}
use Rattle.refusals.specs.declared.Refusal.{Refusal}
use Rattle.plans.specs.Plans.{holds}

module _ {X : Type 0} (x : X) where
  pub memory_stops : (a b : Option Refusal) (r : Refusal) → refused r ≡ unless a x → refused r ≡ unless (or_else a b) x
  memory_stops None b r e = let z : ◌≡◌ {A = ℕ} 0 1 = cc in absurd (omega arith)
  memory_stops (Some q) b r e = e

  pub memory_passes : (a b o : Option Refusal) → given x ≡ unless a x → o ≡ b → unless o x ≡ unless (or_else a b) x
  memory_passes None b o e h = ap (λ o. unless o x) h
  memory_passes (Some q) b o e h = let z : ◌≡◌ {A = ℕ} 0 1 = cc in absurd (omega arith)

pub both_hold : (a w v : Bool) → true ≡ a → w ≡ v → not w ≡ (a && not v)
both_hold a w v e h = grind arith

pub first_fails : (a b r : Bool) → r ≡ a → r ≡ false → r ≡ (a && b)
first_fails a b r e h = grind arith

-- a row of eight bits has no letter past them
pub no_letter : (row letter : ℕ) → row < 2 ^ 8 → 8 ≤ letter → ltb letter 8 ≡ holds row letter
no_letter row letter h l =
    let far = pow_mono l in
    let none : row / 2 ^ letter ≡ 0 = div-eq_of_lt {n = row} {m = 2 ^ letter} (omega arith) in
    le-ltb letter 8 l ∙ sym (ap (λ n. eqb (n % 2) 1) none)
