-- A pair that was found to have no refusal.
use Rattle.std.proofs.Common.{◌≡◌, ℕ, None, Some, Option, refl, sym, ◌∙◌, ap, arith}
use Rattle.refusals.specs.Answers.{given, unless}
use Rattle.refusals.specs.declared.Refusal.{Refusal}
use Rattle.times.specs.Moments.{Moment}
use Rattle.plans.specs.Lent.{plan_in, table_in}
use Rattle.plans.specs.declared.pairs.Pair.{Pair}
use Rattle.shift_theory.specs.Lent.{delay_in}
use Rattle.shift_theory.specs.Promises.{CanShift}
use Rattle.shift_theory.specs.Shifts.{shift_refusal}
use Rattle.shift_theory.proofs.Answering.{can_from_none}

given_parts : {X : Type 0} (f : Option Refusal) (x y : X) → given x ≡ unless f y → (y ≡ x) × (f ≡ None)
given_parts None x y e = (let same : x ≡ y = cc in sym same, refl)
given_parts (Some q) x y e = let z : ◌≡◌ {A = ℕ} 0 1 = cc in absurd (omega arith)

module _ {X : Type 0} (of : X → Moment) (pair kept : Pair X) (limits_room times_room : ℕ) where
  abbrev refusal : Pair X → Option Refusal
  refusal p = shift_refusal (plan_in of p) (table_in of p) (delay_in p) limits_room times_room

  module _ (e : given kept ≡ unless (refusal pair) pair) where
    pub same : pair ≡ kept
    same = (given_parts (refusal pair) kept pair e).0

    pub none : refusal kept ≡ None
    none = ap refusal (sym same) ∙ (given_parts (refusal pair) kept pair e).1

    pub can : CanShift (plan_in of kept) (table_in of kept) (delay_in kept) limits_room times_room
    can = can_from_none _ _ _ limits_room times_room none
