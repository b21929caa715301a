-- Moments are in a strict total order, and the least of some numbers by it.
use Rattle.std.proofs.Common.{◌≡◌, ℕ, zero, suc, ◌<◌, Bool, true, false, ◌⊎◌, ℤ, refl, inl, inr, arith}
use Rattle.std.proofs.lemmas.Int.{ints}
use Rattle.std.proofs.lemmas.Bool.{cases_Bool, both_ways, and_parts, and_from}
use Rattle.times.specs.Moments.{Moment, earlier, same_integer, same_moment}
use Rattle.refusals.proofs.Firsts.{below_suc}

by_parts : (a b : Moment) → a.ticks ≡ b.ticks → a.grains ≡ b.grains → a ≡ b
by_parts a b t g = λ i. record { ticks = t i; grains = g i }

pub same_equal : (a b : Moment) → earlier a b ≡ false → earlier b a ≡ false → a ≡ b
same_equal a b l r = by_parts a b (grind (arith, ints)) (grind (arith, ints))

pub earlier_self : (a : Moment) → earlier a a ≡ false
earlier_self a = grind (arith, ints)

pub earlier_not : (a b : Moment) → earlier a b ≡ true → earlier b a ≡ false
earlier_not a b h = grind (arith, ints)

pub not_later : (a b c : Moment) → earlier b a ≡ false → earlier c b ≡ false → earlier c a ≡ false
not_later a b c l r = grind (arith, ints)

integer_equal : (y z : ℤ) → same_integer y z ≡ true → y ≡ z
integer_equal y z e = grind (arith, ints)

integer_self : (z : ℤ) → same_integer z z ≡ true
integer_self z = grind (arith, ints)

pub same_moment_equal : (a b : Moment) → same_moment a b ≡ true → a ≡ b
same_moment_equal a b e = let both = and_parts _ _ e in by_parts a b (integer_equal _ _ both.0) (integer_equal _ _ both.1)

pub equal_same_moment : (a b : Moment) → a ≡ b → same_moment a b ≡ true
equal_same_moment a b e = rw e (and_from _ _ (integer_self b.ticks) (integer_self b.grains))

-- the earliest of the values of f at the numbers below n that pass the test
pub record Least (f : ℕ → Moment) (passes : ℕ → Bool) (n y : ℕ) : Type 0 where
  pub below : y < n
  pub passing : passes y ≡ true
  pub least : (z : ℕ) → z < n → passes z ≡ true → earlier (f z) (f y) ≡ false

module _ (f : ℕ → Moment) (passes : ℕ → Bool) where
  abbrev NoneBelow : ℕ → Type 0
  NoneBelow n = (z : ℕ) → z < n → passes z ≡ false

  kept : (n y : ℕ) → Least f passes n y → (passes n ≡ true → earlier (f n) (f y) ≡ false) → Least f passes (suc n) y
  kept n y l here = record {
    below = omega (arith, l.below);
    passing = l.passing;
    least = below_suc (λ z. passes z ≡ true → earlier (f z) (f y) ≡ false) n l.least here;
  }

  taken : (n : ℕ) → passes n ≡ true → ((z : ℕ) → z < n → passes z ≡ true → earlier (f z) (f n) ≡ false) → Least f passes (suc n) n
  taken n h before = record {
    below = omega arith;
    passing = h;
    least = below_suc (λ z. passes z ≡ true → earlier (f z) (f n) ≡ false) n before (λ _. earlier_self (f n));
  }

  pub least_or_none : (n : ℕ) → NoneBelow n ⊎ ((y : ℕ) × Least f passes n y)
  least_or_none zero = inl (λ z h. absurd (omega arith))
  least_or_none (suc n) = more (least_or_none n) (cases_Bool (passes n))
    where
      better : (y : ℕ) → Least f passes n y → passes n ≡ true → (b : Bool) → earlier (f n) (f y) ≡ b → (y : ℕ) × Least f passes (suc n) y
      better y l h true e = (n, taken n h (λ z k t. not_later (f n) (f y) (f z) (earlier_not (f n) (f y) e) (l.least z k t)))
      better y l h false e = (y, kept n y l (λ _. e))

      more : NoneBelow n ⊎ ((y : ℕ) × Least f passes n y) → (passes n ≡ true) ⊎ (passes n ≡ false) → NoneBelow (suc n) ⊎ ((y : ℕ) × Least f passes (suc n) y)
      more (inl none) (inl h) = inr (n, taken n h (λ z l k. absurd (both_ways _ (none z l) k)))
      more (inl none) (inr h) = inl (below_suc (λ z. passes z ≡ false) n none h)
      more (inr some) (inl h) = inr (better some.0 some.1 h (earlier (f n) (f some.0)) refl)
      more (inr some) (inr h) = inr (some.0, kept n some.0 some.1 (λ k. absurd (both_ways _ h k)))
