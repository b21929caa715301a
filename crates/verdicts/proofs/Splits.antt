-- Where two rows first differ.
use Rattle.std.proofs.Common.{◌≡◌, ℕ, ◌<◌, Bool, true, false, cond, not, ◌⊎◌, refl, inl, inr}
use Rattle.std.proofs.lemmas.Bool.{cases_Bool, both_ways, not-false, not_from_true, cond_both}
use Rattle.times.specs.Moments.{Moment, earlier, same_moment}
use Rattle.verdicts.proofs.Order.{same_moment_equal, equal_same_moment, earlier_self, earlier_not, not_later, Least, least_or_none}

abbrev lower : Moment → Moment → Moment
lower a b = cond (earlier b a) b a

lower_left : (a b : Moment) → earlier a (lower a b) ≡ false
lower_left a b = cond_both (earlier b a) b a (λ x. earlier a x ≡ false) (earlier_not b a) (λ _. earlier_self a)

lower_right : (a b : Moment) → earlier b (lower a b) ≡ false
lower_right a b = cond_both (earlier b a) b a (λ x. earlier b x ≡ false) (λ _. earlier_self b) (λ e. e)

lower_is : (a b : Moment) → (a ≡ lower a b) ⊎ (b ≡ lower a b)
lower_is a b = cond_both (earlier b a) b a (λ x. (a ≡ x) ⊎ (b ≡ x)) (λ _. inr refl) (λ _. inl refl)

-- f and g differ at the point y, where one of them has the moment u, and at no point that one of them has before u
pub record Split (n : ℕ) (f g : ℕ → Moment) (y : ℕ) (u : Moment) : Type 0 where
  pub below : y < n
  pub apart : f y ≡ g y → ⊥
  pub meets : (f y ≡ u) ⊎ (g y ≡ u)
  pub left : (z : ℕ) → z < n → earlier (f z) u ≡ true → f z ≡ g z
  pub right : (z : ℕ) → z < n → earlier (g z) u ≡ true → f z ≡ g z

module _ (n : ℕ) (f g : ℕ → Moment) where
  abbrev low : ℕ → Moment
  low z = lower (f z) (g z)

  abbrev differ : ℕ → Bool
  differ z = not (same_moment (f z) (g z))

  module _ (y : ℕ) (l : Least low differ n y) where
    early : (z : ℕ) (t : Moment) → z < n → earlier t (low z) ≡ false → earlier t (low y) ≡ true → f z ≡ g z
    early z t below over under =
        elim (cases_Bool (differ z)) [
          | inl d ↦ absurd (both_ways _ (not_later (low y) (low z) t (l.least z below d) over) under)
          | inr d ↦ same_moment_equal (f z) (g z) (not-false _ d)
        ]

    splits : Split n f g y (low y)
    splits = record {
      below = l.below;
      apart = λ e. both_ways _ (not_from_true _ (equal_same_moment (f y) (g y) e)) l.passing;
      meets = lower_is (f y) (g y);
      left = λ z b e. early z (f z) b (lower_left (f z) (g z)) e;
      right = λ z b e. early z (g z) b (lower_right (f z) (g z)) e;
    }

  -- equal at x, or there is a first difference, not after the moment of x in f
  pub equal_or_split : (x : ℕ) → x < n → (f x ≡ g x) ⊎ ((y : ℕ) × (u : Moment) × Split n f g y u × (earlier (f x) u ≡ false))
  equal_or_split x below = by (cases_Bool (differ x)) (least_or_none low differ n)
    where
      by : (differ x ≡ true) ⊎ (differ x ≡ false) → ((z : ℕ) → z < n → differ z ≡ false) ⊎ ((y : ℕ) × Least low differ n y) → (f x ≡ g x) ⊎ ((y : ℕ) × (u : Moment) × Split n f g y u × (earlier (f x) u ≡ false))
      by (inr d) some = inl (same_moment_equal (f x) (g x) (not-false _ d))
      by (inl d) (inl none) = absurd (both_ways _ (none x below) d)
      by (inl d) (inr some) = inr (some.0, low some.0, splits some.0 some.1, not_later (low some.0) (low x) (f x) (some.1.least x below d) (lower_left (f x) (g x)))
