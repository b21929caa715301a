-- What a search by a test finds.
use Rattle.std.proofs.Common.{◌≡◌, ℕ, ◌<◌, Bool, true, false, Some, None, Option, subst}
use Rattle.refusals.specs.Searches.{first, when}
use Rattle.refusals.proofs.Firsts.{first_none, first_some, when_none, when_some}

-- the first of the numbers below n that passes, or none passes
abbrev pub Found : (ℕ → Bool) → ℕ → Option ℕ → Type 0
Found f n None = (k : ℕ) → k < n → f k ≡ false
Found f n (Some a) = (a < n) × (f a ≡ true) × ((k : ℕ) → k < a → f k ≡ false)

pub found : (n : ℕ) (f : ℕ → Bool) (o : Option ℕ) → first n (λ k. when (f k) k) ≡ o → Found f n o
found n f None e = λ k h. when_none _ _ (first_none n _ e k h)
found n f (Some a) e =
    let s = first_some n (λ k. when (f k) k) a e in
    let w = when_some _ _ a s.2 in
    subst (λ k. Found f n (Some k)) w.1 (s.1, w.0, λ k h. when_none _ _ (s.3 k h))
