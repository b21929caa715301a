-- What searches by number find, and what a loop that makes one knows.
use Rattle.std.proofs.Common.{◌≡◌, ℕ, zero, suc, ◌+◌, ◌<◌, ◌≤◌, Bool, true, false, ◌⊎◌, Some, None, Option, sym, refl, subst, inl, inr, ⊎_elim, add-one, arith}
use Rattle.std.proofs.lemmas.Bool.{and_parts, and_from, and_left, and_right, cases_lt}
use Rattle.refusals.specs.Searches.{or_else, first, when, every}

-- what holds below n and at n
pub below_suc : (P : ℕ → Type 0) (n : ℕ) → ((i : ℕ) → i < n → P i) → P n → (i : ℕ) → i < suc n → P i
below_suc P n below here i h = ⊎_elim (below i) (λ l. let e : n ≡ i = omega arith in subst P e here) (cases_lt i n)

module _ {X : Type 0} where
  pub some_none : (x : X) → Some x ≡ None → ⊥
  some_none x e = let z : ◌≡◌ {A = ℕ} 0 1 = cc in omega arith

  -- one search, or else another

  pub or_none : (a b : Option X) → or_else a b ≡ None → (a ≡ None) × (b ≡ None)
  or_none None b e = (refl, e)
  or_none (Some x) b e = absurd (some_none x e)

  pub none_or : (a b : Option X) → a ≡ None → b ≡ None → or_else a b ≡ None
  none_or a b e h = rw e h

  pub or_some : (a b : Option X) (x : X) → or_else a b ≡ Some x → (a ≡ Some x) ⊎ ((a ≡ None) × (b ≡ Some x))
  or_some None b x e = inr (refl, e)
  or_some (Some y) b x e = inl e

  -- an answer under a test

  pub when_none : (b : Bool) (x : X) → when b x ≡ None → b ≡ false
  when_none true x e = absurd (some_none x e)
  when_none false x e = refl

  pub none_when : (b : Bool) (x : X) → b ≡ false → when b x ≡ None
  none_when b x e = rw e

  pub when_some : (b : Bool) (x y : X) → when b x ≡ Some y → (b ≡ true) × (x ≡ y)
  when_some true x y e = (refl, cc)
  when_some false x y e = absurd (some_none y (sym e))

  -- the first answer

  pub first_none : (n : ℕ) (f : ℕ → Option X) → first n f ≡ None → (i : ℕ) → i < n → f i ≡ None
  first_none zero f e i h = absurd (omega arith)
  first_none (suc n) f e i h = let both = or_none (first n f) (f n) e in below_suc (λ i. f i ≡ None) n (first_none n f both.0) both.1 i h

  pub none_first : (n : ℕ) (f : ℕ → Option X) → ((i : ℕ) → i < n → f i ≡ None) → first n f ≡ None
  none_first zero f all = refl
  none_first (suc n) f all = none_or (first n f) (f n) (none_first n f (λ i h. all i (omega arith))) (all n (omega arith))

  pub first_some : (n : ℕ) (f : ℕ → Option X) (a : X) → first n f ≡ Some a → (k : ℕ) × (k < n) × (f k ≡ Some a) × ((i : ℕ) → i < k → f i ≡ None)
  first_some zero f a e = absurd (some_none a (sym e))
  first_some (suc n) f a e = elim (or_some (first n f) (f n) a e) [ inl h ↦ let s = first_some n f a h in (s.0, omega (arith, s.1), s.2, s.3) | inr h ↦ (n, omega arith, h.1, first_none n f h.0) ]

  -- a search in a search: the first by r, and then by x
  pub first_pair : (n m : ℕ) (f : ℕ → ℕ → Option X) (a : X) → first n (λ r. first m (f r)) ≡ Some a → (r : ℕ) × (x : ℕ) × (r < n) × (x < m) × (f r x ≡ Some a) × ((s i : ℕ) → i < m → (s < r) ⊎ ((s ≡ r) × (i < x)) → f s i ≡ None)
  first_pair n m f a e =
      let u = first_some n (λ r. first m (f r)) a e in
      let v = first_some m (f u.0) a u.2 in
      (u.0, v.0, u.1, v.1, v.2, λ s i h before. elim before [ inl l ↦ first_none m (f s) (u.3 s l) i h | inr l ↦ rw l.0 (v.3 i l.1) ])

  -- and one deeper: by r, then by s, then by x
  pub first_triple : (n k m : ℕ) (f : ℕ → ℕ → ℕ → Option X) (a : X) → first n (λ r. first k (λ s. first m (f r s))) ≡ Some a → (r : ℕ) × (s : ℕ) × (x : ℕ) × (r < n) × (s < k) × (x < m) × (f r s x ≡ Some a) × ((c d y : ℕ) → d < k → y < m → (c < r) ⊎ ((c ≡ r) × ((d < s) ⊎ ((d ≡ s) × (y < x)))) → f c d y ≡ None)
  first_triple n k m f a e =
      let u = first_pair n k (λ r s. first m (f r s)) a e in
      let v = first_some m (f u.0 u.1) a u.4 in
      (u.0, u.1, v.0, u.2, u.3, v.1, v.2, λ c d y h l before. elim before [ inl b ↦ first_none m (f c d) (u.5 c d h (inl b)) y l | inr b ↦ elim b.1 [ inl q ↦ first_none m (f c d) (u.5 c d h (inr (b.0, q))) y l | inr q ↦ rw (b.0, q.0) (v.3 y q.1) ] ])

-- a test of each

pub every_true : (n : ℕ) (f : ℕ → Bool) → every n f ≡ true → (i : ℕ) → i < n → f i ≡ true
every_true zero f e i h = absurd (omega arith)
every_true (suc n) f e i h = let both = and_parts (every n f) (f n) e in below_suc (λ i. f i ≡ true) n (every_true n f both.0) both.1 i h

pub true_every : (n : ℕ) (f : ℕ → Bool) → ((i : ℕ) → i < n → f i ≡ true) → every n f ≡ true
true_every zero f all = refl
true_every (suc n) f all = and_from (every n f) (f n) (true_every n f (λ i h. all i (omega arith))) (all n (omega arith))

-- Where a search stops, and one number more.

module _ {X : Type 0} (f : ℕ → Option X) where
  -- the first answer stays the first
  pub first_found : (n j : ℕ) (a : X) → j < n → first j f ≡ None → f j ≡ Some a → first n f ≡ Some a
  first_found zero j a lt h e = absurd (omega arith)
  first_found (suc n) j a lt h e = ⊎_elim (λ (l : j < n). rw (first_found n j a l h e)) (λ (l : n ≤ j). let P : ℕ → Type 0 = λ k. or_else (first k f) (f k) ≡ Some a in let q : j ≡ n = omega arith in subst P q (rw h e)) (cases_lt j n)

module _ (f : ℕ → Bool) where
  pub every_more : (j : ℕ) → every j f ≡ true → f j ≡ true → every (j + 1) f ≡ true
  every_more j h e = rw (add-one, h) e

  pub every_fails : (n j : ℕ) → j < n → f j ≡ false → every n f ≡ false
  every_fails zero j lt e = absurd (omega arith)
  every_fails (suc n) j lt e = ⊎_elim (λ (l : j < n). and_left (every n f) (f n) (every_fails n j l e)) (λ (l : n ≤ j). let P : ℕ → Type 0 = λ k. f k ≡ false in let q : j ≡ n = omega arith in and_right (every n f) (f n) (subst P q e)) (cases_lt j n)

  pub every_stops : (n k j : ℕ) → k ≡ n → j < k → f j ≡ false → false ≡ every n f
  every_stops n k j q lt e = sym (every_fails n j (omega arith) e)
