-- Fields laid end to end by number, and what a loop over them knows.
use Rattle.std.proofs.Common.{◌≡◌, ℕ, zero, suc, ◌+◌, ◌<◌, ◌≤◌, List, [], ◌∷◌, ◌++◌, length, get_or, sym, refl, ap, ◌∙◌, subst, ⊎_elim, append_assoc, add-one, arith, length-append}
use Rattle.std.proofs.lemmas.List.{append-nil, get_or_append_left, get_or_push}
use Rattle.std.proofs.lemmas.Bool.{cases_lt}
use Rattle.refusals.specs.Answers.{Answer, given, refused}
use Rattle.refusals.specs.declared.Refusal.{Refusal}
use Rattle.fields.specs.Fields.{Field, AllKept}
use Rattle.fields.proofs.Chains.{onward, halted}
use Rattle.fields.specs.Laid.{laid, passing}

abbrev pub yes : Answer (Unit {0})
yes = given tt

module _ {X : Type 0} (f : ℕ → List X) where
  pub laid_more : (j : ℕ) → laid (j + 1) f ≡ laid j f ++ f j
  laid_more j = rw add-one

  -- what is laid first stands in front
  pub laid_split : (j n : ℕ) → j ≤ n → (rest : List X) × (laid n f ≡ laid j f ++ rest)
  laid_split j zero h = let e : j ≡ 0 = omega arith in ([], rw e)
  laid_split j (suc n) h =
      ⊎_elim
      (λ (l : j < suc n). let s = laid_split j n (omega arith) in (s.0 ++ f n, ap (λ xs. xs ++ f n) s.1 ∙ append_assoc (laid j f) s.0 (f n)))
      (λ (l : suc n ≤ j). let e : j ≡ suc n = omega arith in ([], rw e (sym (append-nil (laid (suc n) f)))))
      (cases_lt j (suc n))

-- single things

module _ {X : Type 0} (f : ℕ → X) where
  pub length-laid : (n : ℕ) → length (laid n (λ i. f i ∷ [])) ≡ n
  length-laid zero = refl
  length-laid (suc n) = length-append (laid n (λ i. f i ∷ [])) (f n ∷ []) ∙ omega (arith, length-laid n)

  pub get_or-laid : (n i : ℕ) (d : X) → i < n → get_or (laid n (λ i. f i ∷ [])) i d ≡ f i
  get_or-laid zero i d h = absurd (omega arith)
  get_or-laid (suc n) i d h =
      ⊎_elim
      (λ (l : i < n). get_or_append_left (laid n (λ i. f i ∷ [])) (f n ∷ []) d i (omega (arith, length-laid n)) ∙ get_or-laid n i d l)
      (λ (l : n ≤ i). let e : n ≡ i = omega arith in subst (λ i. get_or (laid (suc n) (λ i. f i ∷ [])) i d ≡ f i) e (get_or_push (laid n (λ i. f i ∷ [])) (f n) d n (length-laid n)))
      (cases_lt i n)

-- fields that have passed, up to a number

module _ (file : List ℕ) where
  pub kept_left : (fs gs : List Field) → AllKept file (fs ++ gs) → AllKept file fs
  kept_left [] gs h = tt
  kept_left (f ∷ fs) gs h = (h.0, kept_left fs gs h.1)

  pub kept_right : (fs gs : List Field) → AllKept file (fs ++ gs) → AllKept file gs
  kept_right [] gs h = h
  kept_right (f ∷ fs) gs h = kept_right fs gs h.1

  pub kept_both : (fs gs : List Field) → AllKept file fs → AllKept file gs → AllKept file (fs ++ gs)
  kept_both [] gs h k = k
  kept_both (f ∷ fs) gs h k = (h.0, kept_both fs gs h.1 k)

module _ (file : List ℕ) (f : ℕ → List Field) where
  pub kept_at : (n i : ℕ) → i < n → AllKept file (laid n f) → AllKept file (f i)
  kept_at zero i l h = absurd (omega arith)
  kept_at (suc n) i l h =
      ⊎_elim
      (λ (b : i < n). kept_at n i b (kept_left file (laid n f) (f n) h))
      (λ (b : n ≤ i). let e : n ≡ i = omega arith in subst (λ i. AllKept file (f i)) e (kept_right file (laid n f) (f n) h))
      (cases_lt i n)

  pub kept_each : (n : ℕ) → ((i : ℕ) → i < n → AllKept file (f i)) → AllKept file (laid n f)
  kept_each zero h = tt
  kept_each (suc n) h = kept_both file (laid n f) (f n) (kept_each n (λ i l. h i (omega arith))) (h n (omega arith))

  -- the loop stands at j, and what it checks there passes, or is refused

  pub passes : (j : ℕ) → yes ≡ passing file (laid j f) → yes ≡ passing file (f j) → yes ≡ passing file (laid (j + 1) f)
  passes j e h = rw (laid_more f j) (h ∙ sym (onward file (laid j f) (f j) tt tt tt e).1)

  pub stops : (n k j : ℕ) (r : Refusal) → k ≡ n → j < k → yes ≡ passing file (laid j f) → refused r ≡ passing file (f j) → refused r ≡ passing file (laid n f)
  stops n k j r q l e h =
      let s = laid_split f (j + 1) n (omega arith) in
      let here : refused r ≡ passing file (laid (j + 1) f) = rw (laid_more f j) (h ∙ sym (onward file (laid j f) (f j) tt tt tt e).1) in
      rw s.1 (halted file (laid (j + 1) f) s.0 tt tt r here)

  pub ends : (n k j : ℕ) → k ≡ n → j ≤ k → k ≤ j → yes ≡ passing file (laid j f) → yes ≡ passing file (laid n f)
  ends n k j q below above h = let e : j ≡ n = omega arith in subst (λ j. yes ≡ passing file (laid j f)) e h
