-- An array made from the numbers of its places, by a closure that counts up.
use Rattle.std.proofs.Common.{◌≡◌, ℕ, zero, suc, ◌+◌, ◌<◌, ◌≤◌, List, get_or, sym, ◌∙◌, subst, ⊎_elim, arith}
use Rattle.std.specs.Array.{IsFromFnResult, IsFromFnResultFrom}
use Rattle.std.specs.Iterator.Runs.{CallKeepsClosure}
use Rattle.std.specs.List.{range_with_len}
use Rattle.std.proofs.lemmas.Bool.{cases_lt}
use Rattle.std.proofs.lemmas.List.{ext_get_or}
use Rattle.std.proofs.lemmas.List.FromFn.{length-range_with_len, get_or-range_with_len}
use denote.Param.Members.{Mut, Called}

module _ {F : Type 0} (g : Mut F (ℕ × Unit {0}) ℕ) (f : F) (keeps : CallKeepsClosure g f) (a n : ℕ) (ys : List ℕ) where
  abbrev Counts : Type 0
  Counts = (i y : ℕ) → i < n → Called g f (i, tt) y f → y ≡ a + i

  from : Counts → (i k : ℕ) → i + k ≡ n → IsFromFnResultFrom g f ys i k → (j : ℕ) → i ≤ j → j < n → get_or ys j 0 ≡ a + j
  from counts i zero e h j l below = absurd (omega arith)
  from counts i (suc k) e h j l below =
      let same = keeps _ _ _ h.3 in
      let call = subst (λ q. Called g f (i, tt) h.1 q) same h.3 in
      let rest = subst (λ q. IsFromFnResultFrom g q ys (i + 1) k) same h.4 in
      ⊎_elim
      (λ above. from counts (i + 1) k (omega arith) rest j (omega arith) below)
      (λ at. let here : i ≡ j = omega arith in subst (λ j. get_or ys j 0 ≡ a + j) here (h.2.1 0 ∙ counts i h.1 (omega arith) call))
      (cases_lt i j)

  pub counting : Counts → IsFromFnResult g f ys n → ys ≡ range_with_len a n
  counting counts made =
      ext_get_or 0 ys (range_with_len a n) (made.long ∙ sym (length-range_with_len a n)) (λ i h.
      let below : i < n = omega (arith, made.long) in
      from counts 0 n (omega arith) made.each i (omega arith) below ∙ sym (get_or-range_with_len a n i 0 below))
