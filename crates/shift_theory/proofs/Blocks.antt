-- Lists that are made by number.
use Rattle.std.proofs.Common.{◌≡◌, ℕ, zero, suc, ◌+◌, ◌*◌, ◌/◌, ◌%◌, ◌<◌, List, [], ◌∷◌, map, length, get_or, sym, refl, ap, ◌∙◌, subst, add-zero, zero-add, arith}
use Rattle.std.specs.List.{range_with_len, flat_map, AllByRecursion}
use Rattle.std.proofs.lemmas.Nat.{mul-add-lt, div-mul-add, mod-mul-add}
use Rattle.std.proofs.lemmas.List.FromFn.{get_or-map-range_with_len}

-- by row, and then by place in the row
pub grid_at : {X : Type 0} (f : ℕ → ℕ → X) (h w row x : ℕ) (e : X) → row < h → x < w → get_or (map (λ at. f (at / w) (at % w)) (range_with_len 0 (h * w))) (row * w + x) e ≡ f row x
grid_at f h w row x e l k =
    let inside : row * w + x < h * w = omega (arith, mul-add-lt row w x h l k) in
    get_or-map-range_with_len (λ at. f (at / w) (at % w)) 0 (h * w) (row * w + x) (row * w + x) e inside (zero-add _) ∙ ap (λ r. f r ((row * w + x) % w)) (div-mul-add row w x k) ∙ ap (f row) (mod-mul-add row w x k)

-- two by two
module _ {X : Type 0} (f g : ℕ → X) where
  abbrev both : ℕ → List X
  both i = f i ∷ g i ∷ []

  pub length-twos : (a n : ℕ) → length (flat_map both (range_with_len a n)) ≡ 2 * n
  length-twos a zero = refl
  length-twos a (suc n) = omega (arith, length-twos (a + 1) n)

  pub first_of_twos : (a n i : ℕ) (e : X) → i < n → get_or (flat_map both (range_with_len a n)) (2 * i) e ≡ f (a + i)
  first_of_twos a zero i e h = absurd (omega arith)
  first_of_twos a (suc n) zero e h = ap f (sym (add-zero a))
  first_of_twos a (suc n) (suc i) e h =
      let at : 2 * suc i ≡ suc (suc (2 * i)) = omega arith in
      let same : a + 1 + i ≡ a + suc i = omega arith in
      rw at (first_of_twos (a + 1) n i e (omega arith) ∙ ap f same)

  pub second_of_twos : (a n i : ℕ) (e : X) → i < n → get_or (flat_map both (range_with_len a n)) (2 * i + 1) e ≡ g (a + i)
  second_of_twos a zero i e h = absurd (omega arith)
  second_of_twos a (suc n) zero e h = ap g (sym (add-zero a))
  second_of_twos a (suc n) (suc i) e h =
      let at : 2 * suc i + 1 ≡ suc (suc (2 * i + 1)) = omega arith in
      let same : a + 1 + i ≡ a + suc i = omega arith in
      rw at (second_of_twos (a + 1) n i e (omega arith) ∙ ap g same)

  pub all_twos : (P : X → Type 0) (a n : ℕ) → ((i : ℕ) → i < n → P (f (a + i)) × P (g (a + i))) → AllByRecursion P (flat_map both (range_with_len a n))
  all_twos P a zero each = tt
  all_twos P a (suc n) each =
      let here = rw add-zero at (each 0 (omega arith)) in
      (here.0, (here.1, all_twos P (a + 1) n (λ i h. let same : a + suc i ≡ a + 1 + i = omega arith in subst (λ k. P (f k) × P (g k)) same (each (suc i) (omega arith)))))
