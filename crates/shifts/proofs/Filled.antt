-- A slice whose front was filled by the places.
use Rattle.std.proofs.Common.{◌≡◌, ℕ, zero, suc, ◌<◌, ◌≤◌, List, [], ◌∷◌, map, length, get_or, take, refl, ap, ◌∙◌, arith}

module _ {X Y : Type 0} (of : X → Y) (e : Y) where
  pub filled : (n : ℕ) (items : List X) (results : List Y) → length results ≡ n → n ≤ length items → ((i : ℕ) (d : X) → i < n → of (get_or items i d) ≡ get_or results i e) → map of (take n items) ≡ results
  filled zero items [] h room is = refl
  filled zero items (y ∷ ys) h room is = absurd (omega arith)
  filled (suc n) [] results h room is = absurd (omega arith)
  filled (suc n) (x ∷ xs) [] h room is = absurd (omega arith)
  filled (suc n) (x ∷ xs) (y ∷ ys) h room is =
      ap (λ y. y ∷ map of (take n xs)) (is 0 x (omega arith)) ∙ ap (λ ys. y ∷ ys) (filled n xs ys (omega arith) (omega arith) (λ i d l. is (suc i) d (omega arith)))
