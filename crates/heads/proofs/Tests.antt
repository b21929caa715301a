-- What is read of a head's tests.
use Rattle.std.proofs.Common.{◌≡◌, ℕ, zero, suc, ◌≤◌, Bool, true, false, not, ◌&&◌, ◌||◌, List, length, take, get_or, nat_eq, refl, ap, sym, ◌∙◌, ⊎_elim, add-one, arith, length-take}
use Rattle.std.specs.List.{list_any}
use Rattle.std.proofs.lemmas.List.{get_or_past, get_or-take}
use Rattle.std.proofs.lemmas.List.Folds.{list_any_more}
use Rattle.std.proofs.lemmas.Bool.{cases_lt}
use Rattle.refusals.specs.Searches.{every}
use Rattle.heads.specs.Heads.{tests_of, point_of}
use Rattle.heads.specs.declared.Head.{Head}

module _ (h : Head) where
  pub length-tests : length (tests_of h) ≡ h.letters
  length-tests = let a = h.six in let b = h.lettered in simp length-take (omega arith)

  -- past its letters a head holds no test
  pub read_test : (i : ℕ) → get_or h.tests i 0 ≡ point_of h i
  read_test i =
      ⊎_elim
      (λ lt. sym (get_or-take h.letters h.tests i 0 lt))
      (λ ge. h.blank i ge ∙ sym (get_or_past (tests_of h) i 0 (let e = length-tests in omega arith)))
      (cases_lt i h.letters)

not_or : (a b : Bool) → not (a || b) ≡ not a && not b
not_or true b = refl
not_or false b = refl

-- none of the first i is v
pub none_before : (xs : List ℕ) (v i : ℕ) → i ≤ length xs → not (list_any (λ y. nat_eq y v) (take i xs)) ≡ every i (λ j. not (nat_eq (get_or xs j 0) v))
none_before xs v zero h = refl
none_before xs v (suc i) h =
    let more = list_any_more (λ y. nat_eq y v) xs i 0 (omega arith) in
    ap not (rw add-one at more) ∙ not_or (list_any (λ y. nat_eq y v) (take i xs)) (nat_eq (get_or xs i 0) v) ∙ ap (λ b. b && not (nat_eq (get_or xs i 0) v)) (none_before xs v i (omega arith))
