-- Names, as loops and slices find them.
use Rattle.std.proofs.Common.{◌≡◌, ℕ, ◌+◌, ◌<◌, ◌≤◌, Bool, true, false, not, eqb, MatchBool, List, length, get_or, take, drop, sym, refl, ap, ◌∙◌, subst, add-one, arith, length-drop}
use Rattle.std.specs.List.{AllWithin, HoldsAt}
use Rattle.std.proofs.lemmas.List.{length-take-le, get_or-take, get_or-drop}
use Rattle.std.proofs.lemmas.Bool.Decides.{nat_tests}
use Rattle.refusals.specs.Answers.{given, refused}
use Rattle.refusals.specs.declared.Refusal.{Refusal}
use Rattle.fields.specs.Fields.{checked}
use Rattle.fields.specs.Laid.{passing}
use Rattle.fields.proofs.Chains.{passed, stopped}
use Rattle.fields.proofs.Laid.{yes}
use Rattle.refusals.specs.Searches.{every}
use Rattle.refusals.proofs.Firsts.{every_fails, every_stops, true_every}
use Rattle.plan_records.specs.Names.{name_size, name_place, same_name, new_name, name_fields}

pub equal_bytes : (a b : ℕ) → a ≡ b → eqb a b ≡ true
equal_bytes a b h = grind (arith, nat_tests)

pub other_bytes : (a b : ℕ) → (a ≡ b → ⊥) → eqb a b ≡ false
other_bytes a b h = grind (arith, nat_tests)

module _ (bytes : List ℕ) where
  in_part : (from n i : ℕ) → i < n → get_or (take n (drop from bytes)) i 0 ≡ get_or bytes (from + i) 0
  in_part from n i h = get_or-take n (drop from bytes) i 0 h ∙ get_or-drop from bytes i 0

  part_long : (from n : ℕ) → from + n ≤ length bytes → length (take n (drop from bytes)) ≡ n
  part_long from n h = length-take-le n (drop from bytes) (omega (arith, length-drop from bytes))

  -- a test of each byte of a part
  pub every_part : (from n : ℕ) (test : ℕ → Bool) (part : List ℕ) (r : Bool) → part ≡ take n (drop from bytes) → from + n ≤ length bytes → MatchBool r (AllWithin (λ x. test x ≡ true) part 0 (length part)) ((k : ℕ) × (k < length part) × HoldsAt (λ x. test x ≡ false) part k) → r ≡ every n (λ j. test (get_or bytes (from + j) 0))
  every_part from n test part true e l h =
      let long : length part ≡ n = ap length e ∙ part_long from n l in
      sym (true_every n _ (λ i b. subst (λ x. test x ≡ true) (ap (λ p. get_or p i 0) e ∙ in_part from n i b) (h i 0 (omega arith) (omega (arith, long)))))
  every_part from n test part false e l h =
      let long : length part ≡ n = ap length e ∙ part_long from n l in
      let few : h.0 < n = omega (arith, long, h.1) in
      sym (every_fails _ n h.0 few (subst (λ x. test x ≡ false) (ap (λ p. get_or p h.0 0) e ∙ in_part from n h.0 few) (h.2 0)))

  -- names that differ in a byte are two names
  pub other_byte : (one other j : ℕ) → j < name_size bytes one → (get_or bytes (one + j) 0 ≡ get_or bytes (other + j) 0 → ⊥) → false ≡ same_name bytes one other
  other_byte one other j l h = every_stops _ (name_size bytes one) (name_size bytes one) j refl l (other_bytes _ _ h)

  -- names of two lengths are two names
  pub other_lengths : (one other : ℕ) → (get_or bytes one 0 ≡ get_or bytes other 0 → ⊥) → false ≡ same_name bytes one other
  other_lengths one other h =
      let a : one + 0 ≡ one = omega arith in
      let b : other + 0 ≡ other = omega arith in
      every_stops _ (name_size bytes one) (name_size bytes one) 0 refl (omega arith) (other_bytes _ _ (λ e. h (ap (λ i. get_or bytes i 0) (sym a) ∙ e ∙ ap (λ i. get_or bytes i 0) b)))

  module _ (start : ℕ) where
    pub place_more : (i : ℕ) → name_place bytes start (i + 1) ≡ name_place bytes start i + name_size bytes (name_place bytes start i)
    place_more i = rw add-one

    pub one_equal : (number i at : ℕ) (earlier : ℕ) → earlier ≡ name_place bytes start i → i < number → true ≡ same_name bytes earlier at → false ≡ new_name bytes start number at
    one_equal number i at earlier e l h =
        every_stops _ number number i refl l (ap not (ap (λ p. same_name bytes p at) (sym e) ∙ sym h))

    module _ (i at : ℕ) (e : at ≡ name_place bytes start i) where
      -- a name that passes, and one that does not
      pub name_passes : (size : ℕ) → given size ≡ checked bytes (name_fields bytes start i at) (name_size bytes at) → (at + size ≡ name_place bytes start (i + 1)) × (yes ≡ passing bytes (name_fields bytes start i (name_place bytes start i)))
      name_passes size h =
          let p = passed bytes (name_fields bytes start i at) (name_size bytes at) size tt h in
          let place : at + size ≡ name_place bytes start (i + 1) = (ap (λ n. at + n) p.0) ∙ ap (λ q. q + name_size bytes q) e ∙ sym (place_more i) in
          (place, subst (λ q. yes ≡ passing bytes (name_fields bytes start i q)) e p.1)

      pub name_stops : (r : Refusal) → refused r ≡ checked bytes (name_fields bytes start i at) (name_size bytes at) → refused r ≡ passing bytes (name_fields bytes start i (name_place bytes start i))
      name_stops r h = subst (λ q. refused r ≡ passing bytes (name_fields bytes start i q)) e (stopped bytes (name_fields bytes start i at) (name_size bytes at) tt r h)
