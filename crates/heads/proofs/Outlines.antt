-- Which numbers make a head.
use Rattle.std.proofs.Common.{◌≡◌, ℕ, ◌<◌, ◌≤◌, Bool, true, false, not, eqb, List, length, get_or, take, Some, None, Option, sym, refl, ◌∙◌, subst, inl, inr, arith, length-take}
use Rattle.std.proofs.lemmas.List.{get_or_default, get_or_past, get_or-take, same_lists}
use Rattle.std.proofs.lemmas.Bool.{and_parts, and_from, not-true, both_ways}
use Rattle.std.proofs.lemmas.Bool.Decides.{nat_tests}
use Rattle.refusals.specs.Answers.{Answer, unless}
use Rattle.refusals.specs.declared.Refusal.{Refusal}
use Rattle.heads.specs.Heads.{Outline, counted, figured, is_new, is_test, test_refusal, head_refusal, new_head, Counted, Figured, IsTest, IsHead, HeadRefused, counts, figures, test, HeadSays}
use Rattle.refusals.proofs.Firsts.{or_none, or_some, when_none, when_some, first_none, first_some, every_true, true_every}

unequal_from : (a b : ℕ) → not (eqb a b) ≡ true → a ≡ b → ⊥
unequal_from a b h e = grind (arith, nat_tests)

unequal_to : (a b : ℕ) → (a ≡ b → ⊥) → not (eqb a b) ≡ true
unequal_to a b h = grind (arith, nat_tests)

not_not : (b : Bool) → not b ≡ false → b ≡ true
not_not b h = grind (arith, nat_tests)

but : {P : Type 0} (b : Bool) → (P → b ≡ true) → not b ≡ true → P → ⊥
but b h e p = both_ways _ (not-true _ e) (h p)

module _ (o : Outline) where
  counted_from : counted o ≡ true → Counted o
  counted_from h = record { some = grind (arith, nat_tests); few = grind (arith, nat_tests); lettered = grind (arith, nat_tests) }

  counted_to : Counted o → counted o ≡ true
  counted_to h = let a = h.some in let b = h.few in let c = h.lettered in grind (arith, nat_tests)

  figured_from : figured o ≡ true → Figured o
  figured_from h = record { rounded = grind (arith, nat_tests); delayed = grind (arith, nat_tests) }

  figured_to : Figured o → figured o ≡ true
  figured_to h = let a = h.rounded in let b = h.delayed in grind (arith, nat_tests)

  pub test_from : (i : ℕ) → is_test o i ≡ true → IsTest o i
  test_from i h =
      let both = and_parts _ (is_new o i) h in
      let within = both.0 in
      record { started = grind (arith, nat_tests, within); placed = grind (arith, nat_tests, within); new = λ j l. unequal_from _ _ (every_true i _ both.1 j l) }

  pub test_to : (i : ℕ) → IsTest o i → is_test o i ≡ true
  test_to i h =
      let a = h.started in
      let b = h.placed in
      and_from _ (is_new o i) (grind (arith, nat_tests)) (true_every i _ (λ j l. unequal_to _ _ (h.new j l)))

  passes : (i : ℕ) → test_refusal o i ≡ None → IsTest o i
  passes i e = test_from i (not_not _ (when_none _ _ e))

  pub is_head : head_refusal o ≡ None → IsHead o
  is_head e =
      let one = or_none _ _ e in
      let two = or_none _ _ one.1 in
      record { counts = counted_from (not_not _ (when_none _ _ one.0)); figures = figured_from (not_not _ (when_none _ _ two.0)); tests = λ i l. passes i (first_none _ _ two.1 i l) }

  pub head_names : (r : Refusal) → head_refusal o ≡ Some r → HeadRefused o r
  head_names r e =
      elim (or_some _ _ r e) [
        | inl h ↦ let w = when_some _ _ r h in subst (HeadRefused o) w.1 (counts (but _ counted_to w.0))
        | inr h ↦
            let c = counted_from (not_not _ (when_none _ _ h.0)) in
            elim (or_some _ _ r h.1) [
              | inl k ↦ let w = when_some _ _ r k in subst (HeadRefused o) w.1 (figures c (but _ figured_to w.0))
              | inr k ↦
                  let f = figured_from (not_not _ (when_none _ _ k.0)) in
                  let s = first_some _ _ r k.1 in
                  let w = when_some _ _ r s.2 in
                  subst (HeadRefused o) w.1 (test c f s.0 s.1 (λ j l. passes j (s.3 j l)) (but _ (test_to s.0) w.0))
            ]
      ]

  says : (a : Option Refusal) → head_refusal o ≡ a → HeadSays o (unless a o)
  says None e = (is_head e, refl)
  says (Some r) e = head_names r e

  pub head_says : (a : Answer Outline) → a ≡ new_head o → HeadSays o a
  head_says a e = subst (HeadSays o) (sym e) (says (head_refusal o) refl)

-- tests in an array of their own, with zeros after them
module _ (o : Outline) (six : List ℕ) (same : (i : ℕ) → get_or six i 0 ≡ get_or o.tests i 0) (h : IsHead o) where
  pub padded_started : (i : ℕ) → i < length o.tests → 0 < get_or six i 0
  padded_started i l = rw (same i) (h.tests i l).started

  pub padded_placed : (i : ℕ) → i < length o.tests → get_or six i 0 < o.points
  padded_placed i l = rw (same i) (h.tests i l).placed

  pub padded_apart : (i j : ℕ) → (i < j) × (j < length o.tests) → get_or six i 0 ≡ get_or six j 0 → ⊥
  padded_apart i j l e = (h.tests j l.1).new i l.0 (sym (same i) ∙ e ∙ same j)

  pub padded_blank : (i : ℕ) → length o.tests ≤ i → get_or six i 0 ≡ 0
  padded_blank i l = same i ∙ get_or_past o.tests i 0 l

  pub padded_tests : length six ≡ 6 → take (length o.tests) six ≡ o.tests
  padded_tests e =
      let few = h.counts.lettered in
      let long : length (take (length o.tests) six) ≡ length o.tests = simp length-take (omega arith) in
      same_lists _ _ long (λ k d l.
      let below : k < length o.tests = omega arith in
      get_or-take (length o.tests) six k d below ∙ get_or_default six k d 0 (omega arith) ∙ same k ∙ get_or_default o.tests k 0 d below)
