-- Names that lie in a file and the same names in a run of their own.
use Rattle.std.proofs.Common.{◌≡◌, ℕ, zero, suc, ◌+◌, ◌*◌, ◌<◌, ◌≤◌, Bool, not, ◌&&◌, eqb, List, length, get_or, sym, refl, ap, ◌∙◌, subst, ⊎_elim, arith}
use Rattle.std.proofs.lemmas.Bool.{cases_lt, cases_eq}
use Rattle.fields.specs.Fields.{AllKept, between}
use Rattle.refusals.specs.Searches.{every}
use Rattle.plan_records.specs.Names.{name_size, name_place, same_name, printable, new_name, name_fields}
use Rattle.plan_records.proofs.Naming.{other_lengths}
use Rattle.plan_contents.specs.Contents.{IsNames}

-- tests of each that agree
pub every_same : (n : ℕ) (f g : ℕ → Bool) → ((i : ℕ) → i < n → f i ≡ g i) → every n f ≡ every n g
every_same zero f g h = refl
every_same (suc n) f g h =
    let before = every_same n f g (λ i l. h i (omega arith)) in
    let here = h n (omega arith) in
    cc

-- a name starts where the one before it ends, or later
pub place_in : (bytes : List ℕ) (start i n : ℕ) → i ≤ n → name_place bytes start i ≤ name_place bytes start n
place_in bytes start i zero l = let e : i ≡ 0 = omega arith in rw e (omega arith)
place_in bytes start i (suc n) l =
    ⊎_elim
    (λ (b : i < suc n). omega (arith, place_in bytes start i n (omega arith)))
    (λ (b : suc n ≤ i). let e : i ≡ suc n = omega arith in rw e (omega arith))
    (cases_lt i (suc n))

module _ (file run : List ℕ) (start : ℕ) (same : (p : ℕ) → p < length run → get_or file (start + p) 0 ≡ get_or run p 0) where
  -- the places differ by the run's own, by the run's length or by the file's

  places_by_run : (i : ℕ) → name_place run 0 i ≤ length run → name_place file start i ≡ start + name_place run 0 i
  places_by_run zero l = omega arith
  places_by_run (suc i) l =
      let before = places_by_run i (omega arith) in
      let here : name_size file (name_place file start i) ≡ name_size run (name_place run 0 i) = ap (λ p. name_size file p) before ∙ ap (λ n. 1 + n) (same (name_place run 0 i) (omega arith)) in
      omega (arith, before, here)

  places_by_file : (i : ℕ) → name_place file start i ≤ start + length run → name_place file start i ≡ start + name_place run 0 i
  places_by_file zero l = omega arith
  places_by_file (suc i) l =
      let before = places_by_file i (omega arith) in
      let here : name_size file (name_place file start i) ≡ name_size run (name_place run 0 i) = ap (λ p. name_size file p) before ∙ ap (λ n. 1 + n) (same (name_place run 0 i) (omega (arith, before))) in
      omega (arith, before, here)

  -- a byte of a name
  byte_same : (p j : ℕ) → p + j < length run → get_or file (start + p + j) 0 ≡ get_or run (p + j) 0
  byte_same p j l =
      let e : start + p + j ≡ start + (p + j) = omega arith in
      ap (λ k. get_or file k 0) e ∙ same (p + j) l

  printable_same : (p : ℕ) → p + name_size run p ≤ length run → printable file (start + p) ≡ printable run p
  printable_same p l =
      let size = same p (omega arith) in
      let bytes : (j : ℕ) → j < get_or run p 0 → between 0x21 0x7E (get_or file (start + p + 1 + j) 0) ≡ between 0x21 0x7E (get_or run (p + 1 + j) 0) = λ j b.
      (let e : start + p + 1 + j ≡ start + (p + 1 + j) = omega arith in
      ap (between 0x21 0x7E) (ap (λ k. get_or file k 0) e ∙ same (p + 1 + j) (omega arith))) in
      ap (λ n. every n (λ j. between 0x21 0x7E (get_or file (start + p + 1 + j) 0))) size ∙ every_same (get_or run p 0) _ _ bytes

  same_name_same : (p q : ℕ) → p + name_size run p ≤ length run → q + name_size run q ≤ length run → same_name file (start + p) (start + q) ≡ same_name run p q
  same_name_same p q l k =
      let one = same p (omega arith) in
      let other = same q (omega arith) in
      ⊎_elim
      (λ (e : get_or run p 0 ≡ get_or run q 0). ap (λ n. every (1 + n) (λ j. eqb (get_or file (start + p + j) 0) (get_or file (start + q + j) 0))) one ∙ every_same (name_size run p) _ _ (λ j b. ap (λ x. eqb x (get_or file (start + q + j) 0)) (byte_same p j (omega arith)) ∙ ap (λ y. eqb (get_or run (p + j) 0) y) (byte_same q j (omega arith))))
      (λ (e : get_or run p 0 ≡ get_or run q 0 → ⊥). sym (other_lengths file (start + p) (start + q) (λ f. e (sym one ∙ f ∙ other))) ∙ other_lengths run p q e)
      (cases_eq (get_or run p 0) (get_or run q 0))

  -- the name with a number, among those before it
  module _ (i : ℕ) (inside : name_place run 0 (suc i) ≤ length run) where
    abbrev at : ℕ
    at = name_place run 0 i

    there : name_place file start i ≡ start + at
    there = places_by_run i (omega arith)

    new_same : new_name file start i (start + at) ≡ new_name run 0 i at
    new_same =
        every_same i _ _ (λ j l.
        let before = place_in run 0 (suc j) i (omega arith) in
        let place = places_by_run j (omega arith) in
        ap (λ p. not (same_name file p (start + at))) place ∙ ap not (same_name_same (name_place run 0 j) at (omega arith) (omega arith)))

    rule_same : (printable file (start + at) && new_name file start i (start + at)) ≡ (printable run at && new_name run 0 i at)
    rule_same =
        let a = printable_same at (omega arith) in
        let b = new_same in
        cc

    length-same : 0 * 256 + get_or file (start + at + 0) 0 ≡ 0 * 256 + get_or run (at + 0) 0
    length-same = ap (λ n. 0 * 256 + n) (byte_same at 0 (omega arith))

    to_run : AllKept file (name_fields file start i (name_place file start i)) → AllKept run (name_fields run 0 i at)
    to_run h =
        let k = subst (λ p. AllKept file (name_fields file start i p)) there h in
        (record { there = omega arith; kept = ap (between 1 16) (sym length-same) ∙ k.0.kept }, (record { there = omega arith; kept = sym rule_same ∙ k.1.0.kept }, tt))

    to_file : start + length run ≤ length file → AllKept run (name_fields run 0 i at) → AllKept file (name_fields file start i (name_place file start i))
    to_file room h =
        let size = same at (omega arith) in
        subst (λ p. AllKept file (name_fields file start i p)) (sym there) (record { there = omega arith; kept = ap (between 1 16) length-same ∙ h.0.kept }, (record { there = omega arith; kept = rule_same ∙ h.1.0.kept }, tt))

  -- names that are kept in the file are so in the run, and back

  pub run_of_names : (n : ℕ) → name_place file start n ≡ start + length run → ((i : ℕ) → i < n → AllKept file (name_fields file start i (name_place file start i))) → IsNames n run
  run_of_names n e h =
      let end = places_by_file n (omega arith) in
      record { each = λ i l. to_run i (omega (arith, place_in run 0 (suc i) n (omega arith))) (h i l); full = omega arith }

  pub names_there : (n : ℕ) → start + length run ≤ length file → IsNames n run → (i : ℕ) → i < n → AllKept file (name_fields file start i (name_place file start i))
  names_there n room h i l = to_file i (omega (arith, h.full, place_in run 0 (suc i) n (omega arith))) room (h.each i l)

  pub names_end : (n : ℕ) → IsNames n run → name_place file start n ≡ start + length run
  names_end n h = let full = h.full in places_by_run n (omega arith) ∙ ap (λ l. start + l) (sym full)
