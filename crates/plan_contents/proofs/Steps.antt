-- A reader that passes one record after another.
use Rattle.std.proofs.Common.{◌≡◌, ℕ, zero, suc, ◌+◌, ◌<◌, ◌≤◌, Bool, true, false, cond, ltb, List, [], ◌∷◌, length, Option, sym, refl, ap, ◌∙◌, add-one, arith}
use Rattle.std.proofs.lemmas.Bool.{lt-ltb, le-ltb}
use Rattle.refusals.specs.Answers.{Answer, given, refused}
use Rattle.refusals.specs.declared.Refusal.{Refusal}
use Rattle.fields.specs.Fields.{AllKept}
use Rattle.fields.specs.Laid.{laid, passing}
use Rattle.fields.specs.Readings.{end_field}
use Rattle.fields.proofs.Chains.{passed, stopped}
use Rattle.fields.proofs.Laid.{yes, kept_left, kept_right}
use Rattle.files.specs.declared.headers.PlanHeader.{PlanHeader}
use Rattle.plan_records.specs.Records.{Sort, a_name, a_test, a_limit, the_end, Part, first_place, record_count, sort_of, part_of, record_place, record_fields}
use Rattle.plan_records.specs.Readers.{next_answer, after, stood}
use Rattle.plan_records.specs.declared.readers.Reader.{Reader}
use Rattle.plan_records.proofs.Recording.{record_inside}

module _ (h : PlanHeader) where
  -- what stands past the last record
  pub sort_end : (i : ℕ) → record_count h ≤ i → sort_of h i ≡ the_end
  sort_end i l =
      let a = le-ltb i h.points (omega arith) in
      let b = le-ltb i (h.points + h.tests) (omega arith) in
      let c = le-ltb i (record_count h) l in
      rw (a, b, c)

  by_tests : (x y : Bool) → cond x a_name (cond y a_test a_limit) ≡ the_end → ⊥
  by_tests true y e = let z : ◌≡◌ {A = ℕ} 0 1 = cc in omega arith
  by_tests false true e = let z : ◌≡◌ {A = ℕ} 0 1 = cc in omega arith
  by_tests false false e = let z : ◌≡◌ {A = ℕ} 0 1 = cc in omega arith

  pub sort_in : (i : ℕ) → i < record_count h → sort_of h i ≡ the_end → ⊥
  sort_in i l e =
      let c = lt-ltb i (record_count h) l in
      by_tests (ltb i h.points) (ltb i (h.points + h.tests)) (rw c at e)

module _ (r : Reader) (i : ℕ) where
  abbrev part : Option Part
  part = part_of r.header r.file.now (sort_of r.header i) (record_place r.header r.file.now i)

  moves : (s : Sort) → (s ≡ the_end → ⊥) → s ≡ sort_of r.header i → after (stood r i) (given (part_of r.header r.file.now s (record_place r.header r.file.now i))) ≡ stood r (i + 1)
  moves a_name n e = rw add-one
  moves a_test n e = rw add-one
  moves a_limit n e = rw add-one
  moves the_end n e = absurd (n refl)

  module _ (q : Reader) (here : q ≡ stood r i) where
    -- a record that is given is passed
    pub steps : i < record_count r.header → (o : Option Part) → given o ≡ next_answer q → (after q (next_answer q) ≡ stood r (i + 1)) × (yes ≡ passing r.file.now (record_fields r.header r.file.now i))
    steps l o e =
        let file = r.file.now in
        let fields = record_fields r.header file i in
        let there = e ∙ ap next_answer here in
        let value = passed file fields part o part there in
        let moved = ap (λ q. after q (next_answer q)) here ∙ ap (after (stood r i)) (sym value.1) ∙ moves (sort_of r.header i) (sort_in r.header i l) refl in
        (moved, (passed file fields part o tt there).1)

    pub halts : (why : Refusal) → refused why ≡ next_answer q → refused why ≡ passing r.file.now (record_fields r.header r.file.now i)
    halts why e = stopped r.file.now (record_fields r.header r.file.now i) part tt why (e ∙ ap next_answer here)

module _ (r : Reader) (q : Reader) (here : q ≡ stood r (record_count r.header)) where
  abbrev end : ℕ
  end = record_count r.header

  abbrev last_field : Answer (Unit {0})
  last_field = passing r.file.now (end_field r.file.now (record_place r.header r.file.now end) ∷ [])

  at_end : passing r.file.now (record_fields r.header r.file.now end) ≡ last_field
  at_end = rw (sort_end r.header end (omega arith))

  pub end_passes : (o : Option Part) → given o ≡ next_answer q → yes ≡ last_field
  end_passes o e = (passed r.file.now (record_fields r.header r.file.now end) (part r end) o tt (e ∙ ap next_answer here)).1 ∙ at_end

  pub end_halts : (why : Refusal) → refused why ≡ next_answer q → refused why ≡ last_field
  end_halts why e = halts r end q here why e ∙ at_end

-- records that have passed lie in the file
module _ (h : PlanHeader) (file : List ℕ) (long : first_place ≤ length file) where
  pub passed_inside : (n : ℕ) → AllKept file (laid n (record_fields h file)) → (first_place ≤ record_place h file n) × (record_place h file n ≤ length file)
  passed_inside zero k = (omega arith, long)
  passed_inside (suc n) k =
      let before = passed_inside n (kept_left file (laid n (record_fields h file)) (record_fields h file n) k) in
      let here = record_inside h file (sort_of h n) n (record_place h file n) (kept_right file (laid n (record_fields h file)) (record_fields h file n) k) in
      (omega (arith, before.0), here)
