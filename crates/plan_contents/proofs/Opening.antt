-- What follows a header that is read, and parts of the file that hold names.
use Rattle.std.proofs.Common.{◌≡◌, ℕ, suc, ◌+◌, ◌-◌, ◌<◌, ◌≤◌, Bool, cond, ltb, List, length, get_or, Some, None, Option, sym, ap, ◌∙◌, subst, arith}
use Rattle.std.proofs.lemmas.Bool.{lt-ltb, le-ltb}
use Rattle.refusals.specs.Answers.{Answer, given, refused, and_then}
use Rattle.refusals.specs.declared.Refusal.{Refusal}
use Rattle.fields.specs.Fields.{Field, checked}
use Rattle.fields.specs.Laid.{laid, passing}
use Rattle.fields.proofs.Chains.{passed, stopped, halted, judged}
use Rattle.fields.proofs.Laid.{laid_more}
use Rattle.files.specs.Headers.{header_in, plan_fields_of, plan_header_of}
use Rattle.times.specs.declared.codings.Kind.{Kind}
use Rattle.files.specs.declared.headers.PlanHeader.{PlanHeader}
use Rattle.plan_records.specs.Names.{name_size}
use Rattle.plan_records.specs.Records.{first_place, part_from, record_fields, record_place}
use Rattle.plan_records.specs.declared.readers.Reader.{Reader}
use Rattle.plan_contents.specs.Named.{name_in, names_answer, name_answer}
use Rattle.plan_contents.specs.Readings.{header, place, names_in}
use Rattle.plan_contents.proofs.Places.{name_at}
use Rattle.plan_contents.proofs.Steps.{passed_inside}

module _ (file : List ℕ) (v : Kind) where
  module _ {X : Type 0} (rest : Answer X) where
    abbrev whole : Answer X
    whole = and_then (passing file (plan_fields_of v)) (λ _. rest)

    pub open_halts : (r : Refusal) → refused r ≡ plan_header_of file v → refused r ≡ whole
    open_halts r e = ap (λ a. and_then a (λ _. rest)) (stopped file (plan_fields_of v) (header_in file) tt r e)

    pub open_goes : (h : PlanHeader) → given h ≡ plan_header_of file v → rest ≡ whole
    open_goes h e = ap (λ a. and_then a (λ _. rest)) (passed file (plan_fields_of v) (header_in file) h tt e).1

  module _ (h : PlanHeader) (e : given h ≡ plan_header_of file v) where
    header_is : h ≡ header file
    header_is = (passed file (plan_fields_of v) (header_in file) h (tt {0}) e).0

    header_long : first_place ≤ length file
    header_long =
        let kept = judged file (plan_fields_of v) (header_in file) (given h) e in
        omega (arith, kept.1.1.1.1.1.1.0.there)

-- a name follows its length byte, and ends where the next record starts
name_ends : (file : List ℕ) (x : ℕ) → x < (header file).points → place file (x + 1) ≡ place file x + 1 + get_or file (place file x) 0
name_ends file x l =
    let here = name_at (header file) file x (omega arith) in
    let one : x + 1 ≡ suc x = omega arith in
    let next = name_at (header file) file (suc x) (omega arith) in
    let at = ap (λ p. p + name_size file p) (sym here) in
    omega (arith, ap (place file) one, next, at)

module _ (file : List ℕ) (v : Kind) (r : Reader) (same : r.file.now ≡ file) (e : given r.header ≡ plan_header_of file v) where
  abbrev fields : ℕ → List Field
  fields n = laid n (record_fields (header file) file)

  -- what a reader of the file answers on the place after so many records
  abbrev placed : ℕ → Answer ℕ
  placed n = checked r.file.now (laid n (record_fields r.header r.file.now)) (record_place r.header r.file.now n)

  placed_is : (n : ℕ) → placed n ≡ checked file (fields n) (place file n)
  placed_is n =
      ap (λ f. checked f (laid n (record_fields r.header f)) (record_place r.header f n)) same ∙ ap (λ h. checked file (laid n (record_fields h file)) (record_place h file n)) (header_is file v r.header e)

  there : (n at : ℕ) → given at ≡ placed n → (at ≡ place file n) × (at ≤ length file) × (first_place ≤ at)
  there n at h =
      let k = h ∙ placed_is n in
      let at_is = (passed file (fields n) (place file n) at (tt {0}) k).0 in
      let inside = passed_inside (header file) file (header_long file v r.header e) n (judged file (fields n) (place file n) (given at) k) in
      (at_is, omega (arith, at_is, inside.1), omega (arith, at_is, inside.0))

  module _ (h : PlanHeader) (said : h ≡ r.header) where
    points : h.points ≡ (header file).points
    points = ap (λ h. h.points) (said ∙ header_is file v r.header e)

  module _ (h : PlanHeader) (said : h ≡ r.header) (n : ℕ) (all : n ≡ h.points) where
    abbrev names_rest : Answer (List ℕ)
    names_rest = checked file (fields (header file).points) (names_in file)

    at_points : placed n ≡ checked file (fields (header file).points) (place file (header file).points)
    at_points = placed_is n ∙ ap (λ n. checked file (fields n) (place file n)) (all ∙ points h said)

    pub names_halt : (why : Refusal) → refused why ≡ placed n → refused why ≡ names_answer file v
    names_halt why q =
        stopped file (fields (header file).points) (place file (header file).points) (names_in file) why (q ∙ at_points) ∙ open_goes file v names_rest r.header e

    pub names_there : (end : ℕ) → given end ≡ placed n → (first_place ≤ end) × (end ≤ length file) × (given (part_from file first_place (end - first_place)) ≡ names_answer file v)
    names_there end q =
        let t = there n end q in
        let at = t.0 ∙ ap (place file) (all ∙ points h said) in
        let names = (passed file (fields (header file).points) (place file (header file).points) end (names_in file) (q ∙ at_points)).1 in
        (t.2, t.1, ap (λ p. given (part_from file first_place (p - first_place))) at ∙ names ∙ open_goes file v names_rest r.header e)

  module _ (h : PlanHeader) (said : h ≡ r.header) (x : ℕ) where
    abbrev name_rest : Bool → Answer (Option (List ℕ))
    name_rest b = cond b (checked file (fields (x + 1)) (Some (name_in file x))) (given None)

    pub no_name : h.points ≤ x → given None ≡ name_answer file v x
    no_name l = ap name_rest (sym (le-ltb x (header file).points (omega (arith, points h said, l)))) ∙ open_goes file v (name_rest (ltb x (header file).points)) r.header e

    module _ (l : x < h.points) where
      within : x < (header file).points
      within = omega (arith, points h said, l)

      goes : checked file (fields (x + 1)) (Some (name_in file x)) ≡ name_answer file v x
      goes = ap name_rest (sym (lt-ltb x (header file).points within)) ∙ open_goes file v (name_rest (ltb x (header file).points)) r.header e

      pub before_halts : (n : ℕ) → n ≡ x → (why : Refusal) → refused why ≡ placed n → refused why ≡ name_answer file v x
      before_halts n is why q =
          let k = halted file (fields x) (record_fields (header file) file x) (place file x) (Some (name_in file x)) why (q ∙ ap placed is ∙ placed_is x) in
          subst (λ fs. refused why ≡ checked file fs (Some (name_in file x))) (sym (laid_more (record_fields (header file) file) x)) k ∙ goes

      pub name_halts : (n : ℕ) → n ≡ x → (why : Refusal) → refused why ≡ placed (n + 1) → refused why ≡ name_answer file v x
      name_halts n is why q = stopped file (fields (x + 1)) (place file (x + 1)) (Some (name_in file x)) why (q ∙ ap (λ n. placed (n + 1)) is ∙ placed_is (x + 1)) ∙ goes

      pub name_there : (n m : ℕ) → n ≡ x → m ≡ x → (from end : ℕ) → given from ≡ placed n → given end ≡ placed (m + 1) → (from + 1 ≤ end) × (end ≤ length file) × (given (Some (part_from file (from + 1) (end - (from + 1)))) ≡ name_answer file v x)
      name_there n m is too from end q k =
          let at = k ∙ ap (λ n. placed (n + 1)) too in
          let a = there x from (q ∙ ap placed is) in
          let b = there (x + 1) end at in
          let size = name_ends file x within in
          let first = ap (λ p. p + 1) a.0 in
          let long : end - (from + 1) ≡ get_or file (place file x) 0 = omega (arith, a.0, b.0, size) in
          let name = (passed file (fields (x + 1)) (place file (x + 1)) end (Some (name_in file x)) (at ∙ placed_is (x + 1))).1 in
          (omega (arith, a.0, b.0, size), b.1, ap (λ p. given (Some (part_from file p (end - (from + 1))))) first ∙ ap (λ n. given (Some (part_from file (place file x + 1) n))) long ∙ name ∙ goes)
