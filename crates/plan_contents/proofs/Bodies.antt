-- What follows the header, sort by sort: names, tests, limits, and the end.
use Rattle.std.proofs.Common.{◌≡◌, ℕ, ◌+◌, ◌-◌, ◌*◌, ◌<◌, ◌≤◌, List, [], ◌∷◌, ◌++◌, length, sym, ap, ◌∙◌, subst, ⊎_elim, arith}
use Rattle.std.proofs.lemmas.Bool.{leb-true, le-leb, cases_lt}
use Rattle.fields.specs.Fields.{Field, Kept, AllKept}
use Rattle.fields.specs.Laid.{laid}
use Rattle.fields.specs.Readings.{end_field}
use Rattle.fields.proofs.Laid.{kept_left, kept_right, kept_both, kept_at, kept_each}
use Rattle.files.specs.declared.headers.PlanHeader.{PlanHeader}
use Rattle.plan_records.specs.Names.{name_place, name_fields}
use Rattle.plan_records.specs.Records.{Sort, a_name, a_test, a_limit, kind, first_place, record_count, sort_of, test_field, fitting_field, bound_field, fields_of, record_place, record_fields}
use Rattle.plan_contents.proofs.Places.{limit_size, name_sort, test_sort, limit_sort, name_at, test_at, limit_at, end_at}

module _ (h : PlanHeader) (file : List ℕ) where
  -- where the names end
  abbrev pub tests_place : ℕ
  tests_place = record_place h file h.points

  -- where a limit starts
  abbrev pub limit_place : ℕ → ℕ
  limit_place j = tests_place + h.tests + limit_size (kind h) * j

  abbrev pub body : List Field
  body = laid (record_count h) (record_fields h file) ++ (end_field file (record_place h file (record_count h)) ∷ [])

  pub record BodyKept : Type 0 where
    pub names : (i : ℕ) → i < h.points → AllKept file (name_fields file first_place i (name_place file first_place i))
    pub tests : (i : ℕ) → i < h.tests → Kept file (test_field h file i (tests_place + i))
    pub limits : (j : ℕ) → j < h.limits → AllKept file (fitting_field h file (limit_place j) ∷ bound_field h file (limit_place j + 4) ∷ [])
    pub ends : length file ≡ limit_place h.limits

  -- the fields of a record whose sort and place are known
  fields_there : (r at : ℕ) (s : Sort) → sort_of h r ≡ s → record_place h file r ≡ at → record_fields h file r ≡ fields_of h file s r at
  fields_there r at s e k = ap (λ s. fields_of h file s r (record_place h file r)) e ∙ ap (fields_of h file s r) k

  name_there : (i : ℕ) → i < h.points → record_fields h file i ≡ name_fields file first_place i (name_place file first_place i)
  name_there i l = fields_there i _ a_name (name_sort h i l) (name_at h file i (omega arith))

  test_there : (i : ℕ) → i < h.tests → record_fields h file (h.points + i) ≡ test_field h file i (tests_place + i) ∷ []
  test_there i l =
      let e : h.points + i - h.points ≡ i = omega arith in
      fields_there (h.points + i) _ a_test (test_sort h i l) (test_at h file i (omega arith)) ∙ ap (λ k. test_field h file k (tests_place + i) ∷ []) e

  limit_there : (j : ℕ) → j < h.limits → record_fields h file (h.points + h.tests + j) ≡ fitting_field h file (limit_place j) ∷ bound_field h file (limit_place j + 4) ∷ []
  limit_there j l = fields_there (h.points + h.tests + j) _ a_limit (limit_sort h j l) (limit_at h file j (omega arith))

  module _ (kept : AllKept file body) where
    record_kept : (r : ℕ) → r < record_count h → AllKept file (record_fields h file r)
    record_kept r l = kept_at file (record_fields h file) (record_count h) r l (kept_left file (laid (record_count h) (record_fields h file)) _ kept)

    pub body_parts : BodyKept
    body_parts =
        let end = (kept_right file (laid (record_count h) (record_fields h file)) _ kept).0 in
        record {
          names = λ i l. subst (AllKept file) (name_there i l) (record_kept i (omega arith));
          tests = λ i l. (subst (AllKept file) (test_there i l) (record_kept (h.points + i) (omega arith))).0;
          limits = λ j l. subst (AllKept file) (limit_there j l) (record_kept (h.points + h.tests + j) (omega arith));
          ends = omega (arith, end.there, leb-true (length file) (record_place h file (record_count h)) end.kept, end_at h file);
        }

  module _ (parts : BodyKept) where
    past_names : (r : ℕ) → h.points ≤ r → r < record_count h → AllKept file (record_fields h file r)
    past_names r a l =
        ⊎_elim
        (λ (t : r < h.points + h.tests). let e : h.points + (r - h.points) ≡ r = omega arith in
        let i : r - h.points < h.tests = omega arith in
        subst (λ r. AllKept file (record_fields h file r)) e (subst (AllKept file) (sym (test_there (r - h.points) i)) (parts.tests (r - h.points) i, tt)))
        (λ (t : h.points + h.tests ≤ r). let e : h.points + h.tests + (r - (h.points + h.tests)) ≡ r = omega arith in
        let j : r - (h.points + h.tests) < h.limits = omega arith in
        subst (λ r. AllKept file (record_fields h file r)) e (subst (AllKept file) (sym (limit_there (r - (h.points + h.tests)) j)) (parts.limits (r - (h.points + h.tests)) j)))
        (cases_lt r (h.points + h.tests))

    each_record : (r : ℕ) → r < record_count h → AllKept file (record_fields h file r)
    each_record r l =
        ⊎_elim
        (λ (n : r < h.points). subst (AllKept file) (sym (name_there r n)) (parts.names r n))
        (λ (n : h.points ≤ r). past_names r n l)
        (cases_lt r h.points)

    pub body_kept : AllKept file body
    body_kept =
        let ends = parts.ends in
        kept_both file (laid (record_count h) (record_fields h file)) _ (kept_each file (record_fields h file) (record_count h) each_record) (record { there = omega (arith, end_at h file); kept = le-leb (length file) (record_place h file (record_count h)) (omega (arith, end_at h file)) }, tt)
