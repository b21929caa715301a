-- Which sort the record with a number is of, and where it lies.
use Rattle.std.proofs.Common.{◌≡◌, ℕ, zero, suc, ◌+◌, ◌*◌, ◌<◌, ◌≤◌, List, refl, ap, ◌∙◌, arith}
use Rattle.std.proofs.lemmas.Bool.{lt-ltb, le-ltb}
use Rattle.times.specs.declared.codings.Kind.{Kind}
use Rattle.times.specs.declared.codings.Kind.TheVariants.{Whole, Fine}
use Rattle.times.specs.Coding.{width_of}
use Rattle.files.specs.declared.headers.PlanHeader.{PlanHeader}
use Rattle.plan_records.specs.Names.{name_size, name_place}
use Rattle.plan_records.specs.Records.{Sort, a_name, a_test, a_limit, kind, first_place, record_count, sort_of, size_of, record_place}

-- how many bytes a limit takes
abbrev pub limit_size : Kind → ℕ
limit_size kind = 4 + width_of kind

pub limit_size_more : (kind : Kind) (j : ℕ) → limit_size kind * suc j ≡ limit_size kind * j + limit_size kind
limit_size_more Whole j = omega arith
limit_size_more Fine j = omega arith

module _ (h : PlanHeader) where
  pub name_sort : (r : ℕ) → r < h.points → sort_of h r ≡ a_name
  name_sort r l = rw (lt-ltb r h.points l)

  pub test_sort : (i : ℕ) → i < h.tests → sort_of h (h.points + i) ≡ a_test
  test_sort i l = rw (le-ltb (h.points + i) h.points (omega arith), lt-ltb (h.points + i) (h.points + h.tests) (omega arith))

  pub limit_sort : (j : ℕ) → j < h.limits → sort_of h (h.points + h.tests + j) ≡ a_limit
  limit_sort j l =
      rw (le-ltb (h.points + h.tests + j) h.points (omega arith), le-ltb (h.points + h.tests + j) (h.points + h.tests) (omega arith), lt-ltb (h.points + h.tests + j) (record_count h) (omega arith))

  module _ (file : List ℕ) where
    -- a record of a known sort ends so much later
    sized : (r q : ℕ) (s : Sort) → q ≡ suc r → sort_of h r ≡ s → record_place h file q ≡ record_place h file r + size_of h file s (record_place h file r)
    sized r q s e k = ap (record_place h file) e ∙ ap (λ s. record_place h file r + size_of h file s (record_place h file r)) k

    pub name_at : (i : ℕ) → i ≤ h.points → record_place h file i ≡ name_place file first_place i
    name_at zero l = refl
    name_at (suc i) l =
        sized i (suc i) a_name refl (name_sort i (omega arith)) ∙ ap (λ p. p + name_size file p) (name_at i (omega arith))

    pub test_at : (i : ℕ) → i ≤ h.tests → record_place h file (h.points + i) ≡ record_place h file h.points + i
    test_at zero l =
        let e : h.points + 0 ≡ h.points = omega arith in
        let f : record_place h file h.points ≡ record_place h file h.points + 0 = omega arith in
        ap (record_place h file) e ∙ f
    test_at (suc i) l =
        let next : h.points + suc i ≡ suc (h.points + i) = omega arith in
        sized (h.points + i) (h.points + suc i) a_test next (test_sort i (omega arith)) ∙ omega (arith, test_at i (omega arith))

    pub limit_at : (j : ℕ) → j ≤ h.limits → record_place h file (h.points + h.tests + j) ≡ record_place h file h.points + h.tests + limit_size (kind h) * j
    limit_at zero l =
        let e : h.points + h.tests + 0 ≡ h.points + h.tests = omega arith in
        let none : limit_size (kind h) * 0 ≡ 0 = omega arith in
        ap (record_place h file) e ∙ test_at h.tests (omega arith) ∙ omega (arith, none)
    limit_at (suc j) l =
        let next : h.points + h.tests + suc j ≡ suc (h.points + h.tests + j) = omega arith in
        sized (h.points + h.tests + j) (h.points + h.tests + suc j) a_limit next (limit_sort j (omega arith)) ∙ omega (arith, limit_at j (omega arith), limit_size_more (kind h) j)

    -- where the last record ends
    pub end_at : record_place h file (record_count h) ≡ record_place h file h.points + h.tests + limit_size (kind h) * h.limits
    end_at = limit_at h.limits (omega arith)
