-- A file that shows some contents has kept records exactly when they keep their rules.
use Rattle.std.proofs.Common.{◌≡◌, ℕ, ◌+◌, ◌-◌, ◌*◌, ◌^◌, ◌<◌, ◌≤◌, not, eqb, List, [], ◌∷◌, length, get_or, drop, sym, ap, ◌∙◌, subst, arith}
use Rattle.std.proofs.lemmas.List.{get_or-drop}
use Rattle.fields.specs.Fields.{Kept, AllKept}
use Rattle.times.specs.declared.codings.Kind.{Kind}
use Rattle.times.specs.declared.codings.Kind.TheVariants.{Whole, Fine}
use Rattle.times.specs.Coding.{time_at}
use Rattle.times.specs.Moments.{bound_rule}
use Rattle.heads.specs.Heads.{Outline, outline, is_test, IsTest}
use Rattle.plans.specs.Memory.{fitting, fits, LimitKept}
use Rattle.plans.specs.Plans.{limit_at}
use Rattle.heads.proofs.Outlines.{test_from, test_to}
use Rattle.files.specs.declared.headers.PlanHeader.{PlanHeader}
use Rattle.plan_records.specs.Records.{kind, first_place, limit_in, test_field, fitting_field, bound_field}
use Rattle.plan_contents.specs.Contents.{Contents, plan_in, IsNames}
use Rattle.plan_contents.proofs.Places.{limit_size, name_at}
use Rattle.plan_contents.proofs.Bodies.{BodyKept, tests_place, limit_place}
use Rattle.plan_contents.proofs.Named.{every_same, run_of_names, names_there}

-- a test and those before it decide whether it is one
test_same : (o u : Outline) (i : ℕ) → o.points ≡ u.points → ((j : ℕ) → j ≤ i → get_or o.tests j 0 ≡ get_or u.tests j 0) → is_test o i ≡ is_test u i
test_same o u i p h =
    let here = h i (omega arith) in
    let new = every_same i (λ j. not (eqb (get_or o.tests j 0) (get_or o.tests i 0))) (λ j. not (eqb (get_or u.tests j 0) (get_or u.tests i 0))) (λ j l. let before = h j (omega arith) in cc) in
    cc

-- a limit ends before the first one that is not there begins
pub limit_inside : (kind : Kind) (j m : ℕ) → j < m → limit_size kind * j + limit_size kind ≤ limit_size kind * m
limit_inside Whole j m l = omega arith
limit_inside Fine j m l = omega arith

-- what stands in the file at its places is what the contents have
pub record Shows (h : PlanHeader) (file : List ℕ) (k : Kind) (c : Contents) : Type 0 where
  pub of_kind : kind h ≡ k
  pub points : h.points ≡ c.head.points
  pub test_count : h.tests ≡ length c.head.tests
  pub limit_count : h.limits ≡ length c.limits
  pub names : (p : ℕ) → p < length c.names → get_or file (first_place + p) 0 ≡ get_or c.names p 0
  pub names_end : tests_place h file ≡ first_place + length c.names
  pub tests : (i : ℕ) → i < h.tests → get_or file (tests_place h file + i) 0 ≡ get_or c.head.tests i 0
  pub limits : (j : ℕ) → j < h.limits → limit_in k file (limit_place h file j) ≡ limit_at (plan_in c) j
  pub ends : length file ≡ limit_place h file h.limits

module _ (h : PlanHeader) (file : List ℕ) (k : Kind) (c : Contents) (s : Shows h file k c) where
  test_rule : (i : ℕ) → i < h.tests → is_test (outline h.points (drop (tests_place h file + i - i) file) 0 0) i ≡ is_test c.head i
  test_rule i l =
      let e : tests_place h file + i - i ≡ tests_place h file = omega arith in
      ap (λ n. is_test (outline h.points (drop n file) 0 0) i) e ∙ test_same (outline h.points (drop (tests_place h file) file) 0 0) c.head i s.points (λ j b. get_or-drop (tests_place h file) file j 0 ∙ s.tests j (omega arith))

  fitting_rule : (j : ℕ) → j < h.limits → fitting h.points (2 ^ h.tests) (limit_in (kind h) file (limit_place h file j)) ≡ fits (plan_in c) (limit_at (plan_in c) j)
  fitting_rule j l =
      let at = limit_place h file j in
      ap (λ k. fitting h.points (2 ^ h.tests) (limit_in k file at)) s.of_kind ∙ ap (fitting h.points (2 ^ h.tests)) (s.limits j l) ∙ ap (λ n. fitting n (2 ^ h.tests) (limit_at (plan_in c) j)) s.points ∙ ap (λ n. fitting c.head.points (2 ^ n) (limit_at (plan_in c) j)) s.test_count

  bound_of : (j : ℕ) → j < h.limits → bound_rule (time_at (kind h) file (limit_place h file j + 4)) ≡ bound_rule (limit_at (plan_in c) j).bound
  bound_of j l =
      ap (λ k. bound_rule (time_at k file (limit_place h file j + 4))) s.of_kind ∙ ap (λ l. bound_rule l.bound) (s.limits j l)

  module _ (b : BodyKept h file) where
    pub names_kept : IsNames c.head.points c.names
    names_kept =
        let end = sym (name_at h file h.points (omega arith)) ∙ s.names_end in
        subst (λ n. IsNames n c.names) s.points (run_of_names file c.names first_place s.names h.points end b.names)

    pub tests_kept : (i : ℕ) → i < length c.head.tests → IsTest c.head i
    tests_kept i l =
        let n = s.test_count in
        let here : i < h.tests = omega arith in
        test_from c.head i (sym (test_rule i here) ∙ (b.tests i here).kept)

    pub limits_kept : (j : ℕ) → j < length c.limits → LimitKept (plan_in c) j
    limits_kept j l =
        let n = s.limit_count in
        let here : j < h.limits = omega arith in
        let fields = b.limits j here in
        record { fitting = sym (fitting_rule j here) ∙ fields.0.kept; bounded = sym (bound_of j here) ∙ fields.1.0.kept }

  module _ (names : IsNames c.head.points c.names) (tests : (i : ℕ) → i < length c.head.tests → IsTest c.head i) (limits : (j : ℕ) → j < length c.limits → LimitKept (plan_in c) j) where
    test_there : (i : ℕ) → i < h.tests → Kept file (test_field h file i (tests_place h file + i))
    test_there i l =
        let n = s.test_count in
        let ends = s.ends in
        record { there = omega arith; kept = test_rule i l ∙ test_to c.head i (tests i (omega arith)) }

    limit_there : (j : ℕ) → j < h.limits → AllKept file (fitting_field h file (limit_place h file j) ∷ bound_field h file (limit_place h file j + 4) ∷ [])
    limit_there j l =
        let n = s.limit_count in
        let ends = s.ends in
        let inside = limit_inside (kind h) j h.limits l in
        let rules = limits j (omega arith) in
        (record { there = omega arith; kept = fitting_rule j l ∙ rules.fitting }, (record { there = omega arith; kept = bound_of j l ∙ rules.bounded }, tt))

    pub parts_kept : BodyKept h file
    parts_kept =
        let ends = s.ends in
        let end = s.names_end in
        let there = names_there file c.names first_place s.names h.points (omega arith) (subst (λ n. IsNames n c.names) (sym s.points) names) in
        record { names = there; tests = test_there; limits = limit_there; ends = ends }
