-- The file of a plan: its fields are kept, and it is read with the plan's contents.
use Rattle.std.proofs.Common.{◌≡◌, ℕ, ◌+◌, ◌-◌, ◌*◌, ◌<◌, List, ◌++◌, length, get_or, take, drop, sym, refl, ap, ◌∙◌, subst, arith}
use Rattle.std.specs.List.{flat_map}
use Rattle.std.proofs.lemmas.List.{same_lists, get_or_append_left, get_or_default, get_or-drop, drop-drop, drop_at, take_at}
use Rattle.fields.specs.Fields.{AllKept}
use Rattle.fields.proofs.Laid.{length-laid, get_or-laid}
use Rattle.times.specs.declared.codings.Kind.{Kind}
use Rattle.times.specs.Moments.{Moment}
use Rattle.heads.specs.Heads.{outline}
use Rattle.plans.specs.declared.limits.Limit.{Limit}
use Rattle.files.specs.Headers.{plan_fields_of, header_in}
use Rattle.files.specs.declared.headers.PlanHeader.{PlanHeader}
use Rattle.plan_records.specs.Records.{first_place, limit_in}
use Rattle.plan_contents.specs.Contents.{Contents, contents, IsNames, IsPlan, limit_bytes, plan_bytes, plan_length}
use Rattle.plan_contents.specs.Readings.{header, place, body_fields, names_in, tests_in, limits_in, contents_in}
use Rattle.plan_contents.proofs.Places.{limit_size, name_at, test_at, limit_at}
use Rattle.plan_contents.proofs.Bodies.{body_kept, tests_place, limit_place}
use Rattle.plan_contents.proofs.Named.{names_end}
use Rattle.plan_contents.proofs.Headed.{HeaderOf, header_read, header_kept}
use Rattle.plan_contents.proofs.Lengths.{length-plan}
use Rattle.plan_contents.proofs.Shown.{Shows, parts_kept}
use Rattle.plan_contents.proofs.Spelled.{limits_there}

same_parts : {p q r s d e : ℕ} {t u m n : List ℕ} {l k : List (Limit Moment)} → p ≡ q → t ≡ u → r ≡ s → d ≡ e → l ≡ k → m ≡ n → contents (outline p t r d) l m ≡ contents (outline q u s e) k n
same_parts a b c d e f = cc

module _ (k : Kind) (c : Contents) (file : List ℕ) (bytes : file ≡ plan_bytes k c) (plan : IsPlan k c) where
  abbrev h : PlanHeader
  h = header file

  abbrev limits : List ℕ
  limits = flat_map (limit_bytes k) c.limits

  abbrev body : List ℕ
  body = c.names ++ (c.head.tests ++ limits)

  read : HeaderOf k c h
  read = subst (λ f. HeaderOf k c (header_in f)) (sym bytes) (header_read k c body plan.head plan.limits.few)

  pub headed : AllKept file (plan_fields_of k)
  headed = subst (λ f. AllKept f (plan_fields_of k)) (sym bytes) (header_kept k c body plan.head plan.limits.few)

  after_header : drop first_place file ≡ body
  after_header = ap (drop first_place) bytes

  name_byte : (p : ℕ) → p < length c.names → get_or file (first_place + p) 0 ≡ get_or c.names p 0
  name_byte p l = sym (get_or-drop first_place file p 0) ∙ ap (λ b. get_or b p 0) after_header ∙ get_or_append_left c.names (c.head.tests ++ limits) 0 p l

  -- where the names end
  end : tests_place h file ≡ first_place + length c.names
  end =
      name_at h file h.points (omega arith) ∙ names_end file c.names first_place name_byte h.points (subst (λ n. IsNames n c.names) (sym read.points) plan.names)

  after_names : drop (tests_place h file) file ≡ c.head.tests ++ limits
  after_names =
      ap (λ n. drop n file) end ∙ sym (drop-drop (length c.names) first_place file) ∙ ap (drop (length c.names)) after_header ∙ drop_at c.names (c.head.tests ++ limits) (length c.names) refl

  after_tests : drop (tests_place h file + h.tests) file ≡ limits
  after_tests =
      sym (drop-drop h.tests (tests_place h file) file) ∙ ap (drop h.tests) after_names ∙ drop_at c.head.tests limits h.tests (sym read.tests)

  test_byte : (i : ℕ) → i < h.tests → get_or file (tests_place h file + i) 0 ≡ get_or c.head.tests i 0
  test_byte i l = sym (get_or-drop (tests_place h file) file i 0) ∙ ap (λ b. get_or b i 0) after_names ∙ get_or_append_left c.head.tests limits 0 i (omega (arith, read.tests))

  limit_there : (j : ℕ) (d : Limit Moment) → j < h.limits → limit_in k file (limit_place h file j) ≡ get_or c.limits j d
  limit_there j d l =
      let at = tests_place h file + h.tests in
      ap (λ k'. limit_in k file (at + limit_size k' * j)) read.of_kind ∙ limits_there k file c.limits at j d after_tests plan.of_kind (omega (arith, read.limits))

  pub long : length file ≡ plan_length k c
  long = ap length bytes ∙ length-plan k c

  shows : Shows h file k c
  shows = record {
    of_kind = read.of_kind;
    points = read.points;
    test_count = read.tests;
    limit_count = read.limits;
    names = name_byte;
    names_end = end;
    tests = test_byte;
    limits = λ j l. limit_there j _ l;
    ends =
        let kinds = ap (λ k. limit_size k * h.limits) read.of_kind in
        let count = ap (λ n. limit_size k * n) read.limits in
        omega (arith, long, end, read.tests, kinds, count);
  }

  pub bodied : AllKept file (body_fields file)
  bodied = body_kept h file (parts_kept h file k c shows plan.names plan.head.tests plan.limits.each)

  names_same : names_in file ≡ c.names
  names_same =
      let size : tests_place h file - first_place ≡ length c.names = omega (arith, end) in
      ap (λ n. take n (drop first_place file)) size ∙ ap (take (length c.names)) after_header ∙ take_at c.names (c.head.tests ++ limits) (length c.names) refl

  tests_same : tests_in file ≡ c.head.tests
  tests_same =
      let at : ℕ → ℕ = λ i. get_or file (place file (h.points + i)) 0 in
      let size = length-laid at h.tests in
      let count = read.tests in
      same_lists (tests_in file) c.head.tests (size ∙ count) (λ i d l.
      let b : i < h.tests = omega arith in
      get_or-laid at h.tests i d b ∙ ap (λ p. get_or file p 0) (test_at h file i (omega arith)) ∙ test_byte i b ∙ get_or_default c.head.tests i 0 d (omega arith))

  limits_same : limits_in file k ≡ c.limits
  limits_same =
      let at : ℕ → Limit Moment = λ j. limit_in k file (place file (h.points + h.tests + j)) in
      let size = length-laid at h.limits in
      let count = read.limits in
      same_lists (limits_in file k) c.limits (size ∙ count) (λ j d l.
      let b : j < h.limits = omega arith in
      get_or-laid at h.limits j d b ∙ ap (limit_in k file) (limit_at h file j (omega arith)) ∙ limit_there j d b)

  pub count : h.limits ≡ length c.limits
  count = read.limits

  pub same_contents : contents_in file k ≡ c
  same_contents = same_parts read.points tests_same read.round read.delay limits_same names_same
