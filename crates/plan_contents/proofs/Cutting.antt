-- A file whose fields are kept, cut into its contents: they are a plan, and the file is their bytes.
use Rattle.std.proofs.Common.{◌≡◌, ℕ, ◌+◌, ◌-◌, ◌*◌, ◌<◌, ◌≤◌, List, [], ◌∷◌, ◌++◌, length, get_or, take, drop, sym, refl, ap, ◌∙◌, subst, arith}
use Rattle.std.specs.List.{flat_map, AllByRecursion}
use Rattle.std.proofs.ByRecursion.{All-from_get_or}
use Rattle.std.proofs.lemmas.List.{get_or-drop, get_or-take, drop-drop, length-drop, length-take-le, take_all, take-append-drop}
use Rattle.fields.specs.Fields.{AllKept}
use Rattle.fields.specs.Laid.{laid}
use Rattle.fields.proofs.Laid.{length-laid, get_or-laid}
use Rattle.times.specs.declared.codings.Kind.{Kind}
use Rattle.times.specs.Moments.{Moment}
use Rattle.time_fields.specs.Kinds.{OfKind}
use Rattle.time_fields.proofs.Spelled.{Bytes, of_kind_at}
use Rattle.heads.specs.Heads.{IsHead}
use Rattle.plans.specs.declared.limits.Limit.{Limit}
use Rattle.files.specs.Headers.{plan_fields_of}
use Rattle.files.specs.declared.headers.PlanHeader.{PlanHeader}
use Rattle.plan_records.specs.Records.{first_place, limit_in}
use Rattle.plan_contents.specs.Contents.{Contents, IsPlan, limit_bytes, header_bytes, plan_bytes}
use Rattle.plan_contents.specs.Readings.{header, place, body_fields, names_in, tests_in, limits_in, contents_in}
use Rattle.plan_contents.proofs.Places.{limit_size, name_at, test_at, limit_at}
use Rattle.plan_contents.proofs.Bodies.{BodyKept, body_parts, tests_place, limit_place}
use Rattle.plan_contents.proofs.Named.{place_in}
use Rattle.plan_contents.proofs.Headed.{within, kind_is, header_spelled}
use Rattle.plan_contents.proofs.Shown.{Shows, limit_inside, names_kept, tests_kept, limits_kept}
use Rattle.plan_contents.proofs.Spelled.{laid_same, bytes_laid, limits_spelled}

module _ (k : Kind) (file : List ℕ) (headed : AllKept file (plan_fields_of k)) (bodied : AllKept file (body_fields file)) where
  abbrev h : PlanHeader
  h = header file

  abbrev c : Contents
  c = contents_in file k

  -- where the names end
  abbrev end : ℕ
  end = tests_place h file

  parts : BodyKept h file
  parts = body_parts h file bodied

  names_first : first_place ≤ end
  names_first = omega (arith, name_at h file h.points (omega arith), place_in file first_place 0 h.points (omega arith))

  names_fit : length (names_in file) ≡ end - first_place
  names_fit = length-take-le (end - first_place) (drop first_place file) (omega (arith, length-drop first_place file, parts.ends))

  test_read : (i : ℕ) → i < h.tests → get_or file (place file (h.points + i)) 0 ≡ get_or file (end + i) 0
  test_read i l = ap (λ p. get_or file p 0) (test_at h file i (omega arith))

  limit_read : (j : ℕ) → j < h.limits → limit_in k file (place file (h.points + h.tests + j)) ≡ limit_in k file (limit_place h file j)
  limit_read j l = ap (limit_in k file) (limit_at h file j (omega arith))

  limit_got : (j : ℕ) (d : Limit Moment) → j < h.limits → limit_in k file (limit_place h file j) ≡ get_or (limits_in file k) j d
  limit_got j d l = sym (get_or-laid (λ j. limit_in k file (place file (h.points + h.tests + j))) h.limits j d l ∙ limit_read j l)

  shows : Shows h file k c
  shows = record {
    of_kind = kind_is k file headed;
    points = refl;
    test_count = sym (length-laid _ h.tests);
    limit_count = sym (length-laid _ h.limits);
    names = λ p l. sym (get_or-take (end - first_place) (drop first_place file) p 0 (omega (arith, names_fit)) ∙ get_or-drop first_place file p 0);
    names_end = omega (arith, names_fit, names_first);
    tests = λ i l. sym (get_or-laid (λ i. get_or file (place file (h.points + i)) 0) h.tests i 0 l ∙ test_read i l);
    limits = λ j l. limit_got j _ l;
    ends = parts.ends;
  }

  is_head : IsHead c.head
  is_head =
      let points = within 1 48 h.points headed.1.1.0.kept in
      let tests = within 0 6 h.tests headed.1.1.1.0.kept in
      let round = within 0 1000000 h.round headed.1.1.1.1.1.0.kept in
      let delay = within 0 1000000 h.delay headed.1.1.1.1.1.1.0.kept in
      record { counts = record { some = points.0; few = points.1; lettered = omega (arith, shows.test_count) }; figures = record { rounded = round.1; delayed = delay.1 }; tests = tests_kept h file k c shows parts }

  -- the file ends with the last limit
  pub ends_at : length file ≡ end + h.tests + limit_size k * h.limits
  ends_at = parts.ends ∙ ap (λ k. end + h.tests + limit_size k * h.limits) shows.of_kind

  -- the tests lie one after the other, and so do the limits

  pub tests_part : tests_in file ≡ take h.tests (drop end file)
  tests_part =
      laid_same h.tests _ _ (λ i l. ap (λ b. b ∷ []) (test_read i l)) ∙ bytes_laid file end h.tests (omega (arith, parts.ends))

  pub limits_laid : limits_in file k ≡ laid h.limits (λ j. limit_in k file (end + h.tests + limit_size k * j) ∷ [])
  limits_laid =
      laid_same h.limits (λ j. limit_in k file (place file (h.points + h.tests + j)) ∷ []) (λ j. limit_in k file (end + h.tests + limit_size k * j) ∷ []) (λ j l. ap (λ l. l ∷ []) (limit_read j l ∙ ap (λ k'. limit_in k file (end + h.tests + limit_size k' * j)) shows.of_kind))

  module _ (small : Bytes file) where
    all_of_kind : AllByRecursion (λ (l : Limit Moment). OfKind k l.bound) (limits_in file k)
    all_of_kind =
        All-from_get_or (λ (l : Limit Moment). OfKind k l.bound) (limits_in file k) (limit_in k file 0) (λ j b.
        let count = shows.limit_count in
        let l : j < h.limits = omega arith in
        let inside = limit_inside k j h.limits l in
        let ends = ends_at in
        let at : limit_place h file j ≡ end + h.tests + limit_size k * j = ap (λ k. end + h.tests + limit_size k * j) shows.of_kind in
        subst (λ (l : Limit Moment). OfKind k l.bound) (limit_got j _ l) (of_kind_at k file small (limit_place h file j + 4) (omega arith)))

    pub is_plan : IsPlan k c
    is_plan =
        let limits = within 0 256 h.limits headed.1.1.1.1.0.kept in
        record { head = is_head; limits = record { few = omega (arith, shows.limit_count); each = limits_kept h file k c shows parts }; names = names_kept h file k c shows parts; of_kind = all_of_kind }

    limits_part : flat_map (limit_bytes k) (limits_in file k) ≡ drop (end + h.tests) file
    limits_part =
        let at = end + h.tests in
        let ends = ends_at in
        ap (flat_map (limit_bytes k)) limits_laid ∙ limits_spelled k file small at h.limits (omega arith) ∙ take_all (limit_size k * h.limits) (drop at file) (omega (arith, length-drop at file))

    after_header : drop first_place file ≡ c.names ++ (c.head.tests ++ flat_map (limit_bytes k) c.limits)
    after_header =
        let names = take-append-drop (end - first_place) (drop first_place file) in
        let there : first_place + (end - first_place) ≡ end = omega (arith, names_first) in
        let far = drop-drop (end - first_place) first_place file ∙ ap (λ n. drop n file) there in
        let tests = take-append-drop h.tests (drop end file) in
        let farther = drop-drop h.tests end file in
        let a = tests_part in
        let b = limits_part in
        cc

    pub spelled : file ≡ plan_bytes k c
    spelled = header_spelled k file headed small ∙ ap (λ l. header_bytes k c ++ l) after_header
