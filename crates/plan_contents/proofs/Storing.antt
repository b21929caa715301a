-- What a file that was read has stored, by the numbers that the code computes with.
use Rattle.std.proofs.Common.{◌≡◌, ℕ, ◌+◌, ◌*◌, ◌≤◌, List, [], ◌∷◌, length, sym, ap, ◌∙◌, subst, mul-le-mul, arith}
use Rattle.refusals.specs.Answers.{Answer, given, refused}
use Rattle.fields.specs.Laid.{laid}
use Rattle.fields.proofs.Readings.{read_says}
use Rattle.times.specs.declared.codings.Kind.{Kind}
use Rattle.times.specs.Coding.{width_of}
use Rattle.time_fields.proofs.Spelled.{Bytes}
use Rattle.time_fields.proofs.Widths.{width_small}
use Rattle.heads.specs.Heads.{Outline, IsHead, outline}
use Rattle.plans.specs.declared.limits.Limit.{Limit}
use Rattle.times.specs.Moments.{Moment}
use Rattle.files.specs.Headers.{plan_fields_of}
use Rattle.files.specs.declared.headers.PlanHeader.{PlanHeader}
use Rattle.plan_records.specs.Records.{part_from, limit_in}
use Rattle.plan_contents.specs.Contents.{Contents, contents}
use Rattle.plan_contents.specs.Readings.{header, body_fields, names_in, limits_in, contents_in, read_plan, limit_count, PlanSays}
use Rattle.plan_contents.proofs.Bodies.{tests_place}
use Rattle.plan_contents.proofs.Headed.{within}
use Rattle.plan_contents.proofs.Cutting.{ends_at, tests_part, limits_laid}
use Rattle.plan_contents.proofs.Trips.{Whole, read_whole, contents_kept}

module _ (kind : Kind) (file : List ℕ) (room : ℕ) where
  count_says : (a : Answer Contents) → PlanSays kind file room a → PlanSays kind file room (limit_count a)
  count_says (given c) h = h
  count_says (refused r) h = h

  pub answer_says : (a : Answer ℕ) → a ≡ limit_count (read_plan kind file room) → PlanSays kind file room a
  answer_says a e =
      subst (PlanSays kind file room) (sym e) (count_says (read_plan kind file room) (read_says file (plan_fields_of kind) (body_fields file) (header file).limits room (contents_in file kind)))

  module _ (whole : Whole kind file room) (h : PlanHeader) (there : h ≡ header file) (width count : ℕ) (wide : width ≡ 4 + width_of kind) (counted : count ≡ h.limits) where
    abbrev at : ℕ
    at = tests_place (header file) file

    counted_there : count ≡ (header file).limits
    counted_there = counted ∙ ap (λ h. h.limits) there

    tested_there : h.tests ≡ (header file).tests
    tested_there = ap (λ h. h.tests) there

    size : width * count ≡ (4 + width_of kind) * (header file).limits
    size = ap (λ w. w * count) wide ∙ ap (λ n. (4 + width_of kind) * n) counted_there

    pub few : count ≤ 256
    few =
        let kept = whole.header_kept.1.1.1.1.0.kept in
        omega (arith, counted_there, (within 0 256 (header file).limits kept).1)

    pub small : width * count ≤ 3072
    small =
        let narrow : width ≤ 12 = omega (arith, wide, width_small kind) in
        omega (arith, mul-le-mul narrow few)

    pub ends : length file ≡ at + h.tests + width * count
    ends = omega (arith, ends_at kind file whole.header_kept whole.body_kept, size, tested_there)

    pub room_there : count ≤ room
    room_there = omega (arith, counted_there, whole.room_for)

    pub heads : (from : ℕ) → from ≡ at → outline h.points (part_from file from h.tests) h.round h.delay ≡ (contents_in file kind).head
    heads from e =
        let first = ap (λ p. outline h.points (part_from file p h.tests) h.round h.delay) e in
        let same = ap (λ (h : PlanHeader). outline h.points (part_from file at h.tests) h.round h.delay) there in
        first ∙ same ∙ ap (λ ts. outline (header file).points ts (header file).round (header file).delay) (sym (tests_part kind file whole.header_kept whole.body_kept))

    pub is_head : Bytes file → (from : ℕ) → from ≡ at → IsHead (outline h.points (part_from file from h.tests) h.round h.delay)
    is_head bytes from e = subst IsHead (sym (heads from e)) (contents_kept kind file room bytes whole).head

    pub stored : (from first : ℕ) → from ≡ at → first ≡ at + h.tests → (o : Outline) (ls : List (Limit Moment)) → o ≡ outline h.points (part_from file from h.tests) h.round h.delay → ls ≡ laid count (λ j. limit_in kind file (first + (4 + width_of kind) * j) ∷ []) → read_plan kind file room ≡ given (contents o ls (names_in file))
    stored from first e f o ls head limits =
        let o_is = head ∙ heads from e in
        let first_is = f ∙ ap (λ n. at + n) tested_there in
        let ls_is = limits ∙ ap (λ n. laid n (λ j. limit_in kind file (first + (4 + width_of kind) * j) ∷ [])) counted_there ∙ ap (λ p. laid (header file).limits (λ j. limit_in kind file (p + (4 + width_of kind) * j) ∷ [])) first_is ∙ sym (limits_laid kind file whole.header_kept whole.body_kept) in
        read_whole kind file room whole ∙ ap (λ o. given (contents o (limits_in file kind) (names_in file))) (sym o_is) ∙ ap (λ ls. given (contents o ls (names_in file))) (sym ls_is)
