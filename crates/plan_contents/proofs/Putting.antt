-- The parts of a plan file put one after the other.
use Rattle.std.proofs.Common.{◌≡◌, ℕ, ◌+◌, ◌*◌, ◌/◌, ◌%◌, ◌<◌, ◌≤◌, List, [], ◌∷◌, ◌++◌, map, length, get_or, take, drop, sym, refl, ap, ◌∙◌, subst, append_assoc, add-one, arith}
use lib.Seq.{paste}
use Rattle.std.specs.List.{flat_map, AllByRecursion}
use Rattle.std.proofs.lemmas.List.Edits.{paste_none, paste-paste, paste_all}
use Rattle.std.proofs.ByRecursion.{All-push}
use Rattle.std.proofs.lemmas.List.{map_more, flat_map_more, length-append, length-map, length-take-le}
use Rattle.times.specs.declared.codings.Kind.{Kind}
use Rattle.times.specs.declared.codings.Kind.TheVariants.{Whole, Fine}
use Rattle.times.specs.Coding.{version_of, width_of, word_bytes, time_bytes}
use Rattle.times.specs.Moments.{Moment}
use Rattle.time_fields.specs.Kinds.{OfKind}
use Rattle.time_fields.proofs.Widths.{length-time_bytes}
use Rattle.plans.specs.Views.{limit_of}
use Rattle.plans.specs.declared.limits.Limit.{Limit}
use Rattle.plan_contents.specs.Contents.{Contents, count_bytes, header_bytes, limit_bytes, plan_bytes, plan_length}
use Rattle.plan_contents.proofs.Places.{limit_size, limit_size_more}
use Rattle.plan_contents.proofs.Lengths.{length-limit_bytes, length-limits, length-plan}

-- one part after another, from the front
paste_on : (d s t : List ℕ) (n m : ℕ) → n ≡ length s → m ≡ length t → paste (paste d 0 s n) n t m ≡ paste d 0 (s ++ t) (n + m)
paste_on d s t n m p q =
    let at : n ≡ 0 + n = omega arith in
    ap (λ k. paste (paste d 0 s n) k t m) at ∙ paste-paste d 0 s t n m p q (omega arith)

-- a limit: its points and letters, and then its bound
pub put_limit : (kind : Kind) (l : Limit Moment) (at : ℕ) (d file after : List ℕ) → at ≤ length d → file ≡ paste d at (l.from ∷ l.to ∷ l.wanted ∷ l.unwanted ∷ []) 4 → after ≡ paste file (at + 4) (time_bytes kind l.bound) (width_of kind) → after ≡ paste d at (limit_bytes kind l) (limit_size kind)
put_limit kind l at d file after room e h =
    let parts = l.from ∷ l.to ∷ l.wanted ∷ l.unwanted ∷ [] in
    let bound = time_bytes kind l.bound in
    h ∙ ap (λ f. paste f (at + 4) bound (width_of kind)) e ∙ paste-paste d at parts bound 4 (width_of kind) refl (sym (length-time_bytes kind l.bound)) room

-- a loop over limits

pub limits_more : (kind : Kind) (i : ℕ) → limit_size kind * (i + 1) ≡ limit_size kind * i + limit_size kind
limits_more kind i = rw add-one (limit_size_more kind i)

module _ {X : Type 0} (of : X → Moment) (kind : Kind) where
  abbrev so_far : List (Limit X) → ℕ → List (Limit Moment)
  so_far ls i = map (limit_of of) (take i ls)

  module _ (d file : List ℕ) (at : ℕ) (ls : List (Limit X)) (l : Limit X) (i : ℕ) (h : i < length ls) (r : l ≡ get_or ls i l) where
    more : so_far ls (i + 1) ≡ so_far ls i ++ (limit_of of l ∷ [])
    more = map_more (limit_of of) ls i l h ∙ ap (λ l. so_far ls i ++ (limit_of of l ∷ [])) (sym r)

    pub limit_more : at ≤ length d → file ≡ paste d at (flat_map (limit_bytes kind) (so_far ls i)) (limit_size kind * i) → paste file (at + limit_size kind * i) (limit_bytes kind (limit_of of l)) (limit_size kind) ≡ paste d at (flat_map (limit_bytes kind) (so_far ls (i + 1))) (limit_size kind * (i + 1))
    limit_more room e =
        let before = flat_map (limit_bytes kind) (so_far ls i) in
        let bytes : flat_map (limit_bytes kind) (so_far ls (i + 1)) ≡ before ++ limit_bytes kind (limit_of of l) = ap (flat_map (limit_bytes kind)) more ∙ sym (flat_map_more (limit_bytes kind) [] (so_far ls i) (limit_of of l)) in
        let len : limit_size kind * i ≡ length before = sym (length-limits kind (so_far ls i) ∙ ap (λ j. limit_size kind * j) (length-map (take i ls) (limit_of of) ∙ length-take-le i ls (omega arith))) in
        let twice = paste-paste d at before (limit_bytes kind (limit_of of l)) (limit_size kind * i) (limit_size kind) len (sym (length-limit_bytes kind (limit_of of l))) room in
        simp (e, bytes, limits_more kind i) twice

    pub bound_more : AllByRecursion (λ l. OfKind kind l.bound) (so_far ls i) → OfKind kind (of l.bound) → AllByRecursion (λ l. OfKind kind l.bound) (so_far ls (i + 1))
    bound_more all here =
        let P : Limit Moment → Type 0 = λ l. OfKind kind l.bound in
        subst (AllByRecursion P) (sym more) (All-push P (so_far ls i) (limit_of of l) all here)

-- the whole file: header, names, tests and limits
module _ (kind : Kind) (c : Contents) (d headed named tested after : List ℕ) where
  abbrev names : ℕ
  names = length c.names

  abbrev tests : ℕ
  tests = length c.head.tests

  abbrev limit_run : List ℕ
  limit_run = flat_map (limit_bytes kind) c.limits

  in_order : headed ≡ paste d 0 (header_bytes kind c) 17 → named ≡ paste headed 17 c.names names → tested ≡ paste named (17 + names) c.head.tests tests → after ≡ paste tested (17 + names + tests) limit_run (limit_size kind * length c.limits) → after ≡ plan_bytes kind c ++ drop (plan_length kind c) d
  in_order e f g h =
      let size = limit_size kind * length c.limits in
      let front = header_bytes kind c ++ c.names in
      let long : 17 + names ≡ length front = sym (length-append (header_bytes kind c) c.names) in
      let longer : 17 + names + tests ≡ length (front ++ c.head.tests) = ap (λ n. n + tests) long ∙ sym (length-append front c.head.tests) in
      let one = paste_on d (header_bytes kind c) c.names 17 names refl refl in
      let two = paste_on d front c.head.tests (17 + names) tests long refl in
      let three = paste_on d (front ++ c.head.tests) limit_run (17 + names + tests) size longer (sym (length-limits kind c.limits)) in
      let whole : (front ++ c.head.tests) ++ limit_run ≡ plan_bytes kind c = simp append_assoc in
      let all = paste_all d 0 (plan_bytes kind c) (plan_length kind c) (sym (length-plan kind c)) in
      let end : 0 + plan_length kind c ≡ plan_length kind c = omega arith in
      let before = g ∙ ap (λ l. paste l (17 + names) c.head.tests tests) (f ∙ ap (λ l. paste l 17 c.names names) e ∙ one) ∙ two in
      h ∙ ap (λ l. paste l (17 + names + tests) limit_run size) before ∙ three ∙ ap (λ l. paste d 0 l (plan_length kind c)) whole ∙ all ∙ ap (λ n. plan_bytes kind c ++ drop n d) end

  -- the same with the tests counted twice, and the limits once
  pub put_plan : (j k m : ℕ) → j ≡ tests → k ≡ tests → m ≡ length c.limits → headed ≡ paste d 0 (header_bytes kind c) 17 → named ≡ paste headed 17 c.names names → tested ≡ paste named (17 + names) c.head.tests j → after ≡ paste tested (17 + names + k) limit_run (limit_size kind * m) → after ≡ plan_bytes kind c ++ drop (plan_length kind c) d
  put_plan j k m ej ek em e f g h =
      let tests_there = ap (λ n. paste named (17 + names) c.head.tests n) ej in
      let limits_there = ap (λ n. paste tested (17 + names + n) limit_run (limit_size kind * m)) ek ∙ ap (λ n. paste tested (17 + names + tests) limit_run (limit_size kind * n)) em in
      in_order e f (g ∙ tests_there) (h ∙ limits_there)
