-- Times written one after the other.
use Rattle.std.proofs.Common.{◌≡◌, ℕ, suc, ◌+◌, ◌*◌, ◌<◌, ◌≤◌, List, [], ◌∷◌, ◌++◌, map, length, get_or, take, drop, sym, refl, ap, ◌∙◌, subst, arith}
use lib.Seq.{paste}
use Rattle.std.specs.List.{flat_map, AllByRecursion}
use Rattle.std.proofs.lemmas.List.Edits.{paste-paste, paste_all}
use Rattle.std.proofs.ByRecursion.{All-push}
use Rattle.std.proofs.lemmas.List.{map_more, flat_map_more, length-append, length-map, length-take-le}
use Rattle.times.specs.declared.codings.Kind.{Kind}
use Rattle.times.specs.declared.codings.Kind.TheVariants.{Whole, Fine}
use Rattle.times.specs.Coding.{width_of, time_bytes}
use Rattle.times.specs.Moments.{Moment}
use Rattle.time_fields.specs.Kinds.{OfKind}
use Rattle.time_fields.proofs.Widths.{length-time_bytes}
use Rattle.heads.specs.declared.Head.{Head}
use Rattle.table_files.specs.Layouts.{time_place}
use Rattle.table_files.specs.Writings.{header_bytes, table_bytes}
use Rattle.table_files.proofs.Timed.{width_more}

pub length-times : (kind : Kind) (ms : List Moment) → length (flat_map (time_bytes kind) ms) ≡ width_of kind * length ms
length-times Whole [] = refl
length-times Fine [] = refl
length-times kind (m ∷ ms) =
    let more : width_of kind * suc (length ms) ≡ width_of kind * length ms + width_of kind = ap (λ n. width_of kind * n) (omega arith) ∙ width_more kind (length ms) in
    length-append (time_bytes kind m) _ ∙ omega (arith, length-time_bytes kind m, length-times kind ms, more)

pub length-table : (kind : Kind) (head : Head) (ms : List Moment) → length (table_bytes kind head ms) ≡ time_place kind (length ms)
length-table kind head ms = length-append (header_bytes kind head) _ ∙ ap (λ n. 7 + n) (length-times kind ms)

module _ {X : Type 0} (of : X → Moment) (kind : Kind) where
  abbrev so_far : List X → ℕ → List ℕ
  so_far times i = flat_map (time_bytes kind) (map of (take i times))

  module _ (d file : List ℕ) (times : List X) (x : X) (i : ℕ) (h : i < length times) (r : x ≡ get_or times i x) where
    abbrev front : List Moment
    front = map of (take i times)

    more : map of (take (i + 1) times) ≡ front ++ (of x ∷ [])
    more = map_more of times i x h ∙ ap (λ y. front ++ (of y ∷ [])) (sym r)

    pub put_more : 7 ≤ length d → file ≡ paste d 7 (so_far times i) (width_of kind * i) → paste file (time_place kind i) (time_bytes kind (of x)) (width_of kind) ≡ paste d 7 (so_far times (i + 1)) (width_of kind * (i + 1))
    put_more room e =
        let bytes : so_far times (i + 1) ≡ so_far times i ++ time_bytes kind (of x) = ap (flat_map (time_bytes kind)) more ∙ sym (flat_map_more (time_bytes kind) [] front (of x)) in
        let len : width_of kind * i ≡ length (so_far times i) = sym (length-times kind front ∙ ap (λ j. width_of kind * j) (length-map (take i times) of ∙ length-take-le i times (omega arith))) in
        let twice = paste-paste d 7 (so_far times i) (time_bytes kind (of x)) (width_of kind * i) (width_of kind) len (sym (length-time_bytes kind (of x))) room in
        simp (e, bytes, width_more kind i) twice

    pub coded_more : AllByRecursion (OfKind kind) front → OfKind kind (of x) → AllByRecursion (OfKind kind) (map of (take (i + 1) times))
    coded_more all here = subst (AllByRecursion (OfKind kind)) (sym more) (All-push (OfKind kind) front (of x) all here)

-- the header and then the times
pub put_both : (kind : Kind) (head : Head) (ms : List Moment) (n : ℕ) (d file after : List ℕ) → n ≡ length ms → file ≡ paste d 0 (header_bytes kind head) 7 → after ≡ paste file 7 (flat_map (time_bytes kind) ms) (width_of kind * n) → after ≡ table_bytes kind head ms ++ drop (time_place kind n) d
put_both kind head ms n d file after q e h =
    let same = ap (λ n. width_of kind * n) q in
    let long = same ∙ sym (length-times kind ms) in
    let both = paste-paste d 0 (header_bytes kind head) (flat_map (time_bytes kind) ms) 7 (width_of kind * n) refl long (omega arith) in
    let all = paste_all d 0 (table_bytes kind head ms) (time_place kind n) (ap (time_place kind) q ∙ sym (length-table kind head ms)) in
    let at : 0 + time_place kind n ≡ time_place kind n = omega arith in
    h ∙ ap (λ f. paste f 7 (flat_map (time_bytes kind) ms) (width_of kind * n)) e ∙ both ∙ all ∙ ap (λ n. table_bytes kind head ms ++ drop n d) at
