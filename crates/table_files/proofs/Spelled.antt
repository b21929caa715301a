-- The times of a file and their bytes.
use Rattle.std.proofs.Common.{◌≡◌, ℕ, zero, suc, ◌+◌, ◌*◌, ◌<◌, ◌≤◌, List, [], ◌∷◌, ◌++◌, length, get_or, take, drop, sym, refl, ap, ◌∙◌, arith}
use Rattle.std.specs.List.{flat_map, AllByRecursion}
use Rattle.std.proofs.lemmas.List.{drop-drop, drop_at, drop-take, take-take, take-append-drop, flat_map_more}
use Rattle.times.specs.declared.codings.Kind.{Kind}
use Rattle.times.specs.declared.codings.Kind.TheVariants.{Whole, Fine}
use Rattle.times.specs.Coding.{width_of, time_at, time_bytes}
use Rattle.times.specs.Moments.{Moment}
use Rattle.time_fields.specs.Kinds.{OfKind}
use Rattle.time_fields.proofs.Widths.{length-time_bytes}
use Rattle.time_fields.proofs.Spelled.{Bytes, all_bytes, recoded, time_here}
use Rattle.table_files.specs.Layouts.{time_place}
use Rattle.table_files.specs.Readings.{times_in}
use Rattle.table_files.proofs.Timed.{width_more}

module _ (kind : Kind) (file : List ℕ) where
  pub times_there : (ts : List Moment) (at i : ℕ) (d : Moment) → drop at file ≡ flat_map (time_bytes kind) ts → AllByRecursion (OfKind kind) ts → i < length ts → time_at kind file (at + width_of kind * i) ≡ get_or ts i d
  times_there [] at i d e all h = absurd (omega arith)
  times_there (m ∷ ms) at zero d e all h =
      let here : at + width_of kind * 0 ≡ at = omega arith in
      ap (time_at kind file) here ∙ time_here kind file at m (flat_map (time_bytes kind) ms) e all.0
  times_there (m ∷ ms) at (suc i) d e all h =
      let after : drop (at + width_of kind) file ≡ flat_map (time_bytes kind) ms = sym (drop-drop (width_of kind) at file) ∙ ap (drop (width_of kind)) e ∙ drop_at (time_bytes kind m) _ (width_of kind) (length-time_bytes kind m) in
      let one : suc i ≡ i + 1 = omega arith in
      let more : width_of kind * suc i ≡ width_of kind * i + width_of kind = ap (λ n. width_of kind * n) one ∙ width_more kind i in
      let place : at + width_of kind * suc i ≡ at + width_of kind + width_of kind * i = omega (arith, more) in
      ap (time_at kind file) place ∙ times_there ms (at + width_of kind) i d after all.1 (omega arith)

-- two parts end to end
take_both : (a b : ℕ) (l : List ℕ) → take a l ++ take b (drop a l) ≡ take (a + b) l
take_both a b l =
    let join = take-append-drop a (take (a + b) l) in
    let low = take-take a (a + b) l (omega arith) in
    let high = drop-take a b l in
    cc

nothing : (kind : Kind) (l : List ℕ) → [] ≡ take (width_of kind * 0) l
nothing Whole l = refl
nothing Fine l = refl

module _ (kind : Kind) (file : List ℕ) (small : Bytes file) where
  -- the times of a file are coded as the bytes that they were read from
  pub coded_again : (n : ℕ) → time_place kind n ≤ length file → flat_map (time_bytes kind) (times_in kind file n) ≡ take (width_of kind * n) (drop 7 file)
  coded_again zero room = nothing kind (drop 7 file)
  coded_again (suc n) room =
      let one : suc n ≡ n + 1 = omega arith in
      let more : width_of kind * suc n ≡ width_of kind * n + width_of kind = ap (λ n. width_of kind * n) one ∙ width_more kind n in
      let inside : time_place kind n + width_of kind ≤ length file = omega (arith, more) in
      let m = time_at kind file (time_place kind n) in
      let push = sym (flat_map_more (time_bytes kind) [] (times_in kind file n) m) in
      let before = coded_again n (omega arith) in
      let here : time_bytes kind m ≡ take (width_of kind) (drop (width_of kind * n) (drop 7 file)) = recoded kind file (time_place kind n) (all_bytes file small) inside ∙ ap (take (width_of kind)) (sym (drop-drop (width_of kind * n) 7 file)) in
      let both = take_both (width_of kind * n) (width_of kind) (drop 7 file) in
      push ∙ (cc (before, here)) ∙ both ∙ ap (λ k. take k (drop 7 file)) (sym more)
