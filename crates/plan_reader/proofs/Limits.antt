-- Limits that are stored one by one, and heads that are made.
use Rattle.std.proofs.Common.{◌≡◌, ℕ, ◌+◌, ◌*◌, ◌<◌, ◌≤◌, List, [], ◌∷◌, ◌++◌, map, length, get_or, take, drop, set, sym, ap, ◌∙◌, arith, length-append}
use Rattle.std.proofs.lemmas.List.{take_more_set, map_push, get_or_append_left, get_or-drop, drop-drop, drop_at, drop-append-le, take_at, append-nil, length-drop}
use Rattle.times.specs.declared.codings.Kind.{Kind}
use Rattle.times.specs.declared.codings.Kind.TheVariants.{Whole, Fine}
use Rattle.times.specs.Coding.{width_of, time_at}
use Rattle.time_fields.proofs.Spelled.{Bytes, all_bytes, recoded, of_kind_at, time_here}
use Rattle.plan_records.specs.Records.{limit_in}
use Rattle.refusals.specs.declared.Refusal.{Refusal}
use Rattle.fields.specs.Laid.{laid}
use Rattle.fields.proofs.Laid.{laid_more}
use Rattle.heads.specs.Heads.{Outline, IsHead, HeadRefused, counts, figures, test}

-- one item more stands in the array
module _ {X Y : Type 0} (of : X → Y) (f : ℕ → Y) where
  pub store_more : (i : ℕ) (items : List X) (x : X) → i < length items → of x ≡ f i → map of (take i items) ≡ laid i (λ j. f j ∷ []) → map of (take (i + 1) (set items i x)) ≡ laid (i + 1) (λ j. f j ∷ [])
  store_more i items x l e g =
      let more = laid_more (λ j. f j ∷ []) i in
      ap (map of) (take_more_set items i x l) ∙ map_push of (take i items) x ∙ (cc (e, g)) ∙ sym more

-- limits lie one after the other
pub next_place : (kind : Kind) (at k : ℕ) → at + (4 + width_of kind) * k + (4 + width_of kind) ≡ at + (4 + width_of kind) * (k + 1)
next_place Whole at k = omega arith
next_place Fine at k = omega arith

pub place_inside : (kind : Kind) (at k n len : ℕ) → k < n → at + (4 + width_of kind) * n ≤ len → at + (4 + width_of kind) * k + (4 + width_of kind) ≤ len
place_inside Whole at k n len l h = omega arith
place_inside Fine at k n len l h = omega arith

-- a limit in a part of a file is the limit at the place of the part
module _ (kind : Kind) (file : List ℕ) (at : ℕ) (part rest : List ℕ) (cut : drop at file ≡ part ++ rest) (long : length part ≡ 4 + width_of kind) where
  part_inside : at + (4 + width_of kind) ≤ length file
  part_inside = omega (arith, length-drop at file, ap (λ (l : List ℕ). length l) cut, length-append part rest)

  byte_here : (i : ℕ) → i < 4 → get_or part i 0 ≡ get_or file (at + i) 0
  byte_here i l = sym (get_or_append_left part rest 0 i (omega (arith, long))) ∙ ap (λ b. get_or b i 0) (sym cut) ∙ get_or-drop at file i 0

  bound_cut : drop (at + 4) file ≡ drop 4 part ++ rest
  bound_cut = sym (drop-drop 4 at file) ∙ ap (drop 4) cut ∙ drop-append-le 4 part rest (omega (arith, long))

  bound_here : Bytes file → time_at kind part 4 ≡ time_at kind file (at + 4)
  bound_here small =
      let room : at + 4 + width_of kind ≤ length file = omega (arith, part_inside) in
      let spelled = recoded kind file (at + 4) (all_bytes file small) room in
      let short : length (drop 4 part) ≡ width_of kind = omega (arith, length-drop 4 part, long) in
      let same = spelled ∙ ap (take (width_of kind)) bound_cut ∙ take_at (drop 4 part) rest (width_of kind) short in
      time_here kind part 4 (time_at kind file (at + 4)) [] (sym same ∙ sym (append-nil _)) (of_kind_at kind file small (at + 4) room)

  pub limit_here : Bytes file → limit_in kind part 0 ≡ limit_in kind file at
  limit_here small =
      let none : at + 0 ≡ at = omega arith in
      let from = byte_here 0 (omega arith) ∙ ap (λ k. get_or file k 0) none in
      let to = byte_here 1 (omega arith) in
      let wanted = byte_here 2 (omega arith) in
      let unwanted = byte_here 3 (omega arith) in
      let bound = bound_here small in
      cc

  pub rest_here : rest ≡ drop (at + (4 + width_of kind)) file
  rest_here = sym (drop_at part rest (4 + width_of kind) long) ∙ ap (drop (4 + width_of kind)) (sym cut) ∙ drop-drop (4 + width_of kind) at file

-- numbers that make a head are not refused
pub no_head_refusal : (o : Outline) (r : Refusal) → IsHead o → HeadRefused o r → ⊥
no_head_refusal o r h (counts n) = n h.counts
no_head_refusal o r h (figures c n) = n h.figures
no_head_refusal o r h (test c f i l b n) = n (h.tests i l)
