-- Tests and limits that lie one after the other, and their bytes.
use Rattle.std.proofs.Common.{◌≡◌, ℕ, zero, suc, ◌+◌, ◌*◌, ◌<◌, ◌≤◌, List, [], ◌∷◌, ◌++◌, length, get_or, take, drop, sym, refl, ap, ◌∙◌, arith, take-add}
use Rattle.std.specs.List.{flat_map, AllByRecursion}
use Rattle.std.proofs.lemmas.List.{ext_get_or, get_or-drop, get_or-take, drop-drop, drop_at, flat_map_more, length-drop, length-take-le}
use Rattle.fields.specs.Laid.{laid}
use Rattle.fields.proofs.Laid.{length-laid, get_or-laid}
use Rattle.times.specs.declared.codings.Kind.{Kind}
use Rattle.times.specs.Coding.{width_of}
use Rattle.times.specs.Moments.{Moment}
use Rattle.times.proofs.Words.{four}
use Rattle.time_fields.specs.Kinds.{OfKind}
use Rattle.time_fields.proofs.Spelled.{Bytes, all_bytes, recoded, time_here}
use Rattle.plans.specs.declared.limits.Limit.{Limit}
use Rattle.plan_records.specs.Records.{limit_in}
use Rattle.plan_contents.specs.Contents.{limit_bytes}
use Rattle.plan_contents.proofs.Places.{limit_size, limit_size_more}
use Rattle.plan_contents.proofs.Lengths.{length-limit_bytes}

pub laid_same : {X : Type 0} (n : ℕ) (f g : ℕ → List X) → ((i : ℕ) → i < n → f i ≡ g i) → laid n f ≡ laid n g
laid_same zero f g h = refl
laid_same (suc n) f g h =
    let before = laid_same n f g (λ i l. h i (omega arith)) in
    let here = h n (omega arith) in
    cc

-- single bytes
pub bytes_laid : (file : List ℕ) (at n : ℕ) → at + n ≤ length file → laid n (λ i. get_or file (at + i) 0 ∷ []) ≡ take n (drop at file)
bytes_laid file at n room =
    let one = length-laid (λ i. get_or file (at + i) 0) n in
    let other = length-take-le n (drop at file) (omega (arith, length-drop at file)) in
    ext_get_or 0 _ _ (one ∙ sym other) (λ i l.
    let below : i < n = omega arith in
    get_or-laid (λ i. get_or file (at + i) 0) n i 0 below ∙ sym (get_or-drop at file i 0) ∙ sym (get_or-take n (drop at file) i 0 below))

same_limit : {f g t u v w x y : ℕ} {m n : Moment} → f ≡ g → t ≡ u → v ≡ w → x ≡ y → m ≡ n → ◌≡◌ {A = Limit Moment} (record { from = f; to = t; wanted = v; unwanted = x; bound = m }) (record { from = g; to = u; wanted = w; unwanted = y; bound = n })
same_limit a b c d e = cc

module _ (kind : Kind) (file : List ℕ) where
  limit_spelled : Bytes file → (at : ℕ) → at + limit_size kind ≤ length file → limit_bytes kind (limit_in kind file at) ≡ take (limit_size kind) (drop at file)
  limit_spelled small at room =
      let front = four file at (omega arith) in
      let bound = recoded kind file (at + 4) (all_bytes file small) (omega arith) in
      let far = drop-drop 4 at file in
      let both = take-add 4 (width_of kind) (drop at file) in
      cc

  -- limits of the file are spelled as the bytes that they were read from
  pub limits_spelled : Bytes file → (at m : ℕ) → at + limit_size kind * m ≤ length file → flat_map (limit_bytes kind) (laid m (λ j. limit_in kind file (at + limit_size kind * j) ∷ [])) ≡ take (limit_size kind * m) (drop at file)
  limits_spelled small at zero room =
      let none : 0 ≡ limit_size kind * 0 = omega arith in
      ap (λ n. take n (drop at file)) none
  limits_spelled small at (suc m) room =
      let more = limit_size_more kind m in
      let l = limit_in kind file (at + limit_size kind * m) in
      let push = sym (flat_map_more (limit_bytes kind) [] (laid m (λ j. limit_in kind file (at + limit_size kind * j) ∷ [])) l) in
      let before = limits_spelled small at m (omega arith) in
      let here = limit_spelled small (at + limit_size kind * m) (omega arith) ∙ ap (take (limit_size kind)) (sym (drop-drop (limit_size kind * m) at file)) in
      let both = sym (take-add (limit_size kind * m) (limit_size kind) (drop at file)) in
      push ∙ (cc (before, here)) ∙ both ∙ ap (λ n. take n (drop at file)) (sym more)

  -- bytes of a limit at a place are read as that limit
  limit_here : (at : ℕ) (l : Limit Moment) (rest : List ℕ) → drop at file ≡ limit_bytes kind l ++ rest → OfKind kind l.bound → limit_in kind file at ≡ l
  limit_here at l rest e of =
      let zero_at : at + 0 ≡ at = omega arith in
      let byte : (j : ℕ) → get_or file (at + j) 0 ≡ get_or (limit_bytes kind l ++ rest) j 0 = λ j. sym (get_or-drop at file j 0) ∙ ap (λ xs. get_or xs j 0) e in
      let from : get_or file at 0 ≡ l.from = ap (λ k. get_or file k 0) (sym zero_at) ∙ byte 0 in
      let to : get_or file (at + 1) 0 ≡ l.to = byte 1 in
      let wanted : get_or file (at + 2) 0 ≡ l.wanted = byte 2 in
      let unwanted : get_or file (at + 3) 0 ≡ l.unwanted = byte 3 in
      same_limit from to wanted unwanted (time_here kind file (at + 4) l.bound rest (sym (drop-drop 4 at file) ∙ ap (drop 4) e) of)

  pub limits_there : (ls : List (Limit Moment)) (at j : ℕ) (d : Limit Moment) → drop at file ≡ flat_map (limit_bytes kind) ls → AllByRecursion (λ (l : Limit Moment). OfKind kind l.bound) ls → j < length ls → limit_in kind file (at + limit_size kind * j) ≡ get_or ls j d
  limits_there [] at j d e all h = absurd (omega arith)
  limits_there (l ∷ ls) at zero d e all h =
      let here : at + limit_size kind * 0 ≡ at = omega arith in
      ap (limit_in kind file) here ∙ limit_here at l (flat_map (limit_bytes kind) ls) e all.0
  limits_there (l ∷ ls) at (suc j) d e all h =
      let after : drop (at + limit_size kind) file ≡ flat_map (limit_bytes kind) ls = sym (drop-drop (limit_size kind) at file) ∙ ap (drop (limit_size kind)) e ∙ drop_at (limit_bytes kind l) _ (limit_size kind) (length-limit_bytes kind l) in
      let place : at + limit_size kind * suc j ≡ at + limit_size kind + limit_size kind * j = omega (arith, limit_size_more kind j) in
      ap (limit_in kind file) place ∙ limits_there ls (at + limit_size kind) j d after all.1 (omega arith)
