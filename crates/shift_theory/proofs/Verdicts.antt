-- A table under a delay and the shifted table without one are viable and dynamic together.
use Rattle.std.proofs.Common.{◌≡◌, ℕ, ◌<◌, ◌≤◌, true, ◌↔◌, List, length, sym, refl, ap, ◌∙◌, subst, zero-add, arith}
use Rattle.std.specs.List.{range_with_len, flat_map, AllByRecursion}
use Rattle.std.proofs.ByRecursion.{All-get_or, All-from_get_or, All-append}
use Rattle.std.proofs.lemmas.List.{length-append, get_or_append_left}
use Rattle.std.proofs.lemmas.Bool.{and_parts, ltb-true}
use Rattle.refusals.specs.Answers.{given}
use Rattle.times.specs.Moments.{Moment, in_range}
use Rattle.rules.specs.Meanings.{Meaning, Persists, Afterwards, delayed}
use Rattle.rules.specs.Delays.{delayed_persists, delayed_afterwards}
use Rattle.plans.specs.Memory.{MemoryKept}
use Rattle.plans.specs.Plans.{Plan, letters, rows, test, moment, limit_at, applies, keeps}
use Rattle.plans.specs.declared.limits.Limit.{Limit}
use Rattle.verdicts.specs.Meanings.{Viable, Agrees, Dynamic, Accepted, Placed}
use Rattle.offences.specs.Verdicts.{sees, verdict}
use Rattle.verdicts.proofs.Accepts.{still, judged}
use Rattle.shift_theory.specs.Promises.{Small, SameVerdict}
use Rattle.shift_theory.specs.Shifts.{later, new_limits, shifted_limits, shifted_plan, shifted_table}
use Rattle.shift_theory.proofs.Blocks.{all_twos}
use Rattle.shift_theory.proofs.Keeping.{below_add, in_table, memory_kept}
use Rattle.shift_theory.proofs.Lookups.{letters_same, rows_same, test_new, there, back, old_moment, added_moment}
use Rattle.shift_theory.proofs.Moments.{not_before, keeps_there, keeps_back, stays_in_range}

pub delayed_in : (d : ℕ) (m : Meaning) (i : ℕ) (o t : Moment) → in_range (later o d) ≡ true → delayed d m i o t ≡ m i (later o d) t
delayed_in d m i o t e = rw e

-- the verdict accepts exactly what is accepted
pub accepts : (p : Plan) (ts : List Moment) (m : Meaning) → Placed p → Persists m → Afterwards m → (verdict p ts m ≡ given tt) ↔ Accepted p ts m
accepts p ts m placed persists afterwards = (judged p ts m placed persists afterwards (verdict p ts m) refl).accepts

module _ (p : Plan) (ts : List Moment) (d : ℕ) (placed : Placed p) (bounded : d ≤ 1000000) (memory : MemoryKept p ts) (small : Small p ts d) where
  abbrev p' : Plan
  p' = shifted_plan p d

  abbrev ts' : List Moment
  ts' = shifted_table p ts d

  pub placed_new : Placed p'
  placed_new i h =
      let h' : i < letters p = omega (arith, letters_same p d) in
      rw (test_new p d i h') (omega arith)

  -- limits

  abbrev Kept : Plan → List Moment → ℕ → Limit Moment → Type 0
  Kept q us row l = applies l row ≡ true → keeps q us row l ≡ true

  module _ (row : ℕ) (l : row < rows p) where
    keeps_same : (j : ℕ) → j < length p.limits → keeps p' ts' row (limit_at p j) ≡ keeps p ts row (limit_at p j)
    keeps_same j h =
        let points = and_parts _ _ (and_parts _ _ (memory.limits.each j h).fitting).0 in
        rw (old_moment p ts d row l (limit_at p j).from (ltb-true _ _ points.0), old_moment p ts d row l (limit_at p j).to (ltb-true _ _ points.1))

    new_kept : AllByRecursion (Kept p' ts' row) (flat_map (new_limits p d) (range_with_len 0 (letters p)))
    new_kept =
        all_twos (there p d) (back p d) (Kept p' ts' row) 0 (letters p) (λ i h. rw zero-add (
        let o = moment p ts row (test p i) in
        let old = old_moment p ts d row l (test p i) (placed i h) in
        let new = added_moment p ts d row l i h in
        ((λ _. rw (old, new) (keeps_there o d)), (λ _. rw (old, new) (keeps_back o d)))))

  viable_new : Viable p ts → Viable p' ts'
  viable_new v row j l k =
      let l' : row < rows p = omega (arith, rows_same p d) in
      All-get_or (Kept p' ts' row) (shifted_limits p d) j _ k (All-append (Kept p' ts' row) p.limits _ (All-from_get_or (Kept p' ts' row) p.limits _ (λ i h a. keeps_same row l' i h ∙ v row i l' h a)) (new_kept row l'))

  viable_old : Viable p' ts' → Viable p ts
  viable_old v row j l k a =
      let added = flat_map (new_limits p d) (range_with_len 0 (letters p)) in
      let e = get_or_append_left p.limits added _ j k in
      let kept = subst (Kept p' ts' row) e (v row j (omega (arith, rows_same p d)) (omega (arith, length-append p.limits added))) in
      sym (keeps_same row l j k) ∙ kept a

  -- what is seen

  module _ (m : Meaning) where
    sees_same : (row : ℕ) (t : Moment) (i : ℕ) → row < rows p → i < letters p → sees p' ts' m row t i ≡ sees p ts (delayed d m) row t i
    sees_same row t i l h =
        let o = moment p ts row (test p i) in
        let kept = in_table (test p i) o (memory.times.each row (test p i) l (placed i h)) in
        ap (λ x. m i (moment p' ts' row x) t) (test_new p d i h) ∙ ap (λ o. m i o t) (added_moment p ts d row l i h) ∙ sym (delayed_in d m i o t (stays_in_range o d kept bounded))

    agrees_old : (a b : ℕ) (t : Moment) → a < rows p → Agrees p' ts' m a b t → Agrees p ts (delayed d m) a b t
    agrees_old a b t l g i h s = g i (omega (arith, letters_same p d)) (sees_same a t i l h ∙ s)

    agrees_new : (a b : ℕ) (t : Moment) → a < rows p → Agrees p ts (delayed d m) a b t → Agrees p' ts' m a b t
    agrees_new a b t l g i h s =
        let h' : i < letters p = omega (arith, letters_same p d) in
        g i h' (sym (sees_same a t i l h') ∙ s)

    dynamic_old : Dynamic p' ts' m → Dynamic p ts (delayed d m)
    dynamic_old f a b x la lb lx g =
        let e = old_moment p ts d a la x lx in
        sym (old_moment p ts d b lb x lx) ∙ f a b x (omega (arith, rows_same p d)) (omega (arith, rows_same p d)) (omega arith) (rw e (agrees_new a b _ la g)) ∙ e

    -- rows that agree at the moment of a new test agree at that of the old one, which is not after it
    dynamic_new : Persists m → Dynamic p ts (delayed d m) → Dynamic p' ts' m
    dynamic_new persists f a b x la' lb' =
        let la : a < rows p = omega (arith, rows_same p d) in
        let lb : b < rows p = omega (arith, rows_same p d) in
        below_add (λ x. Agrees p' ts' m a b (moment p' ts' a x) → moment p' ts' b x ≡ moment p' ts' a x) p.points (letters p)
        (λ x h g. old_moment p ts d b lb x h ∙ f a b x la lb h (agrees_old a b _ la (rw (old_moment p ts d a la x h) at g)) ∙ sym (old_moment p ts d a la x h))
        (λ i h g.
        let o = moment p ts a (test p i) in
        let then' = agrees_old a b (later o d) la (rw (added_moment p ts d a la i h) at g) in
        let before : Agrees p ts (delayed d m) a b o = λ j k s. then' j k (still (delayed d m) (delayed_persists d m persists) j (moment p ts a (test p j)) (later o d) o (not_before o d) s) in
        added_moment p ts d b lb i h ∙ ap (λ o. later o d) (f a b (test p i) la lb (placed i h) before) ∙ sym (added_moment p ts d a la i h))
        x

  pub same_verdict : SameVerdict p ts d p' ts'
  same_verdict m persists afterwards =
      let old = accepts p ts (delayed d m) placed (delayed_persists d m persists) (delayed_afterwards d m afterwards) in
      let new = accepts p' ts' m placed_new persists afterwards in (
        λ e. let h = old.0 e in new.1 (record { memory = memory_kept p ts d placed bounded memory small; viable = viable_new h.viable; dynamic = dynamic_new m persists h.dynamic }),
        λ e. let h = new.0 e in old.1 (record { memory = memory; viable = viable_old h.viable; dynamic = dynamic_old m h.dynamic }),
      )
