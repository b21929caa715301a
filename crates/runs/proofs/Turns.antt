-- What the searches of a release find, in words.
use Rattle.std.proofs.Common.{◌≡◌, ℕ, ◌%◌, ◌<◌, Bool, true, false, not, ◌||◌, eqb, List, Some, None, Option, sym, refl, ap, subst, inl, inr, arith}
use Rattle.std.specs.Option.{option_map}
use Rattle.std.proofs.lemmas.Nat.{pow_pos, mod_below}
use Rattle.std.proofs.lemmas.Bool.{both_ways, cases_Bool, and_parts, and_from, or_cases, or_left, or_right, not-true, not-false, not_from_false, eqb-true, eq-eqb}
use Rattle.refusals.specs.Answers.{given, unless, refusal_at}
use Rattle.refusals.specs.declared.Refusal.{Refusal}
use Rattle.times.specs.Moments.{Moment, earlier}
use Rattle.rules.specs.Meanings.{Meaning}
use Rattle.refusals.specs.Searches.{or_else, same}
use Rattle.plans.specs.Plans.{Plan, letters, rows, test, moment}
use Rattle.plans.specs.Memory.{memory_refusal, MemoryKept}
use Rattle.refusals.proofs.Firsts.{or_none, or_some, when_none, when_some, first_none, first_some, every_true, true_every, some_none}
use Rattle.plans.proofs.Memories.{kept_from_none, memory_names}
use Rattle.verdicts.proofs.Order.{least_or_none}
use Rattle.sets.specs.Sets.{has}
use Rattle.runs.specs.Runs.{barred, other_plan, agrees, lowest, behind, leads, earliest, letter_of, token_of, turn_in, next_turn, waits_for, waiting, ready, chosen, released_by, releasing, step_at}
use Rattle.runs.specs.Words.{OfPlan, AgreesTold, Lowest, Earliest, Waits, TokenSays, ReleaseRefused, in_memory, none_left, waits, ReleasedNow, ReleaseSays}
use Rattle.runs.specs.Words as words
use Rattle.runs.specs.declared.Run.{Run}
use Rattle.runs.specs.declared.answers.Turn.{Turn}
use Rattle.sets.proofs.Bits.{has_low}
use Rattle.runs.proofs.Founds.{found}

agreed : (t a b : Bool) → (not t || same a b) ≡ true → t ≡ true → a ≡ b
agreed t a b e h = grind arith

agreeing : (t a b : Bool) → (t ≡ true → a ≡ b) → (not t || same a b) ≡ true
agreeing t a b h = grind arith

-- rows

module _ (p : Plan) (r : Run) where
  of_plan : other_plan p r ≡ None → OfPlan p r
  of_plan e =
      let both = and_parts (eqb r.points p.points) _ (not-false _ (when_none _ _ e)) in
      record { points = eqb-true _ _ both.0; letters = eqb-true _ _ both.1 }

  not_of_plan : (q : Refusal) → other_plan p r ≡ Some q → (OfPlan p r → ⊥) × (refusal_at 14 0 ≡ q)
  not_of_plan q e =
      let w = when_some _ _ q e in
      (λ h. both_ways _ (not-true _ w.0) (and_from _ _ (eq-eqb _ _ h.points) (eq-eqb _ _ h.letters)), w.1)

  pub agrees_words : (row : ℕ) → agrees p r row ≡ true → AgreesTold p r row
  agrees_words row e i l t = agreed (has r.told i) _ _ (every_true (letters p) _ e i l) t

  pub words_agree : (row : ℕ) → AgreesTold p r row → agrees p r row ≡ true
  words_agree row h = true_every (letters p) _ (λ i l. agreeing (has r.told i) _ _ (h i l))

  pub some_row : lowest p r ≡ None → ⊥
  some_row e =
      let row = r.outcomes % rows p in
      both_ways _ (found (rows p) (agrees p r) None e row (mod_below r.outcomes (rows p) (pow_pos (letters p)))) (words_agree row (λ i l _. has_low r.outcomes (letters p) i l))

  pub lowest_words : (row : ℕ) → lowest p r ≡ Some row → Lowest p r row
  lowest_words row e =
      let f = found (rows p) (agrees p r) (Some row) e in
      record { there = f.0; agrees = agrees_words row f.1; lowest = λ s l h. both_ways _ (f.2 s l) (words_agree s h) }

-- steps

module _ (p : Plan) (ts : List Moment) (r : Run) (row : ℕ) where
  behind_words : (x y : ℕ) → behind p ts r row x y ≡ true → has r.released y ≡ false → earlier (moment p ts row y) (moment p ts row x) ≡ false
  behind_words x y e left = elim (or_cases _ _ e) [ inl q ↦ absurd (both_ways _ left q) | inr q ↦ not-true _ q ]

  words_behind : (x y : ℕ) → (has r.released y ≡ false → earlier (moment p ts row y) (moment p ts row x) ≡ false) → behind p ts r row x y ≡ true
  words_behind x y h = elim (cases_Bool (has r.released y)) [ inl q ↦ or_left _ _ q | inr q ↦ or_right (has r.released y) _ (not_from_false _ (h q)) ]

  pub earliest_words : (x : ℕ) → earliest p ts r row ≡ Some x → Earliest p ts r row x
  earliest_words x e =
      let f = found p.points (leads p ts r row) (Some x) e in
      let both = and_parts _ _ f.1 in
      let before : (y : ℕ) → y < p.points → has r.released y ≡ false → earlier (moment p ts row y) (moment p ts row x) ≡ false = λ y l. behind_words x y (every_true p.points _ both.1 y l) in
      record {
        step = f.0;
        left = not-true _ both.0;
        earliest = before;
        lowest = λ y l left q. both_ways _ (f.2 y l) (and_from _ _ (not_from_false _ left) (true_every p.points _ (λ z k. words_behind y z (λ h. subst (λ t. earlier (moment p ts row z) t ≡ false) (sym q) (before z k h)))));
      }

  pub all_released : earliest p ts r row ≡ None → (x : ℕ) → x < p.points → has r.released x ≡ true
  all_released e x l =
      elim (least_or_none (moment p ts row) (λ y. not (has r.released y)) p.points) [
        | inl h ↦ not-false _ (h x l)
        | inr s ↦ absurd (both_ways _ (found p.points (leads p ts r row) None e s.0 s.1.below) (and_from _ _ s.1.passing (true_every p.points _ (λ y k. words_behind s.0 y (λ h. s.1.least y k (not_from_false _ h))))))
      ]

  mapped_some : (o : Option ℕ) (t : Turn) → option_map (λ x. record { row = row; point = x }) o ≡ Some t → (row ≡ t.row) × (o ≡ Some t.point)
  mapped_some None t e = absurd (some_none t (sym e))
  mapped_some (Some x) t e = let q : record { row = row; point = x } ≡ t = cc in (ap (λ (t : Turn). t.row) q, ap (λ (t : Turn). Some t.point) q)

  mapped_none : (o : Option ℕ) → option_map {U = Turn} (λ x. record { row = row; point = x }) o ≡ None → o ≡ None
  mapped_none None e = refl
  mapped_none (Some x) e = absurd (some_none _ e)

module _ (p : Plan) (ts : List Moment) (m : Meaning) (r : Run) where
  turn_some : (o : Option ℕ) (t : Turn) → turn_in p ts r o ≡ Some t → (o ≡ Some t.row) × (earliest p ts r t.row ≡ Some t.point)
  turn_some None t e = absurd (some_none t (sym e))
  turn_some (Some row) t e =
      let q = mapped_some p ts r row (earliest p ts r row) t e in
      (ap Some q.0, subst (λ s. earliest p ts r s ≡ Some t.point) q.0 q.1)

  turn_none : (row : ℕ) → lowest p r ≡ Some row → next_turn p ts r ≡ None → (x : ℕ) → x < p.points → has r.released x ≡ true
  turn_none row l e = all_released p ts r row (mapped_none p ts r row (earliest p ts r row) (subst (λ o. turn_in p ts r o ≡ None) l e))

  waits_words : (row x i : ℕ) → i < letters p → waits_for p ts m r row (moment p ts row x) i ≡ true → Waits p ts m r row x i
  waits_words row x i l e =
      let a = and_parts _ _ e in
      let b = and_parts _ _ a.0 in
      record { letter = l; out = b.0; untold = not-true _ b.1; seen = a.1 }

  no_waits : (row x i : ℕ) → waits_for p ts m r row (moment p ts row x) i ≡ false → Waits p ts m r row x i → ⊥
  no_waits row x i e w = both_ways _ e (and_from _ _ (and_from _ _ w.out (not_from_false _ w.untold)) w.seen)

  token_says : (x : ℕ) (o : Option ℕ) → letter_of p x ≡ o → TokenSays p r x (option_map (token_of r) o)
  token_says x None e = λ i l h. both_ways _ (found (letters p) (λ i. eqb (test p i) x) None e i l) (eq-eqb _ _ h)
  token_says x (Some i) e =
      let f = found (letters p) (λ i. eqb (test p i) x) (Some i) e in
      (refl, f.0, eqb-true _ _ f.1, refl)

  abbrev stops : Option Refusal
  stops = or_else (memory_refusal p ts) (other_plan p r)

  module _ (kept : MemoryKept p ts) (plan : OfPlan p r) where
    module _ (t : Turn) (e : next_turn p ts r ≡ Some t) where
      lowest_there : Lowest p r t.row
      lowest_there = lowest_words p r t.row (turn_some (lowest p r) t e).0

      earliest_there : Earliest p ts r t.row t.point
      earliest_there = earliest_words p ts r t.row t.point (turn_some (lowest p r) t e).1

      waiting_says : (o : Option Refusal) → waiting p ts m r t ≡ o → ReleaseSays p ts m r (released_by p ts m r (unless o t)).0
      waiting_says None q = record {
        memory = kept;
        plan = plan;
        row = t.row;
        lowest = lowest_there;
        earliest = earliest_there;
        moment_is = refl;
        unwaited = λ i w. no_waits t.row t.point i (when_none _ _ (first_none (letters p) _ q i w.letter)) w;
        token = token_says t.point (letter_of p t.point) refl;
      }
      waiting_says (Some refusal) q =
          let s = first_some (letters p) _ refusal q in
          let w = when_some _ _ refusal s.2 in
          subst (ReleaseRefused p ts m r) w.1 (waits kept plan t.row t.point s.0 lowest_there earliest_there (waits_words t.row t.point s.0 s.1 w.0) (λ j l. no_waits t.row t.point j (when_none _ _ (s.3 j l))))

    ready_says : (o : Option Turn) → next_turn p ts r ≡ o → ReleaseSays p ts m r (released_by p ts m r (ready p ts m r o)).0
    ready_says None e = by (lowest p r) refl
      where
        by : (o : Option ℕ) → lowest p r ≡ o → ReleaseRefused p ts m r (refusal_at 15 0)
        by None l = absurd (some_row p r l)
        by (Some row) l = none_left kept plan row (lowest_words p r row l) (turn_none row l e)
    ready_says (Some t) e = waiting_says t e (waiting p ts m r t) refl

  barred_says : (o : Option Refusal) → stops ≡ o → ReleaseSays p ts m r (released_by p ts m r (barred o (ready p ts m r (next_turn p ts r)))).0
  barred_says None e =
      let both = or_none (memory_refusal p ts) _ e in
      ready_says (kept_from_none p ts both.0) (of_plan p r both.1) (next_turn p ts r) refl
  barred_says (Some q) e =
      elim (or_some (memory_refusal p ts) _ q e) [
        | inl h ↦ in_memory q (memory_names p ts q h)
        | inr h ↦ (let n = not_of_plan p r q h.1 in subst (ReleaseRefused p ts m r) n.1 (words.other_plan (kept_from_none p ts h.0) n.0))
      ]

  -- what each answer of a release says
  pub release_says : ReleaseSays p ts m r (releasing p ts m r).0
  release_says = barred_says stops refl

  -- a step that is chosen is a point
  pub turn_below : (t : Turn) → given t ≡ chosen p ts m r → t.point < p.points
  turn_below t e =
      let now : ReleasedNow p ts m r (step_at p ts r t) = subst (λ a. ReleaseSays p ts m r (released_by p ts m r a).0) (sym e) release_says in
      now.earliest.step
