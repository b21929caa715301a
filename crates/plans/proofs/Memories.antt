-- What the refusals of memory say.
use Rattle.std.proofs.Common.{◌≡◌, ℕ, ◌+◌, ◌*◌, ◌<◌, ◌≤◌, Bool, true, not, ◌⊎◌, List, length, Some, None, Option, sym, refl, subst, inl, inr, arith}
use Rattle.std.proofs.lemmas.Nat.{mul-add-lt}
use Rattle.std.proofs.lemmas.Bool.{cases_order, ltb-true, ltb-false, le-ltb, eqb-true, eqb-false, eq-eqb, not-true, not-false, not_from_true}
use Rattle.refusals.specs.declared.Refusal.{Refusal}
use Rattle.refusals.specs.Answers.{Answer, unless}
use Rattle.times.specs.Moments.{Moment}
use Rattle.refusals.specs.Searches.{or_else, when}
use Rattle.plans.specs.Plans.{Plan, rows}
use Rattle.plans.specs.Memory.{many_refusal, limit_refusal, limits_refusal, count_refusal, time_refusal, times_refusal, memory_refusal, LimitKept, LimitsKept, TimesKept, MemoryKept, MemoryRefused, MemorySays, too_many, wrong_count, bad_limit, bad_bound, bad_time, LimitsRefused, LimitsSay, too_many_limits, unfitting, unbounded}
use Rattle.refusals.proofs.Firsts.{or_none, none_or, or_some, when_none, none_when, when_some, first_none, none_first, first_some, first_pair}

-- what stands before a place: a row before, or a point before in the row
pub place_before : (n r y row x : ℕ) → x < n → r * n + y < row * n + x → (r < row) ⊎ ((r ≡ row) × (y < x))
place_before n r y row x h l =
    elim (cases_order r row) [
      | inl e ↦ inr (e, let k = subst (λ q. q * n + y < row * n + x) e l in omega arith)
      | inr (inl e) ↦ inl e
      | inr (inr e) ↦ absurd (omega (arith, mul-add-lt row n x r e h))
    ]

-- a refusal of what fails a test
module _ (b : Bool) (r : Refusal) where
  passed : when (not b) r ≡ None → b ≡ true
  passed e = not-false b (when_none (not b) r e)

  none_passed : b ≡ true → when (not b) r ≡ None
  none_passed e = none_when (not b) r (not_from_true b e)

module _ (p : Plan) where
  few_from : many_refusal p ≡ None → length p.limits ≤ 256
  few_from e = ltb-false 256 (length p.limits) (when_none _ _ e)

  limit_from : (j : ℕ) → limit_refusal p j ≡ None → LimitKept p j
  limit_from j e = let both = or_none _ _ e in record { fitting = passed _ _ both.0; bounded = passed _ _ both.1 }

  kept_limits : many_refusal p ≡ None → limits_refusal p ≡ None → LimitsKept p
  kept_limits m l = record { few = few_from m; each = λ j h. limit_from j (first_none _ (limit_refusal p) l j h) }

  none_many : LimitsKept p → many_refusal p ≡ None
  none_many kept = none_when _ _ (le-ltb 256 (length p.limits) kept.few)

  none_limits : LimitsKept p → limits_refusal p ≡ None
  none_limits kept = none_first _ (limit_refusal p) (λ j h. none_or _ _ (none_passed _ _ (kept.each j h).fitting) (none_passed _ _ (kept.each j h).bounded))

  -- of a call that takes limits alone
  pub limits_kept_from : or_else (many_refusal p) (limits_refusal p) ≡ None → LimitsKept p
  limits_kept_from e = let both = or_none _ _ e in kept_limits both.0 both.1

  pub none_from_limits : LimitsKept p → or_else (many_refusal p) (limits_refusal p) ≡ None
  none_from_limits kept = none_or _ _ (none_many kept) (none_limits kept)

module _ (p : Plan) (ts : List Moment) where
  full_from : count_refusal p ts ≡ None → length ts ≡ rows p * p.points
  full_from e = eqb-true (length ts) (rows p * p.points) (passed _ _ e)

  kept_times : count_refusal p ts ≡ None → times_refusal p ts ≡ None → TimesKept p ts
  kept_times c t = record { full = full_from c; each = λ row x h l. passed _ _ (first_none p.points (time_refusal p ts row) (first_none (rows p) _ t row h) x l) }

  none_count : TimesKept p ts → count_refusal p ts ≡ None
  none_count kept = none_passed _ _ (eq-eqb (length ts) (rows p * p.points) kept.full)

  none_times : TimesKept p ts → times_refusal p ts ≡ None
  none_times kept = none_first (rows p) _ (λ row h. none_first p.points (time_refusal p ts row) (λ x l. none_passed _ _ (kept.each row x h l)))

  -- of a call that takes times alone
  pub times_kept_from : or_else (count_refusal p ts) (times_refusal p ts) ≡ None → TimesKept p ts
  times_kept_from e = let both = or_none _ _ e in kept_times both.0 both.1

  pub none_from_times : TimesKept p ts → or_else (count_refusal p ts) (times_refusal p ts) ≡ None
  none_from_times kept = none_or _ _ (none_count kept) (none_times kept)

  -- of a call that takes both
  pub kept_from_none : memory_refusal p ts ≡ None → MemoryKept p ts
  kept_from_none e =
      let m = or_none (many_refusal p) _ e in
      let c = or_none (count_refusal p ts) _ m.1 in
      let l = or_none (limits_refusal p) _ c.1 in
      record { limits = kept_limits p m.0 l.0; times = kept_times c.0 l.1 }

  pub none_from_kept : MemoryKept p ts → memory_refusal p ts ≡ None
  none_from_kept kept =
      none_or (many_refusal p) _ (none_many p kept.limits) (none_or (count_refusal p ts) _ (none_count kept.times) (none_or (limits_refusal p) _ (none_limits p kept.limits) (none_times kept.times)))

  module _ (r : Refusal) where
    named : (q : Refusal) → MemoryRefused p ts q → q ≡ r → MemoryRefused p ts r
    named q h e = subst (MemoryRefused p ts) e h

    many_names : many_refusal p ≡ Some r → MemoryRefused p ts r
    many_names e = let w = when_some _ _ r e in named _ (too_many (ltb-true 256 (length p.limits) w.0)) w.1

    count_names : length p.limits ≤ 256 → count_refusal p ts ≡ Some r → MemoryRefused p ts r
    count_names few e = let w = when_some _ _ r e in named _ (wrong_count few (eqb-false (length ts) (rows p * p.points) (not-true _ w.0))) w.1

    limits_name : length p.limits ≤ 256 → length ts ≡ rows p * p.points → limits_refusal p ≡ Some r → MemoryRefused p ts r
    limits_name few full e =
        let s = first_some _ (limit_refusal p) r e in
        let before : (i : ℕ) → i < s.0 → LimitKept p i = λ i h. limit_from p i (s.3 i h) in
        elim (or_some _ _ r s.2) [
          | inl h ↦ (let w = when_some _ _ r h in named _ (bad_limit few full s.0 s.1 before (not-true _ w.0)) w.1)
          | inr h ↦ (let w = when_some _ _ r h.1 in named _ (bad_bound few full s.0 s.1 before (passed _ _ h.0) (not-true _ w.0)) w.1)
        ]

    times_name : LimitsKept p → length ts ≡ rows p * p.points → times_refusal p ts ≡ Some r → MemoryRefused p ts r
    times_name limits full e =
        let s = first_pair (rows p) p.points (time_refusal p ts) r e in
        let w = when_some _ _ r s.4 in
        named _ (bad_time limits full s.0 s.1 s.2 s.3 (λ q y h l. passed _ _ (s.5 q y h (place_before p.points q y s.0 s.1 s.3 l))) (not-true _ w.0)) w.1

    pub memory_names : memory_refusal p ts ≡ Some r → MemoryRefused p ts r
    memory_names e =
        elim (or_some (many_refusal p) _ r e) [
          | inl m ↦ many_names m
          | inr m ↦ elim (or_some (count_refusal p ts) _ r m.1) [
            | inl c ↦ count_names (few_from p m.0) c
            | inr c ↦ elim (or_some (limits_refusal p) _ r c.1) [
              | inl l ↦ limits_name (few_from p m.0) (full_from c.0) l
              | inr l ↦ times_name (kept_limits p m.0 l.0) (full_from c.0) l.1
            ]
          ]
        ]

module _ (p : Plan) (ts : List Moment) where
  says : (o : Option Refusal) → memory_refusal p ts ≡ o → MemorySays p ts (unless o tt)
  says None e = kept_from_none p ts e
  says (Some r) e = memory_names p ts r e

  pub memory_says : (a : Answer (Unit {0})) → a ≡ unless (memory_refusal p ts) tt → MemorySays p ts a
  memory_says a e = subst (MemorySays p ts) (sym e) (says (memory_refusal p ts) refl)

-- of limits alone
module _ (p : Plan) where
  module _ (r : Refusal) where
    many_alone : many_refusal p ≡ Some r → LimitsRefused p r
    many_alone e = let w = when_some _ _ r e in subst (LimitsRefused p) w.1 (too_many_limits (ltb-true 256 (length p.limits) w.0))

    limits_alone : length p.limits ≤ 256 → limits_refusal p ≡ Some r → LimitsRefused p r
    limits_alone few e =
        let s = first_some _ (limit_refusal p) r e in
        let before : (i : ℕ) → i < s.0 → LimitKept p i = λ i h. limit_from p i (s.3 i h) in
        elim (or_some _ _ r s.2) [
          | inl h ↦ (let w = when_some _ _ r h in subst (LimitsRefused p) w.1 (unfitting few s.0 s.1 before (not-true _ w.0)))
          | inr h ↦ (let w = when_some _ _ r h.1 in subst (LimitsRefused p) w.1 (unbounded few s.0 s.1 before (passed _ _ h.0) (not-true _ w.0)))
        ]

    limits_name_alone : or_else (many_refusal p) (limits_refusal p) ≡ Some r → LimitsRefused p r
    limits_name_alone e =
        elim (or_some (many_refusal p) _ r e) [ inl m ↦ many_alone m | inr m ↦ limits_alone (few_from p m.0) m.1 ]

  say : (o : Option Refusal) → or_else (many_refusal p) (limits_refusal p) ≡ o → LimitsSay p (unless o tt)
  say None e = limits_kept_from p e
  say (Some r) e = limits_name_alone r e

  pub limits_say : (a : Answer (Unit {0})) → a ≡ unless (or_else (many_refusal p) (limits_refusal p)) tt → LimitsSay p a
  limits_say a e = subst (LimitsSay p) (sym e) (say (or_else (many_refusal p) (limits_refusal p)) refl)
