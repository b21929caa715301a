-- What the answer of shifting says.
use Rattle.std.proofs.Common.{◌≡◌, ℕ, zero, suc, ◌<◌, Bool, true, false, leb, List, ℤ, pos, ◌≤ℤ◌, ◌<ℤ◌, Some, None, Option, sym, refl, ap, subst, inl, inr, arith}
use lib.Signed.{le_z}
use Rattle.std.proofs.lemmas.Int.{ints}
use Rattle.std.proofs.lemmas.Bool.{and_parts, and_from, and_cases, leb-true, leb-false, le-leb, ltb-true, ltb-false, le-ltb, not-true, not-false, not_from_true}
use Rattle.refusals.specs.Answers.{Answer, refused, unless}
use Rattle.refusals.specs.declared.Refusal.{Refusal}
use Rattle.times.specs.Moments.{Moment}
use Rattle.heads.specs.Heads.{Outline}
use Rattle.plans.specs.Memory.{memory_refusal, MemoryKept}
use Rattle.plans.specs.Plans.{Plan, letters, rows}
use Rattle.refusals.specs.Searches.{every}
use Rattle.refusals.proofs.Firsts.{or_none, none_or, or_some, when_none, none_when, when_some, every_true, true_every}
use Rattle.plans.proofs.Memories.{kept_from_none, none_from_kept, memory_names}
use Rattle.shift_theory.specs.Promises.{Small, TooLarge, many_points, many_limits, late_time, CanShift, ShiftRefused, in_memory, too_large, short_limits, short_times, ShiftSays, Answered}
use Rattle.shift_theory.specs.Shifts.{points_size, limits_size, times_size, shifted_outline, all_timely, small, large_refusal, room_refusal, rooms_refusal, shift_refusal, shift_answer}

-- what the checks say

pub stays_refused : {X Y : Type 0} (f : Option Refusal) (r : Refusal) (x : X) (y : Y) → refused r ≡ unless f x → refused r ≡ unless f y
stays_refused None r x y e = let z : ◌≡◌ {A = ℕ} 0 1 = cc in absurd (omega arith)
stays_refused (Some q) r x y e = let same : r ≡ q = cc in ap refused same

up_to : (z : ℤ) → le_z z (pos 1000000) ≡ true → z ≤ℤ pos 1000000
up_to z e = grind (arith, ints)

to_up : (z : ℤ) → z ≤ℤ pos 1000000 → le_z z (pos 1000000) ≡ true
to_up z h = grind (arith, ints)

past : (z : ℤ) → le_z z (pos 1000000) ≡ false → pos 1000000 <ℤ z
past z e = grind (arith, ints)

-- a test that fails for some number
some_fails : (n : ℕ) (f : ℕ → Bool) → every n f ≡ false → (i : ℕ) × (i < n) × (f i ≡ false)
some_fails zero f e = let z : true ≡ false = e in absurd (grind arith)
some_fails (suc n) f e = elim (and_cases (every n f) (f n) e) [ inl h ↦ let s = some_fails n f h in (s.0, omega (arith, s.1), s.2) | inr h ↦ (n, omega arith, h) ]

module _ (p : Plan) (ts : List Moment) (d : ℕ) where
  small_from : small p ts d ≡ true → Small p ts d
  small_from e =
      let parts = and_parts _ (all_timely p ts d) e in
      let counts = and_parts (leb (points_size p) 48) (leb (limits_size p) 256) parts.0 in
      record {
        points = leb-true _ _ counts.0;
        limits = leb-true _ _ counts.1;
        times = λ row i l h. up_to _ (every_true (letters p) _ (every_true (rows p) _ parts.1 row l) i h);
      }

  from_small : Small p ts d → small p ts d ≡ true
  from_small s =
      and_from _ (all_timely p ts d) (and_from _ _ (le-leb (points_size p) 48 s.points) (le-leb (limits_size p) 256 s.limits)) (true_every (rows p) _ (λ row l. true_every (letters p) _ (λ i h. to_up _ (s.times row i l h))))

  large_from : small p ts d ≡ false → TooLarge p ts d
  large_from e =
      elim (and_cases _ (all_timely p ts d) e) [
        | inl h ↦ elim (and_cases (leb (points_size p) 48) (leb (limits_size p) 256) h) [ inl k ↦ many_points (leb-false _ _ k) | inr k ↦ many_limits (leb-false _ _ k) ]
        | inr h ↦
            let row = some_fails (rows p) _ h in
            let i = some_fails (letters p) _ row.2 in
            late_time row.0 i.0 row.1 i.1 (past _ i.2)
      ]

  module _ (limits_room times_room : ℕ) where
    abbrev found : Option Refusal
    found = shift_refusal p ts d limits_room times_room

    pub can_from_none : found ≡ None → CanShift p ts d limits_room times_room
    can_from_none e =
        let m = or_none (memory_refusal p ts) _ e in
        let s = or_none (large_refusal p ts d) _ m.1 in
        let r = or_none (room_refusal limits_room (limits_size p)) _ s.1 in
        record {
          memory = kept_from_none p ts m.0;
          small = small_from (not-false _ (when_none _ _ s.0));
          limits_fit = ltb-false limits_room (limits_size p) (when_none _ _ r.0);
          times_fit = ltb-false times_room (times_size p) (when_none _ _ r.1);
        }

    none_from_can : CanShift p ts d limits_room times_room → found ≡ None
    none_from_can c =
        none_or (memory_refusal p ts) _ (none_from_kept p ts c.memory) (none_or (large_refusal p ts d) _ (none_when _ _ (not_from_true _ (from_small c.small))) (none_or (room_refusal limits_room (limits_size p)) _ (none_when _ _ (le-ltb _ _ c.limits_fit)) (none_when _ _ (le-ltb _ _ c.times_fit))))

    module _ (r : Refusal) where
      named : (q : Refusal) → ShiftRefused p ts d limits_room times_room q → q ≡ r → ShiftRefused p ts d limits_room times_room r
      named q h e = subst (ShiftRefused p ts d limits_room times_room) e h

      rooms_name : MemoryKept p ts → Small p ts d → rooms_refusal p ts d limits_room times_room ≡ Some r → ShiftRefused p ts d limits_room times_room r
      rooms_name kept s e =
          elim (or_some (room_refusal limits_room (limits_size p)) _ r e) [
            | inl h ↦ let w = when_some _ _ r h in named _ (short_limits kept s (ltb-true _ _ w.0)) w.1
            | inr h ↦ let w = when_some _ _ r h.1 in named _ (short_times kept s (ltb-false _ _ (when_none _ _ h.0)) (ltb-true _ _ w.0)) w.1
          ]

      refuses : found ≡ Some r → ShiftRefused p ts d limits_room times_room r
      refuses e =
          elim (or_some (memory_refusal p ts) _ r e) [
            | inl h ↦ in_memory r (memory_names p ts r h)
            | inr h ↦
                let kept = kept_from_none p ts h.0 in
                elim (or_some (large_refusal p ts d) _ r h.1) [
                  | inl k ↦ let w = when_some _ _ r k in named _ (too_large kept (large_from (not-true _ w.0))) w.1
                  | inr k ↦ rooms_name kept (small_from (not-false _ (when_none _ _ k.0))) k.1
                ]
          ]

    says_of : (f : Option Refusal) (o : Outline) → (f ≡ None → CanShift p ts d limits_room times_room) → ((r : Refusal) → f ≡ Some r → ShiftRefused p ts d limits_room times_room r) → ShiftSays p ts d limits_room times_room (unless f o)
    says_of None o none some = none refl
    says_of (Some r) o none some = some r refl

    pub answered : (round : ℕ) (a : Answer Outline) → a ≡ shift_answer p ts d limits_room times_room round → Answered p ts d limits_room times_room round a
    answered round a q =
        let says = says_of found (shifted_outline p round) can_from_none refuses in
        subst (Answered p ts d limits_room times_room round) (sym q) (record {
          gives = (λ e. subst (ShiftSays p ts d limits_room times_room) e says, λ c. ap (λ f. unless f (shifted_outline p round)) (none_from_can c));
          says = says;
        })
