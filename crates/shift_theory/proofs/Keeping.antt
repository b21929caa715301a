-- A shifted pair keeps the rules of memory.
use Rattle.std.proofs.Common.{◌≡◌, ℕ, ◌+◌, ◌-◌, ◌*◌, ◌<◌, ◌≤◌, true, not, ◌||◌, eqb, ltb, List, ℤ, pos, neg_ℤ, sym, refl, ap, ◌∙◌, subst, ⊎_elim, zero-add, arith, pow_pos}
use Rattle.std.specs.List.{range_with_len, flat_map, AllByRecursion}
use Rattle.std.proofs.lemmas.List.FromFn.{length-map-range_with_len}
use Rattle.std.proofs.ByRecursion.{All-get_or, All-from_get_or, All-append}
use Rattle.std.proofs.lemmas.Bool.{and_parts, and_from, ltb-true, lt-ltb, ne_eqb, cases_lt, or_left, not_from_false}
use Rattle.times.specs.Moments.{Moment, bound_rule, table_rule, is_zero}
use Rattle.plans.specs.Memory.{fitting, fits, allowed, LimitsKept, TimesKept, MemoryKept}
use Rattle.plans.specs.Plans.{Plan, letters, rows, test, moment, limit_at}
use Rattle.plans.specs.declared.limits.Limit.{Limit}
use Rattle.verdicts.specs.Meanings.{Placed}
use Rattle.shift_theory.specs.Shifts.{plain_limit, points_size, times_size, new_limits, shifted_limits, shifted_plan, new_moment, shifted_table}
use Rattle.shift_theory.specs.Promises.{Small}
use Rattle.shift_theory.proofs.Blocks.{all_twos}
use Rattle.shift_theory.proofs.Lookups.{rows_same, there, back, length-limits, old_moment, added_moment}
use Rattle.shift_theory.proofs.Moments.{delay_bound, back_bound, stays_in_table}

-- what holds below m and at m plus each number below n
pub below_add : (P : ℕ → Type 0) (m n : ℕ) → ((x : ℕ) → x < m → P x) → ((i : ℕ) → i < n → P (m + i)) → (x : ℕ) → x < m + n → P x
below_add P m n old new x h =
    ⊎_elim
    (old x)
    (λ l. let e : m + (x - m) ≡ x = omega arith in subst P e (new (x - m) (omega arith)))
    (cases_lt x m)

ltb_wider : (x n m : ℕ) → n ≤ m → ltb x n ≡ true → ltb x m ≡ true
ltb_wider x n m h e = lt-ltb x m (omega (arith, ltb-true x n e))

wider : (n m r : ℕ) (l : Limit Moment) → n ≤ m → fitting n r l ≡ true → fitting m r l ≡ true
wider n m r l h e =
    let parts = and_parts _ _ e in
    let points = and_parts _ _ parts.0 in
    and_from _ _ (and_from _ _ (ltb_wider l.from n m h points.0) (ltb_wider l.to n m h points.1)) parts.1

-- a limit without letters between points
plain_fits : (n r x y : ℕ) (z : ℤ) → x < n → y < n → 0 < r → fitting n r (plain_limit x y z) ≡ true
plain_fits n r x y z h k l =
    and_from _ _ (and_from _ _ (lt-ltb x n h) (lt-ltb y n k)) (and_from _ _ (and_from _ _ (lt-ltb 0 r l) (lt-ltb 0 r l)) refl)

pub in_table : (x : ℕ) (m : Moment) → allowed x m ≡ true → table_rule m ≡ true
in_table x m e = (and_parts (table_rule m) (not (eqb x 0) || is_zero m) e).0

-- other points than the start need not stand at zero
not_started : (x : ℕ) (m : Moment) → 0 < x → table_rule m ≡ true → allowed x m ≡ true
not_started x m h e = and_from _ _ e (or_left _ _ (not_from_false _ (ne_eqb x 0 (λ z. omega arith))))

module _ (p : Plan) (ts : List Moment) (d : ℕ) (placed : Placed p) (bounded : d ≤ 1000000) (memory : MemoryKept p ts) (small : Small p ts d) where
  abbrev KeptLimit : Limit Moment → Type 0
  KeptLimit l = (fits (shifted_plan p d) l ≡ true) × (bound_rule l.bound ≡ true)

  old_kept : AllByRecursion KeptLimit p.limits
  old_kept =
      All-from_get_or KeptLimit p.limits _ (λ j h.
      let kept = memory.limits.each j h in
      (rw (rows_same p d) (wider p.points (points_size p) (rows p) (limit_at p j) (omega arith) kept.fitting), kept.bounded))

  new_kept : AllByRecursion KeptLimit (flat_map (new_limits p d) (range_with_len 0 (letters p)))
  new_kept =
      all_twos (there p d) (back p d) KeptLimit 0 (letters p) (λ i h. rw zero-add (
      let old : test p i < points_size p = omega (arith, placed i h) in
      let new : p.points + i < points_size p = omega arith in
      let some = pow_pos (letters p) in (
        (rw (rows_same p d) (plain_fits (points_size p) (rows p) (test p i) (p.points + i) (pos d) old new some), delay_bound d bounded),
        (rw (rows_same p d) (plain_fits (points_size p) (rows p) (p.points + i) (test p i) (neg_ℤ (pos d)) new old some), back_bound d bounded),
      )))

  limits_kept : LimitsKept (shifted_plan p d)
  limits_kept = record {
    few = rw (length-limits p d) small.limits;
    each = λ j h. let kept = All-get_or KeptLimit (shifted_limits p d) j _ h (All-append KeptLimit p.limits _ old_kept new_kept) in record { fitting = kept.0; bounded = kept.1 };
  }

  times_kept : TimesKept (shifted_plan p d) (shifted_table p ts d)
  times_kept = record {
    full = length-map-range_with_len _ 0 (times_size p) ∙ ap (λ n. n * points_size p) (sym (rows_same p d));
    each = λ row x l.
        let l' : row < rows p = omega (arith, rows_same p d) in
        below_add (λ x. allowed x (moment (shifted_plan p d) (shifted_table p ts d) row x) ≡ true) p.points (letters p)
        (λ x h. rw (old_moment p ts d row l' x h) (memory.times.each row x l' h))
        (λ i h.
        let kept = in_table (test p i) (moment p ts row (test p i)) (memory.times.each row (test p i) l' (placed i h)) in
        rw (added_moment p ts d row l' i h) (not_started (p.points + i) (new_moment p ts d row i) (omega (arith, placed i h)) (stays_in_table (moment p ts row (test p i)) d kept (small.times row i l' h))))
        x;
  }

  pub memory_kept : MemoryKept (shifted_plan p d) (shifted_table p ts d)
  memory_kept = record { limits = limits_kept; times = times_kept }
