-- What stands where in a shifted plan and its table.
use Rattle.std.proofs.Common.{◌≡◌, ℕ, ◌+◌, ◌-◌, ◌*◌, ◌^◌, ◌<◌, List, length, pos, neg_ℤ, ap, ◌∙◌, add_assoc, zero-add, arith, length-append}
use Rattle.std.specs.List.{range_with_len, flat_map}
use Rattle.std.proofs.lemmas.List.FromFn.{length-range_with_len, get_or-range_with_len}
use Rattle.std.proofs.lemmas.List.{get_or-append-add}
use Rattle.std.proofs.lemmas.Bool.{lt-ltb, le-ltb}
use Rattle.times.specs.Moments.{Moment}
use Rattle.plans.specs.Plans.{Plan, letters, rows, test, moment, origin, limit_at}
use Rattle.plans.specs.declared.limits.Limit.{Limit}
use Rattle.shift_theory.specs.Shifts.{plain_limit, points_size, limits_size, new_limits, shifted_limits, shifted_plan, new_moment, shifted_moment, shifted_table}
use Rattle.shift_theory.proofs.Blocks.{grid_at, length-twos, first_of_twos, second_of_twos}

module _ (p : Plan) (d : ℕ) where
  pub letters_same : letters (shifted_plan p d) ≡ letters p
  letters_same = length-range_with_len p.points (letters p)

  pub rows_same : rows (shifted_plan p d) ≡ rows p
  rows_same = ap (λ n. 2 ^ n) letters_same

  pub test_new : (i : ℕ) → i < letters p → test (shifted_plan p d) i ≡ p.points + i
  test_new i h = get_or-range_with_len p.points (letters p) i 0 h

  abbrev pub there : ℕ → Limit Moment
  there i = plain_limit (test p i) (p.points + i) (pos d)

  abbrev pub back : ℕ → Limit Moment
  back i = plain_limit (p.points + i) (test p i) (neg_ℤ (pos d))

  abbrev added : List (Limit Moment)
  added = flat_map (new_limits p d) (range_with_len 0 (letters p))

  pub length-limits : length (shifted_limits p d) ≡ limits_size p
  length-limits = length-append p.limits added ∙ ap (λ n. length p.limits + n) (length-twos there back 0 (letters p))

  pub there_limit : (i : ℕ) → i < letters p → limit_at (shifted_plan p d) (length p.limits + 2 * i) ≡ there i
  there_limit i h = get_or-append-add p.limits added (2 * i) _ ∙ first_of_twos there back 0 (letters p) i _ h ∙ ap there (zero-add i)

  pub back_limit : (i : ℕ) → i < letters p → limit_at (shifted_plan p d) (length p.limits + 2 * i + 1) ≡ back i
  back_limit i h =
      rw add_assoc (get_or-append-add p.limits added (2 * i + 1) _ ∙ second_of_twos there back 0 (letters p) i _ h ∙ ap back (zero-add i))

module _ (p : Plan) (ts : List Moment) (d : ℕ) (row : ℕ) (l : row < rows p) where
  in_row : (x : ℕ) → x < points_size p → moment (shifted_plan p d) (shifted_table p ts d) row x ≡ shifted_moment p ts d row x
  in_row x h = grid_at (shifted_moment p ts d) (rows p) (points_size p) row x origin l h

  pub old_moment : (x : ℕ) → x < p.points → moment (shifted_plan p d) (shifted_table p ts d) row x ≡ moment p ts row x
  old_moment x h = in_row x (omega arith) ∙ rw (lt-ltb x p.points h)

  pub added_moment : (i : ℕ) → i < letters p → moment (shifted_plan p d) (shifted_table p ts d) row (p.points + i) ≡ new_moment p ts d row i
  added_moment i h =
      let same : p.points + i - p.points ≡ i = omega arith in
      in_row (p.points + i) (omega arith) ∙ rw (le-ltb (p.points + i) p.points (omega arith), same)
