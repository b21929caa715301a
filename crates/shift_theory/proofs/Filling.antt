-- Which limit and which time has a number.
use Rattle.std.proofs.Common.{◌≡◌, ℕ, zero, suc, ◌+◌, ◌-◌, ◌*◌, ◌/◌, ◌%◌, ◌<◌, ◌≤◌, List, length, get_or, sym, refl, ap, ◌∙◌, zero-add, arith, pow_mono}
use Rattle.std.proofs.lemmas.Nat.{div-add-mod', div_below, mod_below}
use Rattle.std.proofs.lemmas.List.FromFn.{get_or-map-range_with_len, length-map-range_with_len}
use Rattle.times.specs.Moments.{Moment}
use Rattle.plans.specs.Plans.{Plan, letters, rows, origin, limit_at}
use Rattle.shift_theory.specs.Shifts.{points_size, limits_size, times_size, shifted_plan, shifted_moment, shifted_table}
use Rattle.shift_theory.proofs.Lookups.{there, back, there_limit, back_limit}

one_left : (n : ℕ) → n < 2 → (n ≡ 0 → ⊥) → n ≡ 1
one_left zero h ne = absurd (ne refl)
one_left (suc n) h ne = omega arith

module _ (p : Plan) (d : ℕ) where
  -- of the limits after the first m, each test has two
  module _ (m : ℕ) (all_old : m ≡ length p.limits) (j : ℕ) (new : m ≤ j) (inside : j < limits_size p) where
    letter_below : (j - m) / 2 < letters p
    letter_below = omega (arith, div-add-mod' (j - m) 2)

    pub there_at : (j - m) % 2 ≡ 0 → there p d ((j - m) / 2) ≡ limit_at (shifted_plan p d) j
    there_at even =
        let same : length p.limits + 2 * ((j - m) / 2) ≡ j = omega (arith, div-add-mod' (j - m) 2) in
        sym (there_limit p d ((j - m) / 2) letter_below) ∙ ap (limit_at (shifted_plan p d)) same

    pub back_at : ((j - m) % 2 ≡ 0 → ⊥) → back p d ((j - m) / 2) ≡ limit_at (shifted_plan p d) j
    back_at odd =
        let one = one_left _ (mod_below (j - m) 2 (omega arith)) odd in
        let same : length p.limits + 2 * ((j - m) / 2) + 1 ≡ j = omega (arith, div-add-mod' (j - m) 2) in
        sym (back_limit p d ((j - m) / 2) letter_below) ∙ ap (limit_at (shifted_plan p d)) same

  -- the row and the point of a place
  module _ (at w : ℕ) (wide : w ≡ points_size p) (some : 1 ≤ p.points) (inside : at < times_size p) where
    pub row_below : at / w < rows p
    row_below = div_below at w (rows p) (omega arith) (rw wide inside)

  pub time_there : (ts : List Moment) (at : ℕ) → at < times_size p → shifted_moment p ts d (at / points_size p) (at % points_size p) ≡ get_or (shifted_table p ts d) at origin
  time_there ts at h = sym (get_or-map-range_with_len _ 0 (times_size p) at at origin h (zero-add at))

  pub few_rows : letters p ≤ 6 → rows p ≤ 64
  few_rows h = pow_mono h

  pub length-table : (ts : List Moment) → length (shifted_table p ts d) ≡ times_size p
  length-table ts = length-map-range_with_len _ 0 (times_size p)
