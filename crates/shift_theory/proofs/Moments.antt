-- Moments some ticks later.
use Rattle.std.proofs.Common.{◌≡◌, ℕ, ◌≤◌, true, false, ℤ, pos, ◌-ℤ◌, neg_ℤ, ◌≤ℤ◌, sym, ◌∙◌, arith}
use lib.Signed.{lt_z}
use Rattle.std.proofs.lemmas.Int.{ints}
use Rattle.std.proofs.lemmas.Bool.{not-true}
use Rattle.times.specs.Moments.{Moment, earlier, minus, whole, within, in_range, bound_rule, table_rule}
use Rattle.verdicts.proofs.Order.{same_equal}
use Rattle.shift_theory.specs.Shifts.{later}

pub not_before : (o : Moment) (d : ℕ) → earlier (later o d) o ≡ false
not_before o d = grind (arith, ints)

pub keeps_there : (o : Moment) (d : ℕ) → within o (later o d) (whole (pos d)) ≡ true
keeps_there o d = grind (arith, ints)

pub keeps_back : (o : Moment) (d : ℕ) → within (later o d) o (whole (neg_ℤ (pos d))) ≡ true
keeps_back o d = grind (arith, ints)

turned_up : (a b : ℤ) (d : ℕ) → lt_z (neg_ℤ (pos d)) (a -ℤ b) ≡ lt_z (b -ℤ a) (pos d)
turned_up a b d = grind (arith, ints)

turned_down : (a b : ℤ) (d : ℕ) → lt_z (a -ℤ b) (neg_ℤ (pos d)) ≡ lt_z (pos d) (b -ℤ a)
turned_down a b d = grind (arith, ints)

turned : (o n : Moment) (d : ℕ) → earlier (whole (neg_ℤ (pos d))) (minus o n) ≡ earlier (minus n o) (whole (pos d))
turned o n d = rw (turned_up o.ticks n.ticks d, turned_down o.ticks n.ticks d, turned_up o.grains n.grains 0)

-- what keeps both limits stands exactly d later
pub kept_exactly : (o n : Moment) (d : ℕ) → within o n (whole (pos d)) ≡ true → within n o (whole (neg_ℤ (pos d))) ≡ true → minus n o ≡ whole (pos d)
kept_exactly o n d h k = same_equal (minus n o) (whole (pos d)) (sym (turned o n d) ∙ not-true _ k) (not-true _ h)

pub delay_bound : (d : ℕ) → d ≤ 1000000 → bound_rule (whole (pos d)) ≡ true
delay_bound d h = grind (arith, ints)

pub back_bound : (d : ℕ) → d ≤ 1000000 → bound_rule (whole (neg_ℤ (pos d))) ≡ true
back_bound d h = grind (arith, ints)

pub stays_in_range : (o : Moment) (d : ℕ) → table_rule o ≡ true → d ≤ 1000000 → in_range (later o d) ≡ true
stays_in_range o d h k = grind (arith, ints)

pub stays_in_table : (o : Moment) (d : ℕ) → table_rule o ≡ true → (later o d).ticks ≤ℤ pos 1000000 → table_rule (later o d) ≡ true
stays_in_table o d h k = grind (arith, ints)
