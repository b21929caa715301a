-- What is so of shifting, in the words of the subject.
use Rattle.std.specs.Prelude.{◌≡◌, ℕ, ◌+◌, ◌*◌, ◌<◌, ◌≤◌, true, ◌↔◌, List, map, length, take, drop, pos, ◌≤ℤ◌, ◌<ℤ◌}
use Rattle.refusals.specs.Answers.{Answer, given, refused, refusal_at}
use Rattle.refusals.specs.declared.Refusal.{Refusal}
use Rattle.times.specs.Moments.{Moment, minus, whole}
use Rattle.rules.specs.Meanings.{Meaning, Persists, Afterwards, delayed, named_rule}
use Rattle.heads.specs.Heads.{Outline}
use Rattle.plans.specs.Memory.{MemoryKept, MemoryRefused}
use Rattle.plans.specs.Plans.{Plan, letters, test, rows, moment, limit_at, keeps}
use Rattle.offences.specs.Verdicts.{verdict}
use Rattle.shift_theory.specs.Shifts.{later, points_size, limits_size, times_size, shifted_outline, new_moment}

module _ (p : Plan) (ts : List Moment) (d : ℕ) where
  -- nothing of the shifted pair passes its bound
  pub record Small : Type 0 where
    pub points : points_size p ≤ 48
    pub limits : limits_size p ≤ 256
    pub times : (row i : ℕ) → row < rows p → i < letters p → (new_moment p ts d row i).ticks ≤ℤ pos 1000000

  -- something of it does
  pub data TooLarge : Type 0 where
    many_points : 48 < points_size p → TooLarge
    many_limits : 256 < limits_size p → TooLarge
    late_time : (row i : ℕ) → row < rows p → i < letters p → pos 1000000 <ℤ (new_moment p ts d row i).ticks → TooLarge

  module _ (limits_room times_room : ℕ) where
    -- a pair that can be shifted into arrays of so many limits and times
    pub record CanShift : Type 0 where
      pub memory : MemoryKept p ts
      pub small : Small
      pub limits_fit : limits_size p ≤ limits_room
      pub times_fit : times_size p ≤ times_room

    -- what each refusal says: what it names breaks its rule, and nothing before it does
    pub data ShiftRefused : Refusal → Type 0 where
      in_memory : (r : Refusal) → MemoryRefused p ts r → ShiftRefused r
      too_large : MemoryKept p ts → TooLarge → ShiftRefused (refusal_at 18 0)
      short_limits : MemoryKept p ts → Small → limits_room < limits_size p → ShiftRefused (refusal_at 11 (limits_size p))
      short_times : MemoryKept p ts → Small → limits_size p ≤ limits_room → times_room < times_size p → ShiftRefused (refusal_at 11 (times_size p))

    abbrev pub ShiftSays : Answer Outline → Type 0
    ShiftSays (given o) = CanShift
    ShiftSays (refused r) = ShiftRefused r

    -- a pair is shifted exactly when it can be, and a refusal names the first rule that is broken
    pub record Answered (round : ℕ) (a : Answer Outline) : Type 0 where
      pub gives : (a ≡ given (shifted_outline p round)) ↔ CanShift
      pub says : ShiftSays a

-- what an answer leaves in an array: the results, and past them what was there; or all as it was
abbrev pub Filled : {X Y : Type 0} → (X → Y) → ℕ → List Y → List X → List X → Answer Outline → Type 0
Filled of size results before after (given o) = (map of (take size after) ≡ results) × (drop size after ≡ drop size before)
Filled of size results before after (refused r) = after ≡ before

-- p and ts shifted by d are p' and ts'
module _ (p : Plan) (ts : List Moment) (d : ℕ) (p' : Plan) (ts' : List Moment) where
  -- in every table that keeps the two new limits of a test in a row, the new test stands there exactly d ticks after the old one
  abbrev pub ExactlyLater : Type 0
  ExactlyLater =
      (us : List Moment) (row i : ℕ) → i < letters p → keeps p' us row (limit_at p' (length p.limits + 2 * i)) ≡ true → keeps p' us row (limit_at p' (length p.limits + 2 * i + 1)) ≡ true → minus (moment p' us row (test p' i)) (moment p' us row (test p i)) ≡ whole (pos d)

  -- the old pair is accepted under the delay over a rule exactly when the shifted pair is accepted under the rule alone
  abbrev pub SameVerdict : Type 0
  SameVerdict = (m : Meaning) → Persists m → Afterwards m → (verdict p ts (delayed d m) ≡ given tt) ↔ (verdict p' ts' m ≡ given tt)

  -- the same of the rules that the two heads name
  abbrev pub SameNamed : Type 0
  SameNamed = (round : ℕ) → (verdict p ts (named_rule round d) ≡ given tt) ↔ (verdict p' ts' (named_rule round 0) ≡ given tt)

  pub record Shifted : Type 0 where
    pub memory : MemoryKept p' ts'
    -- in every row the old points stay, and each new test stands d ticks after the old one
    pub old : (row x : ℕ) → row < rows p → x < p.points → moment p' ts' row x ≡ moment p ts row x
    pub new : (row i : ℕ) → row < rows p → i < letters p → moment p' ts' row (test p' i) ≡ later (moment p ts row (test p i)) d
    pub exact : ExactlyLater
    pub verdicts : SameVerdict
    pub named : SameNamed
