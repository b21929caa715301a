-- The rules of limits and times in memory, and what a call that is lent them refuses first.
use Rattle.std.specs.Prelude.{◌≡◌, ℕ, ◌*◌, ◌<◌, ◌≤◌, Bool, true, false, not, ◌&&◌, ◌||◌, List, length, Option, ◌==◌, ◌≢◌, bit_and, nat_lt}
use Rattle.refusals.specs.Answers.{Answer, given, refused, refusal_at}
use Rattle.refusals.specs.declared.Refusal.{Refusal}
use Rattle.times.specs.Moments.{Moment, bound_rule, table_rule, is_zero}
use Rattle.refusals.specs.Searches.{or_else, first, when}
use Rattle.plans.specs.Plans.{Plan, rows, place, moment, limit_at}
use Rattle.plans.specs.declared.limits.Limit.{Limit}

-- a limit beside so many points and rows: it names points and letters that are there (a set of these is below the number of rows), and wants no letter both ways
abbrev pub fitting : {X : Type 0} → ℕ → ℕ → Limit X → Bool
fitting points rows l =
    (nat_lt l.from points && nat_lt l.to points) && ((nat_lt l.wanted rows && nat_lt l.unwanted rows) && bit_and l.wanted l.unwanted == 0)

abbrev pub fits : Plan → Limit Moment → Bool
fits p l = fitting p.points (rows p) l

-- a time of a table keeps its rule, and the start stands at zero
abbrev pub allowed : ℕ → Moment → Bool
allowed x m = table_rule m && (not (x == 0) || is_zero m)

module _ (p : Plan) where
  -- 4, place 0
  abbrev pub many_refusal : Option Refusal
  many_refusal = when (nat_lt 256 (length p.limits)) (refusal_at 4 0)

  -- 8, and then 9, with the limit's number
  abbrev pub limit_refusal : ℕ → Option Refusal
  limit_refusal j =
      or_else (when (not (fits p (limit_at p j))) (refusal_at 8 j)) (when (not (bound_rule (limit_at p j).bound)) (refusal_at 9 j))

  abbrev pub limits_refusal : Option Refusal
  limits_refusal = first (length p.limits) limit_refusal

module _ (p : Plan) (ts : List Moment) where
  -- 4, place 1
  abbrev pub count_refusal : Option Refusal
  count_refusal = when (not (length ts == rows p * p.points)) (refusal_at 4 1)

  -- 9, with the time's number
  abbrev pub time_refusal : ℕ → ℕ → Option Refusal
  time_refusal row x = when (not (allowed x (moment p ts row x))) (refusal_at 9 (place p row x))

  abbrev pub row_refusal : ℕ → Option Refusal
  row_refusal row = first p.points (time_refusal row)

  abbrev pub times_refusal : Option Refusal
  times_refusal = first (rows p) row_refusal

  -- what a call that takes a plan and a table refuses first
  abbrev pub memory_refusal : Option Refusal
  memory_refusal = or_else (many_refusal p) (or_else count_refusal (or_else (limits_refusal p) times_refusal))

-- the same in words

pub record LimitKept (p : Plan) (j : ℕ) : Type 0 where
  pub fitting : fits p (limit_at p j) ≡ true
  pub bounded : bound_rule (limit_at p j).bound ≡ true

pub record LimitsKept (p : Plan) : Type 0 where
  pub few : length p.limits ≤ 256
  pub each : (j : ℕ) → j < length p.limits → LimitKept p j

pub record TimesKept (p : Plan) (ts : List Moment) : Type 0 where
  pub full : length ts ≡ rows p * p.points
  pub each : (row x : ℕ) → row < rows p → x < p.points → allowed x (moment p ts row x) ≡ true

-- a plan and a table that keep every rule of memory
pub record MemoryKept (p : Plan) (ts : List Moment) : Type 0 where
  pub limits : LimitsKept p
  pub times : TimesKept p ts

-- what each refusal says: the item named breaks its rule, and nothing before it in the order does
pub data MemoryRefused (p : Plan) (ts : List Moment) : Refusal → Type 0 where
  too_many : 256 < length p.limits → MemoryRefused p ts (refusal_at 4 0)
  wrong_count : length p.limits ≤ 256 → (length ts ≢ rows p * p.points) → MemoryRefused p ts (refusal_at 4 1)
  bad_limit : length p.limits ≤ 256 → length ts ≡ rows p * p.points → (j : ℕ) → j < length p.limits → ((i : ℕ) → i < j → LimitKept p i) → fits p (limit_at p j) ≡ false → MemoryRefused p ts (refusal_at 8 j)
  bad_bound : length p.limits ≤ 256 → length ts ≡ rows p * p.points → (j : ℕ) → j < length p.limits → ((i : ℕ) → i < j → LimitKept p i) → fits p (limit_at p j) ≡ true → bound_rule (limit_at p j).bound ≡ false → MemoryRefused p ts (refusal_at 9 j)
  bad_time : LimitsKept p → length ts ≡ rows p * p.points → (row x : ℕ) → row < rows p → x < p.points → ((r y : ℕ) → y < p.points → place p r y < place p row x → allowed y (moment p ts r y) ≡ true) → allowed x (moment p ts row x) ≡ false → MemoryRefused p ts (refusal_at 9 (place p row x))

-- the same of a call that is lent limits alone
pub data LimitsRefused (p : Plan) : Refusal → Type 0 where
  too_many_limits : 256 < length p.limits → LimitsRefused p (refusal_at 4 0)
  unfitting : length p.limits ≤ 256 → (j : ℕ) → j < length p.limits → ((i : ℕ) → i < j → LimitKept p i) → fits p (limit_at p j) ≡ false → LimitsRefused p (refusal_at 8 j)
  unbounded : length p.limits ≤ 256 → (j : ℕ) → j < length p.limits → ((i : ℕ) → i < j → LimitKept p i) → fits p (limit_at p j) ≡ true → bound_rule (limit_at p j).bound ≡ false → LimitsRefused p (refusal_at 9 j)

abbrev pub LimitsSay : Plan → Answer (Unit {0}) → Type 0
LimitsSay p (given u) = LimitsKept p
LimitsSay p (refused r) = LimitsRefused p r

-- what an answer says
abbrev pub MemorySays : Plan → List Moment → Answer (Unit {0}) → Type 0
MemorySays p ts (given u) = MemoryKept p ts
MemorySays p ts (refused r) = MemoryRefused p ts r
