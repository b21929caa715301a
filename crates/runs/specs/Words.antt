-- What the answers of a run say, in words: what is named holds, and nothing before it in the order does.
use Rattle.std.specs.Prelude.{◌≡◌, ℕ, ◌<◌, true, false, ◌⊎◌, List, Some, None, Option, ◌≢◌}
use Rattle.refusals.specs.Answers.{Answer, given, refused, refusal_at}
use Rattle.refusals.specs.declared.Refusal.{Refusal}
use Rattle.times.specs.Moments.{Moment, earlier}
use Rattle.rules.specs.Meanings.{Meaning}
use Rattle.plans.specs.Plans.{Plan, Step, letters, rows, test, holds, moment}
use Rattle.plans.specs.Memory.{MemoryKept, MemoryRefused}
use Rattle.offences.specs.Verdicts.{sees}
use Rattle.sets.specs.Sets.{has}
use Rattle.runs.specs.declared.Run.{Run}
use Rattle.runs.specs.declared.Token.{Token}
use Rattle.runs.specs.declared.answers.ReleasedStep.{ReleasedStep}

-- the run has the number of points and of letters of the plan
pub record OfPlan (p : Plan) (r : Run) : Type 0 where
  pub points : r.points ≡ p.points
  pub letters : r.letters ≡ letters p

-- a row has each letter as it was told
abbrev pub AgreesTold : Plan → Run → ℕ → Type 0
AgreesTold p r row = (i : ℕ) → i < letters p → has r.told i ≡ true → holds row i ≡ has r.outcomes i

pub record Lowest (p : Plan) (r : Run) (row : ℕ) : Type 0 where
  pub there : row < rows p
  pub agrees : AgreesTold p r row
  pub lowest : (s : ℕ) → s < row → AgreesTold p r s → ⊥

-- of the steps of a row that are not released, x is the earliest, and the lowest of those at its moment
pub record Earliest (p : Plan) (ts : List Moment) (r : Run) (row x : ℕ) : Type 0 where
  pub step : Step p row x
  pub left : has r.released x ≡ false
  pub earliest : (y : ℕ) → Step p row y → has r.released y ≡ false → earlier (moment p ts row y) (moment p ts row x) ≡ false
  pub lowest : (y : ℕ) → y < x → has r.released y ≡ false → moment p ts row y ≢ moment p ts row x

-- a released test that is not yet told is seen at the moment of x in the row
pub record Waits (p : Plan) (ts : List Moment) (m : Meaning) (r : Run) (row x i : ℕ) : Type 0 where
  pub letter : i < letters p
  pub out : has r.out i ≡ true
  pub untold : has r.told i ≡ false
  pub seen : sees p ts m row (moment p ts row x) i ≡ true

-- a point that is a test comes with a token, of this run and for its letter, to be spent; and no other point
abbrev pub TokenSays : Plan → Run → ℕ → Option Token → Type 0
TokenSays p r x None = (i : ℕ) → i < letters p → test p i ≢ x
TokenSays p r x (Some k) = (k.run ≡ r.number) × (k.letter < letters p) × (test p k.letter ≡ x) × (k.spent ≡ false)

module _ (p : Plan) (ts : List Moment) (m : Meaning) (r : Run) where
  pub data ReleaseRefused : Refusal → Type 0 where
    in_memory : (q : Refusal) → MemoryRefused p ts q → ReleaseRefused q
    other_plan : MemoryKept p ts → (OfPlan p r → ⊥) → ReleaseRefused (refusal_at 14 0)
    none_left : MemoryKept p ts → OfPlan p r → (row : ℕ) → Lowest p r row → ((x : ℕ) → Step p row x → has r.released x ≡ true) → ReleaseRefused (refusal_at 15 0)
    waits : MemoryKept p ts → OfPlan p r → (row x i : ℕ) → Lowest p r row → Earliest p ts r row x → Waits p ts m r row x i → ((j : ℕ) → j < i → Waits p ts m r row x j → ⊥) → ReleaseRefused (refusal_at 16 i)

  pub record ReleasedNow (s : ReleasedStep Moment) : Type 0 where
    pub memory : MemoryKept p ts
    pub plan : OfPlan p r
    pub row : ℕ
    pub lowest : Lowest p r row
    pub earliest : Earliest p ts r row s.point
    pub moment_is : s.at ≡ moment p ts row s.point
    pub unwaited : (i : ℕ) → Waits p ts m r row s.point i → ⊥
    pub token : TokenSays p r s.point s.token

  abbrev pub ReleaseSays : Answer (ReleasedStep Moment) → Type 0
  ReleaseSays (given s) = ReleasedNow s
  ReleaseSays (refused q) = ReleaseRefused q

-- the number differs, or the letter's token is not out, or the letter is told
abbrev pub Untellable : Run → Token → Type 0
Untellable r k = (k.run ≢ r.number) ⊎ ((has r.out k.letter ≡ false) ⊎ (has r.told k.letter ≡ true))

abbrev pub TellSays : Run → Token → Answer (Unit {0}) → Type 0
TellSays r k (given u) = Untellable r k → ⊥
TellSays r k (refused q) = (q ≡ refusal_at 17 0) × Untellable r k
