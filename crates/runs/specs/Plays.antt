-- What stands after any list of calls, each given the run as the call before left it, and the pair and rule of its opening.
use Rattle.std.specs.Prelude.{◌≡◌, ℕ, ◌<◌, Bool, true, false, ◌⊎◌, ◌↔◌, List, [], ◌∷◌, length, Option, ◌≢◌, slice_index_or}
use Rattle.refusals.specs.Answers.{Answer, given, refused}
use Rattle.times.specs.Moments.{Moment, earlier}
use Rattle.rules.specs.Meanings.{Meaning}
use Rattle.plans.specs.Plans.{Plan, Step, letters, rows, test, holds, moment}
use Rattle.runs.specs.Runs.{releasing, telling}
use Rattle.runs.specs.declared.Run.{Run}
use Rattle.runs.specs.declared.Token.{Token}
use Rattle.runs.specs.declared.answers.ReleasedStep.{ReleasedStep}

pub data Call : Type 0 where
  release : Call
  tell : Token → Bool → Call

-- a call with its answer
pub data Entry : Type 0 where
  release : Answer (ReleasedStep Moment) → Entry
  tell : Token → Bool → Answer (Unit {0}) → Entry

abbrev pub Refuses : {X : Type 0} → Answer X → Type 0
Refuses (given x) = ⊥
Refuses (refused q) = Unit {0}

-- the entry with the number j
abbrev pub Logged : List Entry → ℕ → Entry → Type 0
Logged log j e = (j < length log) × (slice_index_or log j e ≡ e)

-- the j-th call released x at t
abbrev pub ReleasedBy : List Entry → ℕ → ℕ → Moment → Type 0
ReleasedBy log j x t = (k : Option Token) × Logged log j (Entry.release (given (record { point = x; at = t; token = k })))

-- the rest goes by the calls and their answers alone

abbrev pub Released : List Entry → ℕ → Moment → Type 0
Released log x t = (j : ℕ) × ReleasedBy log j x t

abbrev pub Unreleased : List Entry → ℕ → Type 0
Unreleased log x = (t : Moment) → Released log x t → ⊥

-- a telling with a token for letter i was taken
abbrev pub Told : List Entry → ℕ → Bool → Type 0
Told log i v = (j : ℕ) × (k : Token) × (k.letter ≡ i) × Logged log j (Entry.tell k v (given tt))

-- a row agrees with the outcomes told
abbrev pub Fits : List Entry → ℕ → Type 0
Fits log row = (i : ℕ) (v : Bool) → Told log i v → holds row i ≡ v

module _ (p : Plan) where
  -- 17 applies: the number differs, or the test is unreleased, or it is already told
  abbrev pub NotTaken : ℕ → List Entry → Token → Type 0
  NotTaken number log k =
      (k.run ≢ number) ⊎ ((k.letter < letters p → Unreleased log (test p k.letter)) ⊎ ((v : Bool) × Told log k.letter v))

  abbrev pub AllTold : List Entry → Type 0
  AllTold log = (i : ℕ) (o : Moment) → i < letters p → Released log (test p i) o → (v : Bool) × Told log i v

  -- in each row that agrees with the outcomes told, every step is released
  abbrev pub Finished : List Entry → Type 0
  Finished log = (row : ℕ) → row < rows p → Fits log row → (x : ℕ) → Step p row x → (t : Moment) × Released log x t

  -- a row agrees with the outcomes told that are seen by t
  abbrev pub FitsSeen : Meaning → List Entry → Moment → ℕ → Type 0
  FitsSeen m log t row = (i : ℕ) (v : Bool) (o : Moment) → Told log i v → Released log (test p i) o → m i o t ≡ true → holds row i ≡ v

module _ (p : Plan) (ts : List Moment) (m : Meaning) where
  abbrev pub call : Run → Call → Entry × Run
  call r release = (Entry.release (releasing p ts m r).0, (releasing p ts m r).1)
  call r (tell k v) = (Entry.tell k v (telling r k v).0, (telling r k v).1)

  -- the calls with their answers, and the run that they leave
  abbrev pub play : Run → List Call → List Entry × Run
  play r [] = ([], r)
  play r (c ∷ cs) = ((call r c).0 ∷ (play (call r c).1 cs).0, (play (call r c).1 cs).1)

  -- a run with this number, after the calls of a log
  pub record Stands (number : ℕ) (log : List Entry) (r : Run) : Type 0 where
    -- a released step has the moment answered in every row agreeing with the outcomes told that are seen by then
    pub moments : (x row : ℕ) (t : Moment) → row < rows p → Released log x t → FitsSeen p m log t row → moment p ts row x ≡ t
    -- in no row agreeing with the outcomes told is an unreleased step earlier than a released one
    pub order : (row x y : ℕ) (t : Moment) → row < rows p → Fits log row → Step p row x → Unreleased log x → Released log y t → earlier (moment p ts row x) (moment p ts row y) ≡ false
    -- no step is released twice
    pub once : (i j x : ℕ) (t u : Moment) → ReleasedBy log i x t → ReleasedBy log j x u → i ≡ j
    -- the next telling is refused exactly when 17 applies
    pub tellings : (k : Token) (v : Bool) → Refuses (telling r k v).0 ↔ NotTaken p number log k
    -- with all released tests told the next release is refused exactly when the run is finished
    pub end : AllTold p log → Refuses (releasing p ts m r).0 ↔ Finished p log
    -- some row agrees with the outcomes told
    pub agreeing : (row : ℕ) × (row < rows p) × Fits log row
    -- released steps are points of the plan
    pub inside : (x : ℕ) (t : Moment) → Released log x t → x < p.points

  -- whatever is called, with any tokens and outcomes
  abbrev pub StandsAlways : ℕ → Run → Type 0
  StandsAlways number r = (calls : List Call) → Stands number (play r calls).0 (play r calls).1
