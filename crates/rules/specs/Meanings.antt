-- A test is taken at a moment, and has an outcome. A reaction rule says whether that outcome is seen yet at the moment of a step.
use Rattle.std.specs.Prelude.{◌≡◌, ℕ, zero, suc, ◌*◌, ◌/◌, Bool, true, false, ℤ, pos, negsuc, ◌*ℤ◌, ◌≤ℤ◌, Some, None, Option, int_lt}
use Rattle.times.specs.Moments.{Moment, earlier, plus, minus, whole, added, in_range, last_tick}

-- of the number of a test, which is that of its letter, the moment at which it is taken, and the moment of the step
abbrev pub Meaning : Type 0
Meaning = ℕ → Moment → Moment → Bool

-- what is seen at a moment is seen at every later one
abbrev pub Persists : Meaning → Type 0
Persists sees = (i : ℕ) (o t u : Moment) → sees i o t ≡ true → earlier t u ≡ true → sees i o u ≡ true

-- what is seen at a moment was taken earlier
abbrev pub Afterwards : Meaning → Type 0
Afterwards sees = (i : ℕ) (o t : Moment) → sees i o t ≡ true → earlier o t ≡ true

-- an outcome is seen at every later moment
abbrev pub prompt : Meaning
prompt i o t = earlier o t

-- with n the last whole tick of the step: what was taken before the largest multiple of r up to n. Before time zero nothing is seen
abbrev pub by_round : ℕ → Moment → ℤ → Bool
by_round r o (pos n) = earlier o (whole (pos (n / r * r)))
by_round r o (negsuc n) = false

-- the same, of the last whole tick up to the moment taken
abbrev pub by_tick : ℕ → ℤ → ℤ → Bool
by_tick r taken (pos n) = int_lt taken (pos (n / r * r))
by_tick r taken (negsuc n) = false

-- outcomes are looked at in rounds, every r ticks
abbrev pub rounds : ℕ → Meaning
rounds r i o t = by_round r o (last_tick t)

-- a question about a moment, answered no where there is none
abbrev pub via : Option Moment → (Moment → Bool) → Bool
via None f = false
via (Some m) f = f m

-- an outcome counts as taken d ticks later than it is; where that leaves the range of times it is not seen
abbrev pub delayed : ℕ → Meaning → Meaning
delayed d below i o t = via (added o d) (λ m. below i m t)

-- rounds of no ticks stand for the prompt rule
abbrev pub base_rule : ℕ → Meaning
base_rule zero = prompt
base_rule (suc r) = rounds (suc r)

-- the rule that two numbers name: the ticks of a round, and those of a delay
abbrev pub named_rule : ℕ → ℕ → Meaning
named_rule r d = delayed d (base_rule r)

-- two meanings with the same answers
abbrev pub Same : Meaning → Meaning → Type 0
Same one other = (i : ℕ) (o t : Moment) → one i o t ≡ other i o t

-- q is the largest multiple of r that is not later than t
pub record LargestMultiple (r : ℕ) (t : Moment) (q : ℤ) : Type 0 where
  pub multiple : (k : ℤ) × (q ≡ k *ℤ pos r)
  pub reached : earlier t (whole q) ≡ false
  pub largest : (k : ℤ) → earlier t (whole (k *ℤ pos r)) ≡ false → (k *ℤ pos r) ≤ℤ q

-- what a rule of rounds sees: nothing before time zero, and else what was taken before the largest multiple of r that is not later than the step; there is one
pub record RoundHistory (r : ℕ) (sees : Meaning) : Type 0 where
  pub early : (i : ℕ) (o t : Moment) → earlier t (whole (pos 0)) ≡ true → sees i o t ≡ false
  pub some : (t : Moment) → earlier t (whole (pos 0)) ≡ false → (q : ℤ) × LargestMultiple r t q
  pub seen : (i : ℕ) (o t : Moment) (q : ℤ) → earlier t (whole (pos 0)) ≡ false → LargestMultiple r t q → sees i o t ≡ earlier o (whole q)

-- the history with a lower bound d on the time of reaction: what was taken earlier than the step less d
abbrev pub LateHistory : ℕ → Meaning → Type 0
LateHistory d sees = (i : ℕ) (o t : Moment) → in_range (plus o (whole (pos d))) ≡ true → sees i o t ≡ earlier o (minus t (whole (pos d)))
