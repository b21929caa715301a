-- What the verdict means, in the words of the subject.
use Rattle.std.specs.Prelude.{◌≡◌, ℕ, ◌<◌, true, false, ◌⊎◌, ◌↔◌, List, length}
use Rattle.refusals.specs.Answers.{Answer, given, refused}
use Rattle.refusals.specs.declared.Refusal.{Refusal}
use Rattle.times.specs.Moments.{Moment}
use Rattle.rules.specs.Meanings.{Meaning}
use Rattle.plans.specs.Plans.{Plan, Step, letters, rows, test, holds, moment, limit_at, applies, keeps}
use Rattle.plans.specs.Memory.{MemoryKept, MemoryRefused}
use Rattle.offences.specs.Verdicts.{limit_offence, early_offence, sees}

module _ (p : Plan) (ts : List Moment) where
  -- a limit offence: a row and a limit that applies in it and is not kept
  pub record Breaks (row j : ℕ) : Type 0 where
    pub applying : applies (limit_at p j) row ≡ true
    pub broken : keeps p ts row (limit_at p j) ≡ false

  -- every row keeps the limits that apply in it
  abbrev pub Viable : Type 0
  Viable = (row j : ℕ) → row < rows p → j < length p.limits → applies (limit_at p j) row ≡ true → keeps p ts row (limit_at p j) ≡ true

module _ (p : Plan) (ts : List Moment) (m : Meaning) where
  -- two rows see the same letters at t, with the same values
  abbrev pub SeeAlike : ℕ → ℕ → Moment → Type 0
  SeeAlike a b t =
      (i : ℕ) → i < letters p → (sees p ts m a t i ≡ sees p ts m b t i) × (sees p ts m a t i ≡ true → holds a i ≡ holds b i)

  -- an early offence: at the moment of x in row a both rows see the same, and row b has x at another moment
  pub record Early (a b x : ℕ) : Type 0 where
    pub alike : SeeAlike a b (moment p ts a x)
    pub apart : moment p ts b x ≡ moment p ts a x → ⊥

  -- row b agrees with the outcomes that row a sees at t
  abbrev pub Agrees : ℕ → ℕ → Moment → Type 0
  Agrees a b t = (i : ℕ) → i < letters p → sees p ts m a t i ≡ true → holds b i ≡ holds a i

  -- each step of a row has the same moment in every row agreeing with the outcomes its own row sees at that moment
  abbrev pub Dynamic : Type 0
  Dynamic = (a b x : ℕ) → a < rows p → b < rows p → Step p a x → Agrees a b (moment p ts a x) → moment p ts b x ≡ moment p ts a x

  -- a table that keeps the rules of memory and the limits, and whose steps react only to what is seen
  pub record Accepted : Type 0 where
    pub memory : MemoryKept p ts
    pub viable : Viable p ts
    pub dynamic : Dynamic

  -- what each refusal says: it names an offence, and nothing before that in the order is one
  pub data Refused : Refusal → Type 0 where
    in_memory : (r : Refusal) → MemoryRefused p ts r → Refused r
    first_limit : MemoryKept p ts → (row j : ℕ) → row < rows p → j < length p.limits → Breaks p ts row j → ((s i : ℕ) → i < length p.limits → (s < row) ⊎ ((s ≡ row) × (i < j)) → Breaks p ts s i → ⊥) → Refused (limit_offence row j)
    first_ahead : MemoryKept p ts → Viable p ts → (a b x : ℕ) → a < rows p → b < rows p → Step p a x → Early a b x → ((c d y : ℕ) → d < rows p → Step p c y → (c < a) ⊎ ((c ≡ a) × ((d < b) ⊎ ((d ≡ b) × (y < x)))) → Early c d y → ⊥) → Refused (early_offence a b x)

  -- what an answer says
  abbrev pub Says : Answer (Unit {0}) → Type 0
  Says (given u) = Accepted
  Says (refused r) = Refused r

  -- a pair is accepted exactly when it is sound, viable and dynamic, and a refusal names the first that breaks a rule
  pub record Judged (a : Answer (Unit {0})) : Type 0 where
    pub accepts : (a ≡ given tt) ↔ Accepted
    pub says : Says a

-- each test is a point of the plan
abbrev pub Placed : Plan → Type 0
Placed p = (i : ℕ) → i < letters p → test p i < p.points
