-- Pairs with their verdicts. Unless said otherwise: three points, test 0 at point 1, no limits, the prompt rule.
use Rattle.std.specs.Prelude.{◌≡◌, List, [], ◌∷◌, map, ℕ, pos}
use Rattle.refusals.specs.Answers.{Answer, given, refused}
use Rattle.times.specs.Moments.{Moment, whole}
use Rattle.rules.specs.Meanings.{Meaning, named_rule}
use Rattle.plans.specs.Plans.{Plan}
use Rattle.plans.specs.declared.limits.Limit.{Limit}
use Rattle.offences.specs.Verdicts.{limit_offence, early_offence, verdict}

pub record Example : Type 0 where
  pub plan : Plan
  pub table : List Moment
  pub rule : Meaning
  pub answer : Answer (Unit {0})

abbrev pub three : List (Limit Moment) → Plan
three limits = record { points = 3; tests = 1 ∷ []; limits = limits }

abbrev pub four : Plan
four = record { points = 4; tests = 1 ∷ 2 ∷ []; limits = [] }

abbrev pub ticks : List ℕ → List Moment
ticks ns = map (λ n. whole (pos n)) ns

-- two rows of three points, under the rule of r and d
abbrev pub pair : ℕ → ℕ → List ℕ → Answer (Unit {0}) → Example
pair r d times answer = record { plan = three []; table = ticks times; rule = named_rule r d; answer = answer }

abbrev pub accepted : Answer (Unit {0})
accepted = given tt

abbrev pub early : ℕ → ℕ → ℕ → Answer (Unit {0})
early a b x = refused (early_offence a b x)

-- point 1 to point 2 at most 3 where letter 0 is true
abbrev pub close : Limit Moment
close = record { from = 1; to = 2; wanted = 1; unwanted = 0; bound = whole (pos 3) }

abbrev pub examples : List Example
examples =
    pair 0 0 (0 ∷ 2 ∷ 5 ∷ 0 ∷ 2 ∷ 7 ∷ []) accepted
    ∷ pair 0 0 (0 ∷ 2 ∷ 2 ∷ 0 ∷ 2 ∷ 3 ∷ []) (early 0 1 2)
    ∷ pair 0 3 (0 ∷ 2 ∷ 5 ∷ 0 ∷ 2 ∷ 7 ∷ []) (early 0 1 2)
    ∷ pair 0 3 (0 ∷ 2 ∷ 6 ∷ 0 ∷ 2 ∷ 7 ∷ []) accepted
    ∷ pair 5 0 (0 ∷ 5 ∷ 9 ∷ 0 ∷ 5 ∷ 10 ∷ []) (early 0 1 2)
    ∷ pair 5 0 (0 ∷ 5 ∷ 10 ∷ 0 ∷ 5 ∷ 11 ∷ []) accepted
    ∷ pair 5 3 (0 ∷ 2 ∷ 9 ∷ 0 ∷ 2 ∷ 10 ∷ []) (early 0 1 2)
    ∷ pair 5 3 (0 ∷ 2 ∷ 10 ∷ 0 ∷ 2 ∷ 11 ∷ []) accepted
    ∷ record { plan = three (close ∷ []); table = ticks (0 ∷ 2 ∷ 5 ∷ 0 ∷ 2 ∷ 7 ∷ []); rule = named_rule 0 0; answer = refused (limit_offence 1 0) }
    ∷ pair 0 0 (0 ∷ 2 ∷ 5 ∷ 0 ∷ 3 ∷ 6 ∷ []) (early 0 1 1)
    ∷ record { plan = three []; table = whole (pos 0) ∷ whole (pos 2) ∷ record { ticks = pos 2; grains = pos 1 } ∷ whole (pos 0) ∷ whole (pos 2) ∷ whole (pos 3) ∷ []; rule = named_rule 0 0; answer = accepted }
    ∷ record { plan = four; table = ticks (0 ∷ 1 ∷ 2 ∷ 5 ∷ 0 ∷ 1 ∷ 2 ∷ 2 ∷ 0 ∷ 1 ∷ 2 ∷ 5 ∷ 0 ∷ 1 ∷ 2 ∷ 3 ∷ []); rule = named_rule 0 0; answer = early 1 3 3 }
    ∷ []

abbrev pub Holds : Example → Type 0
Holds e = verdict e.plan e.table e.rule ≡ e.answer

abbrev pub AllHold : List Example → Type 0
AllHold [] = Unit {0}
AllHold (e ∷ es) = Holds e × AllHold es

-- the verdict on each example is the one that stands beside it
abbrev pub ExamplesHold : Type 0
ExamplesHold = AllHold examples
