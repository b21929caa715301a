-- What a call gives: a value, or a refusal with its number and places.
use Rattle.std.specs.Prelude.{ℕ, Some, None, Ok, Err, Option, Result}
use Rattle.refusals.specs.declared.Refusal.{Refusal}

-- the refusal with a number and one place
abbrev pub refusal_at : ℕ → ℕ → Refusal
refusal_at number place = record { number = number; first = place; second = 0; third = 0 }

pub data Answer (X : Type 0) : Type 0 where
  given : X → Answer X
  refused : Refusal → Answer X

module _ {X : Type 0} where
  -- the value, unless there is a refusal
  abbrev pub unless : Option Refusal → X → Answer X
  unless None x = given x
  unless (Some r) x = refused r

module _ {X Y : Type 0} where
  -- one answer after another: the first refusal ends it
  abbrev pub and_then : Answer X → (X → Answer Y) → Answer Y
  and_then (given x) f = f x
  and_then (refused r) f = refused r

module _ {X Y E : Type 0} where
  -- a result of the code as an answer: what its value stands for, and its fault as it is numbered
  abbrev pub answer_of : (X → Y) → (E → Refusal) → Result X E → Answer Y
  answer_of value numbering (Ok x) = given (value x)
  answer_of value numbering (Err e) = refused (numbering e)
