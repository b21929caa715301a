-- What each call of a run answers, and the run that it leaves.
use Rattle.std.specs.Prelude.{ℕ, Bool, false, cond, not, ◌&&◌, List, Some, None, Option, ◌==◌}
use Rattle.std.specs.Option.{option_map}
use Rattle.refusals.specs.Answers.{Answer, given, refused, unless, and_then, refusal_at}
use Rattle.refusals.specs.declared.Refusal.{Refusal}
use Rattle.times.specs.Moments.{Moment}
use Rattle.rules.specs.Meanings.{Meaning}
use Rattle.refusals.specs.Searches.{or_else, when}
use Rattle.plans.specs.Plans.{Plan, letters, moment}
use Rattle.plans.specs.Memory.{memory_refusal}
use Rattle.offences.specs.Verdicts.{verdict}
use Rattle.turns.specs.Turns as turns
use Rattle.sets.specs.Sets.{has, joined}
use Rattle.runs.specs.declared.Run.{Run}
use Rattle.runs.specs.declared.Token.{Token}
use Rattle.runs.specs.declared.answers.ReleasedStep.{ReleasedStep}
use Rattle.runs.specs.declared.answers.Turn.{Turn}

-- a released step of any kind of time, by its moment
abbrev pub step_of : {X : Type 0} → (X → Moment) → ReleasedStep X → ReleasedStep Moment
step_of of s = record { point = s.point; at = of s.at; token = s.token }

-- the answer, unless a refusal stands before it
abbrev pub barred : {X : Type 0} → Option Refusal → Answer X → Answer X
barred None a = a
barred (Some q) a = refused q

-- tellings

abbrev pub token_of : Run → ℕ → Token
token_of r i = record { run = r.number; letter = i; spent = false }

-- the token is of this run, its test is released and not yet told
abbrev pub may_tell : Run → Token → Bool
may_tell r k = k.run == r.number && (has r.out k.letter && not (has r.told k.letter))

-- a letter is told, with its outcome
abbrev pub with_told : Run → ℕ → Bool → Run
with_told r i v = record {
  number = r.number;
  points = r.points;
  letters = r.letters;
  released = r.released;
  out = r.out;
  told = joined r.told i;
  outcomes = cond v (joined r.outcomes i) r.outcomes;
}

abbrev pub telling : Run → Token → Bool → Answer (Unit {0}) × Run
telling r k v = cond (may_tell r k) (given tt, with_told r k.letter v) (refused (refusal_at 17 0), r)

-- releases

-- a row has a letter as it was told, if it was
abbrev pub agrees_in : Run → ℕ → ℕ → Bool
agrees_in r row i = turns.agrees_in r.told r.outcomes row i

abbrev pub with_released : Run → ℕ → Run
with_released r x = record {
  number = r.number;
  points = r.points;
  letters = r.letters;
  released = joined r.released x;
  out = r.out;
  told = r.told;
  outcomes = r.outcomes;
}

abbrev pub out_after : ℕ → Option ℕ → ℕ
out_after out None = out
out_after out (Some i) = joined out i

module _ (p : Plan) where
  -- a run at its opening
  abbrev pub opened : ℕ → Run
  opened number = record { number = number; points = p.points; letters = letters p; released = 0; out = 0; told = 0; outcomes = 0 }

  -- 14: it was opened for another number of points or letters
  abbrev pub other_plan : Run → Option Refusal
  other_plan r = when (not (r.points == p.points && r.letters == letters p)) (refusal_at 14 0)

  -- a row agrees with all outcomes told
  abbrev pub agrees : Run → ℕ → Bool
  agrees r row = turns.agrees p r.told r.outcomes row

  abbrev pub lowest : Run → Option ℕ
  lowest r = turns.lowest p r.told r.outcomes

  -- the letter of a point that is a test
  abbrev pub letter_of : ℕ → Option ℕ
  letter_of x = turns.letter_of p x

  -- if the point is a test, its token is out
  abbrev pub with_out : Run → ℕ → Run
  with_out r x = record {
    number = r.number;
    points = r.points;
    letters = r.letters;
    released = r.released;
    out = out_after r.out (letter_of x);
    told = r.told;
    outcomes = r.outcomes;
  }

  abbrev pub stepped : Run → ℕ → Run
  stepped r x = with_out (with_released r x) x

module _ (p : Plan) (ts : List Moment) where
  -- a point is released, or not earlier than x in the row
  abbrev pub behind : Run → ℕ → ℕ → ℕ → Bool
  behind r row x y = turns.behind p ts r.released row x y

  -- x is not released, and no point that is not released is earlier
  abbrev pub leads : Run → ℕ → ℕ → Bool
  leads r row x = turns.leads p ts r.released row x

  abbrev pub earliest : Run → ℕ → Option ℕ
  earliest r row = turns.earliest p ts r.released row

  -- the lowest row that agrees, and its earliest step
  abbrev pub turn_in : Run → Option ℕ → Option Turn
  turn_in r None = None
  turn_in r (Some row) = option_map (λ x. record { row = row; point = x }) (earliest r row)

  abbrev pub next_turn : Run → Option Turn
  next_turn r = turn_in r (lowest p r)

  -- the step of a row, with its moment there, and a token if it is a test
  abbrev pub step_at : Run → Turn → ReleasedStep Moment
  step_at r t = record { point = t.point; at = moment p ts t.row t.point; token = option_map (token_of r) (letter_of p t.point) }

module _ (p : Plan) (ts : List Moment) (m : Meaning) where
  -- a letter's token is out, it is not told, and it is seen at t in the row
  abbrev pub waits_for : Run → ℕ → Moment → ℕ → Bool
  waits_for r row t i = turns.waits_for p ts m r.out r.told row t i

  -- 16, with the lowest such letter
  abbrev pub waiting : Run → Turn → Option Refusal
  waiting r t = turns.waiting p ts m r.out r.told t.row t.point

  -- 15 where no step is left, and then 16
  abbrev pub ready : Run → Option Turn → Answer Turn
  ready r None = refused (refusal_at 15 0)
  ready r (Some t) = unless (waiting r t) t

  -- memory, then 14, 15 and 16; else the step to release
  abbrev pub chosen : Run → Answer Turn
  chosen r = barred (or_else (memory_refusal p ts) (other_plan p r)) (ready r (next_turn p ts r))

  -- a refused release changes nothing
  abbrev pub released_by : Run → Answer Turn → Answer (ReleasedStep Moment) × Run
  released_by r (given t) = (given (step_at p ts r t), stepped p r t.point)
  released_by r (refused q) = (refused q, r)

  abbrev pub releasing : Run → Answer (ReleasedStep Moment) × Run
  releasing r = released_by r (chosen r)

  -- a run of an accepted pair
  abbrev pub opening : ℕ → Answer Run
  opening number = and_then (verdict p ts m) (λ _. given (opened p number))
