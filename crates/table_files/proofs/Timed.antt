-- One time of a table file.
use Rattle.std.proofs.Common.{◌≡◌, ℕ, ◌+◌, ◌*◌, ◌<◌, ◌≤◌, Bool, true, false, cond, not, leb, List, [], ◌∷◌, length, sym, refl, ap, ◌∙◌, subst, arith}
use Rattle.refusals.specs.Answers.{Answer, given, refused, and_then, unless, refusal_at}
use Rattle.refusals.specs.declared.Refusal.{Refusal}
use Rattle.times.specs.declared.codings.Kind.{Kind}
use Rattle.times.specs.declared.codings.Kind.TheVariants.{Whole, Fine}
use Rattle.times.specs.Coding.{width_of, time_at, time_field}
use Rattle.times.specs.Moments.{Moment}
use Rattle.plans.specs.Memory.{allowed}
use Rattle.refusals.specs.Searches.{when}
use Rattle.heads.specs.declared.Head.{Head}
use Rattle.fields.specs.Laid.{passing}
use Rattle.fields.proofs.Chains.{never}
use Rattle.table_files.specs.Layouts.{time_place, table_time}

pub width_more : (kind : Kind) (i : ℕ) → width_of kind * (i + 1) ≡ width_of kind * i + width_of kind
width_more Whole i = omega arith
width_more Fine i = omega arith

-- the time with a number ends before the first one that is not there begins
pub place_in : (kind : Kind) (i n : ℕ) → i < n → time_place kind i + width_of kind ≤ time_place kind n
place_in Whole i n h = omega arith
place_in Fine i n h = omega arith

-- a rule that is asked after a time was there

abbrev ruled : Bool → Refusal → Answer (Unit {0})
ruled keeps bad = unless (when (not keeps) bad) tt

asked : (there : Bool) (keeps : Moment → Bool) (value : ℕ) (m t : Moment) (early bad : Refusal) → given m ≡ cond there (given t) (refused early) → ruled (keeps m) bad ≡ and_then {Y = Unit {0}} (cond there (cond (keeps t) (given value) (refused bad)) (refused early)) (λ _. given tt)
asked true keeps value m t early bad e =
    let same : m ≡ t = cc in
    ap (λ m. ruled (keeps m) bad) same ∙ by (keeps t)
  where
    by : (b : Bool) → ruled b bad ≡ and_then {Y = Unit {0}} (cond b (given value) (refused bad)) (λ _. given tt)
    by true = refl
    by false = refl
asked false keeps value m t early bad e = never early m (sym e)

module _ (kind : Kind) (head : Head) (file : List ℕ) (row x at : ℕ) (e : at ≡ time_place kind (row * head.points + x)) where
  -- a time that is there is asked for its rule
  pub time_asked : (m : Moment) (a : Answer (Unit {0})) → given m ≡ time_field kind file at → a ≡ unless (when (not (allowed x m)) (refusal_at 9 at)) tt → a ≡ passing file (table_time kind head file row x ∷ [])
  time_asked m a h k =
      let place = time_place kind (row * head.points + x) in
      let there = subst (λ at. given m ≡ time_field kind file at) e h in
      k ∙ ap (λ at. ruled (allowed x m) (refusal_at 9 at)) e ∙ asked (leb (place + width_of kind) (length file)) (allowed x) _ m (time_at kind file place) _ (refusal_at 9 place) there
