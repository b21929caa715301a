-- What a pair that is accepted gives a run.
use Rattle.std.proofs.Common.{◌≡◌, ℕ, ◌<◌, List, sym, ◌∙◌, inl, inr, arith}
use Rattle.std.proofs.lemmas.Bool.{cases_order}
use Rattle.times.specs.Moments.{Moment}
use Rattle.plans.specs.Plans.{Plan, letters, test}
use Rattle.plans.specs.Views.{plan_of}
use Rattle.heads.specs.declared.Head.{Head}
use Rattle.plans.specs.declared.limits.Limit.{Limit}
use Rattle.heads.proofs.Tests.{read_test}
use Rattle.plans.proofs.Views.{letters_of}
use Rattle.runs.specs.Runs.{opened}
use Rattle.runs.specs.declared.Run.{Run}

pub opened_is : (p : Plan) (number points count : ℕ) → points ≡ p.points → count ≡ letters p → ◌≡◌ {A = Run} (record { number = number; points = points; letters = count; released = 0; out = 0; told = 0; outcomes = 0 }) (opened p number)
opened_is p number points count e h = rw (e, h)

-- no two tests are the same point
module _ {X : Type 0} (f : X → Moment) (h : Head) (ls : List (Limit X)) where
  abbrev plan : Plan
  plan = plan_of f h ls

  ordered : (i j : ℕ) → i < j → j < letters plan → test plan i ≡ test plan j → ⊥
  ordered i j l k e =
      let same = letters_of f h ls in
      h.apart i j (l, omega arith) (read_test h i ∙ e ∙ sym (read_test h j))

  pub apart_of : (i j : ℕ) → i < letters plan → j < letters plan → test plan i ≡ test plan j → i ≡ j
  apart_of i j l k e =
      elim (cases_order i j) [
        | inl q ↦ q
        | inr (inl q) ↦ absurd (ordered i j q k e)
        | inr (inr q) ↦ absurd (ordered j i q l (sym e))
      ]
