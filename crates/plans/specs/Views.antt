-- What heads, limits and times of any kind stand for.
use Rattle.std.specs.Prelude.{List, map}
use Rattle.times.specs.Moments.{Moment}
use Rattle.heads.specs.Heads.{tests_of}
use Rattle.heads.specs.declared.Head.{Head}
use Rattle.plans.specs.Plans.{Plan}
use Rattle.plans.specs.declared.limits.Limit.{Limit}

module _ {X : Type 0} (of : X → Moment) where
  abbrev pub limit_of : Limit X → Limit Moment
  limit_of l = record { from = l.from; to = l.to; wanted = l.wanted; unwanted = l.unwanted; bound = of l.bound }

  abbrev pub plan_of : Head → List (Limit X) → Plan
  plan_of h ls = record { points = h.points; tests = tests_of h; limits = map limit_of ls }

  abbrev pub table_of : List X → List Moment
  table_of ts = map of ts
