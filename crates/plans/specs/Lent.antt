-- The plan and the table of a lent pair.
use Rattle.std.specs.Prelude.{List}
use Rattle.times.specs.Moments.{Moment}
use Rattle.plans.specs.Plans.{Plan}
use Rattle.plans.specs.Views.{plan_of, table_of}
use Rattle.plans.specs.declared.pairs.Pair.{Pair}

module _ {X : Type 0} (of : X → Moment) where
  abbrev pub plan_in : Pair X → Plan
  plan_in pair = plan_of of pair.head.now pair.limits.now

  abbrev pub table_in : Pair X → List Moment
  table_in pair = table_of of pair.times.now
