-- The figures of a lent pair's head.
use Rattle.std.specs.Prelude.{ℕ}
use Rattle.plans.specs.declared.pairs.Pair.{Pair}

abbrev pub round_in : {X : Type 0} → Pair X → ℕ
round_in pair = pair.head.now.round

abbrev pub delay_in : {X : Type 0} → Pair X → ℕ
delay_in pair = pair.head.now.delay
