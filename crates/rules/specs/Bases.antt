-- The rule below a delay, as one of two.
use Rattle.std.specs.Prelude.{ℕ}
use Rattle.rules.specs.Meanings.{Meaning, prompt, rounds}
use Rattle.rules.specs.declared.bases.BaseRule.{BaseRule}
use Rattle.rules.specs.declared.bases.BaseRule.TheVariants.{Prompt, Rounds}

abbrev pub base_meaning : BaseRule → Meaning
base_meaning (Prompt x) = prompt
base_meaning (Rounds x) = rounds x.ticks

-- the number that names it: the ticks of its rounds, and 0 for the prompt rule
abbrev pub base_number : BaseRule → ℕ
base_number (Prompt x) = 0
base_number (Rounds x) = x.ticks
