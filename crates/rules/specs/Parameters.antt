-- Which parameters a rule takes.
use Rattle.std.specs.Prelude.{ℕ, Bool, cond, ◌&&◌, nat_le}
use Rattle.refusals.specs.Answers.{Answer, given, refused, refusal_at}
use Rattle.refusals.specs.declared.Refusal.{Refusal}
use Rattle.rules.specs.declared.faults.RuleFault.{RuleFault}
use Rattle.rules.specs.declared.faults.RuleFault.TheVariants.{BadRound, BadDelay}

-- refusal 5, place 0: a parameter is out of its bounds
abbrev pub rule_refusal : RuleFault → Refusal
rule_refusal BadRound = refusal_at 5 0
rule_refusal BadDelay = refusal_at 5 0

-- the value, if it may be so
abbrev pub checked : {X : Type 0} → Bool → X → Answer X
checked ok x = cond ok (given x) (refused (refusal_at 5 0))

-- the ticks of a round are from 1 to 1,000,000
abbrev pub is_round : ℕ → Bool
is_round r = nat_le 1 r && nat_le r 1000000

-- the ticks of a delay are from 0 to 1,000,000
abbrev pub is_delay : ℕ → Bool
is_delay d = nat_le d 1000000

-- the ticks of a round may be 0 here, for the prompt rule
abbrev pub is_base : ℕ → Bool
is_base r = nat_le r 1000000
