-- What the rules of this crate see: the ghost member of the impl of each.
use Rattle.std.specs.Borrow.{RattleType}
use Rattle.rules.specs.Meanings.{Meaning}
use Rattle.rules.specs.contracts.at_once.PromptRule.TheImpl as at_once
use Rattle.rules.specs.contracts.bases.BaseRule.{the_row}
use Rattle.rules.specs.contracts.bases.BaseRuleRule.TheImpl as bases
use Rattle.rules.specs.contracts.in_rounds.RoundsRule.TheImpl as in_rounds
use Rattle.rules.specs.contracts.late.DelayRule.TheImpl as late
use Rattle.rules.specs.declared.at_once.Prompt.{Prompt}
use Rattle.rules.specs.declared.bases.BaseRule.{BaseRule}
use Rattle.rules.specs.declared.in_rounds.Rounds.{Rounds}
use Rattle.rules.specs.declared.late.Delay.{Delay}
use Rattle.rules.specs.declared.meanings.Rule.{Ghosts}

abbrev pub prompt_sees : Prompt → Meaning
prompt_sees = (at_once.ghosts).sees

abbrev pub rounds_sees : Rounds → Meaning
rounds_sees = (in_rounds.ghosts).sees

-- over a rule below, with what that one sees. The last argument of `ghosts` names the code below, and what is seen does not depend on it: any will do
abbrev pub delay_sees : (below : RattleType) → Ghosts below.Denot → Delay below.Denot → Meaning
delay_sees below rule = (late.ghosts below rule at_once.dict).sees

abbrev pub base_sees : BaseRule → Meaning
base_sees = (bases.ghosts).sees

abbrev pub named_sees : Delay BaseRule → Meaning
named_sees = (late.ghosts the_row bases.ghosts bases.dict).sees
