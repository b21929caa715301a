use Rattle.std.proofs.Common.{refl}
use Rattle.rules.specs.Histories.{round_history}
use Rattle.rules.proofs.in_rounds.Rounds.every.Goals as goal

pub returns : goal.returns
returns c = record {
  value = refl;
  history = round_history c.args.ticks c.requires.some;
}
