use Rattle.std.proofs.Common.{refl}
use Rattle.rules.specs.Delays.{late as late_history}
use Rattle.rules.proofs.late.Delay.over.Goals as goal

pub returns : goal.returns
returns g c = record {
  value = refl;
  kept = refl;
  late = late_history c.args.ticks (g.R.Rule.sees c.args.below);
}
