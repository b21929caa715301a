use Rattle.std.proofs.Common.{rules}
use Rattle.shifts.proofs.Counting.{counting}
use Rattle.shifts.proofs.kept.KeptPair.next_points.Goals as goal

pub returns : goal.returns
returns g c = counting _ _ (search rules) _ 6 _ (λ i y l h. search rules) c.from_fn.ensures.items
