use Rattle.std.proofs.Common.{◌≡◌}
use Rattle.fields.specs.Laid.{passing}
use Rattle.fields.proofs.Laid.{yes}
use Rattle.plan_records.specs.Names.{name_place, names_fields}
use Rattle.plan_records.proofs.names.names_end.Given as goal

abbrev pub invariant-loop-number : goal.invariant-loop-number
invariant-loop-number l = (l.at ≡ name_place l.names 0 l.number) × (yes ≡ passing l.names (names_fields l.names 0 l.number))
