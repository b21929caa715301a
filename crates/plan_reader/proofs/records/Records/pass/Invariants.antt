use Rattle.std.proofs.Common.{◌≡◌}
use Rattle.fields.specs.Laid.{laid, passing}
use Rattle.fields.proofs.Laid.{yes}
use Rattle.plan_records.specs.Records.{record_fields}
use Rattle.plan_records.specs.Readers.{stood}
use Rattle.plan_reader.proofs.records.Records.pass.Given as goal

abbrev pub invariant-loop-i : goal.invariant-loop-i
invariant-loop-i l =
    (l.reader ≡ stood l.self.reader l._i) × (yes ≡ passing l.self.reader.file.now (laid l._i (record_fields l.self.reader.header l.self.reader.file.now)))
