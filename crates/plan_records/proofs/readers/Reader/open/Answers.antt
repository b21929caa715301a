use Rattle.std.proofs.Common.{refl, arith}
use Rattle.plan_records.proofs.Endings.{records_are_the_file}
use Rattle.plan_records.proofs.readers.Reader.open.Goals as goal

pub returns-clause-opened : goal.returns-clause-opened
returns-clause-opened c =
    let long = c.in_ok-header.ensures.first.1.1.1.1.1.1.0.there in
    (refl, refl, refl, records_are_the_file _ refl (omega (arith, long)))
