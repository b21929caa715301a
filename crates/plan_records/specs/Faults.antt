-- The numbers and places of the faults of records.
use Rattle.refusals.specs.Answers.{refusal_at}
use Rattle.refusals.specs.declared.Refusal.{Refusal}
use Rattle.times.specs.Coding.{time_refusal}
use Rattle.plan_records.specs.declared.faults.RecordFault.{RecordFault}
use Rattle.plan_records.specs.declared.faults.RecordFault.TheVariants.{Ended, Name, Test, Limit, InBound, Trailing}

-- the fault of a bound keeps its number and place
abbrev pub record_refusal : RecordFault → Refusal
record_refusal (Ended length) = refusal_at 1 length
record_refusal (Name place) = refusal_at 6 place
record_refusal (Test place) = refusal_at 7 place
record_refusal (Limit place) = refusal_at 8 place
record_refusal (InBound fault) = time_refusal fault
record_refusal (Trailing place) = refusal_at 10 place
