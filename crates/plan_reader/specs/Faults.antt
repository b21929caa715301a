-- The numbers and places of the faults of plan files.
use Rattle.refusals.specs.Rooms.{no_room_refusal}
use Rattle.refusals.specs.declared.Refusal.{Refusal}
use Rattle.files.specs.Headers.{header_refusal}
use Rattle.plan_records.specs.Faults.{record_refusal}
use Rattle.plan_reader.specs.declared.faults.PlanFault.{PlanFault}
use Rattle.plan_reader.specs.declared.faults.PlanFault.TheVariants.{InHeader, NoRoom, InRecord}

-- the faults of a header, of room and of a record keep their numbers and places
abbrev pub plan_refusal : PlanFault → Refusal
plan_refusal (InHeader fault) = header_refusal fault
plan_refusal (NoRoom fault) = no_room_refusal fault
plan_refusal (InRecord fault) = record_refusal fault
