-- The numbers and places of the faults of writing.
use Rattle.refusals.specs.Rooms.{no_room_refusal}
use Rattle.refusals.specs.declared.Refusal.{Refusal}
use Rattle.plans.specs.Faults.{memory_fault}
use Rattle.plan_records.specs.Faults.{record_refusal}
use Rattle.plan_writer.specs.declared.faults.PlanWriteFault.{PlanWriteFault}
use Rattle.plan_writer.specs.declared.faults.PlanWriteFault.TheVariants.{InMemory, InNames, NoRoom}

-- the faults of memory, of names and of room keep their numbers and places
abbrev pub write_fault : PlanWriteFault → Refusal
write_fault (InMemory fault) = memory_fault fault
write_fault (InNames fault) = record_refusal fault
write_fault (NoRoom fault) = no_room_refusal fault
