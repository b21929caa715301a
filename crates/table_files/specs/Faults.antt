-- The numbers and places of faults.
use Rattle.refusals.specs.Answers.{refusal_at}
use Rattle.refusals.specs.Rooms.{no_room_refusal}
use Rattle.refusals.specs.declared.Refusal.{Refusal}
use Rattle.files.specs.Headers.{header_refusal}
use Rattle.times.specs.Coding.{time_refusal}
use Rattle.plans.specs.Faults.{memory_fault}
use Rattle.table_files.specs.declared.faults.TableFault.{TableFault}
use Rattle.table_files.specs.declared.faults.TableFault.TheVariants.{InHeader, NoRoom, InTime, Trailing}
use Rattle.table_files.specs.declared.faults.WriteFault.{WriteFault}
use Rattle.table_files.specs.declared.faults.WriteFault.TheVariants as write

-- the faults of a header, of room and of a time keep their numbers and places
abbrev pub table_refusal : TableFault → Refusal
table_refusal (InHeader fault) = header_refusal fault
table_refusal (NoRoom fault) = no_room_refusal fault
table_refusal (InTime fault) = time_refusal fault
table_refusal (Trailing place) = refusal_at 10 place

-- so do those of memory and of room
abbrev pub write_fault : WriteFault → Refusal
write_fault (write.InMemory fault) = memory_fault fault
write_fault (write.NoRoom fault) = no_room_refusal fault
