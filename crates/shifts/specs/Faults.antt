-- The numbers and places of what shifting refuses.
use Rattle.refusals.specs.Answers.{refusal_at}
use Rattle.refusals.specs.Rooms.{no_room_refusal}
use Rattle.refusals.specs.declared.Refusal.{Refusal}
use Rattle.plans.specs.Faults.{memory_fault}
use Rattle.shifts.specs.declared.faults.ShiftFault.{ShiftFault}
use Rattle.shifts.specs.declared.faults.ShiftFault.TheVariants.{InMemory, TooLarge, ShortLimits, ShortTimes}

abbrev pub shift_fault : ShiftFault → Refusal
shift_fault (InMemory fault) = memory_fault fault
shift_fault TooLarge = refusal_at 18 0
shift_fault (ShortLimits fault) = no_room_refusal fault
shift_fault (ShortTimes fault) = no_room_refusal fault
