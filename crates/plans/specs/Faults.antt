-- The numbers and places of what memory breaks.
use Rattle.refusals.specs.Answers.{refusal_at}
use Rattle.refusals.specs.declared.Refusal.{Refusal}
use Rattle.plans.specs.declared.faults.MemoryFault.{MemoryFault}
use Rattle.plans.specs.declared.faults.MemoryFault.TheVariants.{ManyLimits, CountOfTimes, Limit, Bound, Time}

abbrev pub memory_fault : MemoryFault → Refusal
memory_fault ManyLimits = refusal_at 4 0
memory_fault CountOfTimes = refusal_at 4 1
memory_fault (Limit j) = refusal_at 8 j
memory_fault (Bound j) = refusal_at 9 j
memory_fault (Time i) = refusal_at 9 i
