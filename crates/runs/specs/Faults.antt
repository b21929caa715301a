-- The numbers and places of what a run refuses.
use Rattle.refusals.specs.Answers.{refusal_at}
use Rattle.refusals.specs.declared.Refusal.{Refusal}
use Rattle.plans.specs.Faults.{memory_fault}
use Rattle.runs.specs.declared.faults.HandedBack.{HandedBack}
use Rattle.runs.specs.declared.faults.ReleaseFault.{ReleaseFault}
use Rattle.runs.specs.declared.faults.ReleaseFault.TheVariants.{InMemory, OtherPlan, NoneLeft, Waits}

abbrev pub release_refusal : ReleaseFault → Refusal
release_refusal (InMemory fault) = memory_fault fault
release_refusal OtherPlan = refusal_at 14 0
release_refusal NoneLeft = refusal_at 15 0
release_refusal (Waits letter) = refusal_at 16 letter

abbrev pub tell_refusal : HandedBack → Refusal
tell_refusal fault = refusal_at 17 0
