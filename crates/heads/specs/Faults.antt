-- The numbers and places of what speaks against a head.
use Rattle.refusals.specs.Answers.{refusal_at}
use Rattle.refusals.specs.declared.Refusal.{Refusal}
use Rattle.heads.specs.declared.faults.HeadFault.{HeadFault}
use Rattle.heads.specs.declared.faults.HeadFault.TheVariants.{Counts, Figures, Test}

abbrev pub head_fault : HeadFault → Refusal
head_fault Counts = refusal_at 4 0
head_fault Figures = refusal_at 5 0
head_fault (Test i) = refusal_at 7 i
