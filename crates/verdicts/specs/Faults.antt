-- The numbers and places of what speaks against a pair.
use Rattle.refusals.specs.declared.Refusal.{Refusal}
use Rattle.plans.specs.Faults.{memory_fault}
use Rattle.offences.specs.Faults.{offence_refusal}
use Rattle.verdicts.specs.declared.faults.PairFault.{PairFault}
use Rattle.verdicts.specs.declared.faults.PairFault.TheVariants.{InMemory, Offends}

abbrev pub pair_refusal : PairFault → Refusal
pair_refusal (InMemory fault) = memory_fault fault
pair_refusal (Offends offence) = offence_refusal offence
