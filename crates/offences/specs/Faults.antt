-- The numbers and places of offences.
use Rattle.refusals.specs.declared.Refusal.{Refusal}
use Rattle.offences.specs.Verdicts.{limit_offence, early_offence}
use Rattle.offences.specs.declared.faults.Offence.{Offence}
use Rattle.offences.specs.declared.faults.Offence.TheVariants.{Limit, Early}

abbrev pub offence_refusal : Offence → Refusal
offence_refusal (Limit row limit) = limit_offence row limit
offence_refusal (Early first second point) = early_offence first second point
