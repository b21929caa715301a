use Rattle.std.proofs.Common.{sym, ◌∙◌, ap}
use Rattle.sets.specs.Sets.{has}
use Rattle.sets.proofs.Bits.{grown_below}
use Rattle.sets.proofs.Set.grown.Goals as goal

pub invariant_of-result : goal.invariant_of-result
invariant_of-result c = grown_below c.self.inside.bits c.args.member 64 c.requires.0 (sym (ap (λ s. has s c.args.member) c.self.view_is ∙ c.requires.1)) c.self.invariant

pub overflow_add-result : goal.overflow_add-result
overflow_add-result c = record { fits = invariant_of-result c }
