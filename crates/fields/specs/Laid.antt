-- Lists that are laid end to end, by number.
use Rattle.std.specs.Prelude.{ℕ, zero, suc, List, [], ◌++◌}
use Rattle.refusals.specs.Answers.{Answer}
use Rattle.fields.specs.Fields.{Field, checked}

-- what f gives for 0, 1, .., n - 1, end to end
abbrev pub laid : {X : Type 0} → ℕ → (ℕ → List X) → List X
laid zero f = []
laid (suc n) f = laid n f ++ f n

-- whether every field passes, or the first refusal
abbrev pub passing : List ℕ → List Field → Answer (Unit {0})
passing file fields = checked file fields tt
