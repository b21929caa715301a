-- Searches by number.
use Rattle.std.specs.Prelude.{ℕ, zero, suc, Bool, true, false, cond, not, ◌&&◌, Some, None, Option}

abbrev pub or_else : {X : Type 0} → Option X → Option X → Option X
or_else None other = other
or_else (Some x) other = Some x

-- the first answer of f at 0, 1, .., n - 1
abbrev pub first : {X : Type 0} → ℕ → (ℕ → Option X) → Option X
first zero f = None
first (suc n) f = or_else (first n f) (f n)

abbrev pub when : {X : Type 0} → Bool → X → Option X
when b x = cond b (Some x) None

-- f holds at each of 0, 1, .., n - 1
abbrev pub every : ℕ → (ℕ → Bool) → Bool
every zero f = true
every (suc n) f = every n f && f n

abbrev pub same : Bool → Bool → Bool
same true b = b
same false b = not b
