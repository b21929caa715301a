-- What is so of a pair that keeps the rules of memory.
use Rattle.std.proofs.Common.{◌≡◌, ℕ, ◌*◌, ◌/◌, ◌%◌, ◌<◌, true, List, length, get_or, refl, subst, ⊎_elim, arith}
use Rattle.std.proofs.lemmas.Bool.{cases_lt}
use Rattle.std.proofs.lemmas.List.{get_or_past}
use Rattle.std.proofs.lemmas.Nat.{div-add-mod', div_below, mod_below}
use Rattle.times.specs.Moments.{Moment, table_rule}
use Rattle.plans.specs.Memory.{TimesKept}
use Rattle.plans.specs.Plans.{Plan, rows, moment, origin}
use Rattle.shift_theory.proofs.Keeping.{in_table}

module _ (p : Plan) (ts : List Moment) (kept : TimesKept p ts) (at : ℕ) where
  inside : at < length ts → table_rule (get_or ts at origin) ≡ true
  inside h =
      let l : at < rows p * p.points = omega (arith, kept.full) in
      let some : 0 < p.points = grind arith in
      let at_point = mod_below at p.points some in
      let in_row = div_below at p.points (rows p) some l in
      subst (λ at. table_rule (get_or ts at origin) ≡ true) (div-add-mod' at p.points) (in_table (at % p.points) (moment p ts (at / p.points) (at % p.points)) (kept.each (at / p.points) (at % p.points) in_row at_point))

  -- each time keeps the rule of a table, and so does what a place outside counts as
  pub timed : table_rule (get_or ts at origin) ≡ true
  timed = ⊎_elim inside (λ h. rw (get_or_past ts at origin h) refl) (cases_lt at (length ts))
