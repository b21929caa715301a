use Rattle.std.proofs.Common.{◌≡◌, ◌+◌, ◌≤◌, true, eqb, get_or}
use Rattle.refusals.specs.Searches.{every}
use Rattle.plan_records.proofs.names.NameAt.is_also_at.Given as goal

abbrev pub invariant-loop-j : goal.invariant-loop-j
invariant-loop-j l =
    let bytes = l.self.bytes.now in
    (every l.j (λ j. eqb (get_or bytes (l.earlier + j) 0) (get_or bytes (l.self.at + j) 0)) ≡ true) × (l.j ≤ l.last + 1)
