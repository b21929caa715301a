use Rattle.std.proofs.Common.{◌≡◌, ◌+◌, ◌*◌, ◌≤◌, true, not}
use Rattle.refusals.specs.Searches.{every}
use Rattle.plan_records.specs.Names.{name_place, same_name}
use Rattle.plan_records.proofs.names.NameAt.is_new.Given as goal

abbrev pub invariant-loop-i : goal.invariant-loop-i
invariant-loop-i l =
    let bytes = l.self.bytes.now in
    (every l._i (λ j. not (same_name bytes (name_place bytes l.self.start j) l.self.at)) ≡ true) × (l._i ≤ l.self.number) × (l.earlier ≡ name_place bytes l.self.start l._i) × (l.earlier ≤ l.self.start + 256 * l._i)
