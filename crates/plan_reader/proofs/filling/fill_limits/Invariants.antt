use Rattle.std.proofs.Common.{◌≡◌, ◌+◌, ◌*◌, [], ◌∷◌, map, length, take, drop}
use Rattle.std.specs.Slice.Iter.{chunks_exact_rest, chunks_exact_size}
use Rattle.fields.specs.Laid.{laid}
use Rattle.times.specs.Coding.{width_of}
use Rattle.plans.specs.Views.{limit_of}
use Rattle.plan_records.specs.Records.{limit_in}
use Rattle.plan_reader.proofs.filling.fill_limits.Given as goal

abbrev pub invariant-loop-j : goal.invariant-loop-j
invariant-loop-j g l =
    let t = g.T.Time in
    let n = l.j-iterator.count in
    let parts = l.j-iterator.iter.iter in
    (length l.limits ≡ length l.initial.limits) × (n + l.j-iterator.iter.n ≡ l.count) × (chunks_exact_size parts ≡ 4 + width_of t.kind) × (chunks_exact_rest parts ≡ drop (l.at + (4 + width_of t.kind) * n) l.file) × (map (limit_of t.moment) (take n l.limits) ≡ laid n (λ j. limit_in t.kind l.file (l.at + (4 + width_of t.kind) * j) ∷ [])) × (drop l.count l.limits ≡ drop l.count l.initial.limits)
