use Rattle.std.proofs.Common.{◌≡◌, ◌+◌, ◌*◌, map, take}
use lib.Seq.{paste}
use Rattle.std.specs.List.{flat_map, AllByRecursion}
use Rattle.times.specs.Coding.{width_of}
use Rattle.time_fields.specs.Kinds.{OfKind}
use Rattle.plans.specs.Views.{limit_of}
use Rattle.plan_contents.specs.Contents.{limit_bytes}
use Rattle.plan_writer.proofs.putting.put_limits.Given as goal

abbrev pub invariant-loop-j : goal.invariant-loop-j
invariant-loop-j g l =
    let kind = g.T.Time.kind in
    let done = map (limit_of g.T.Time.moment) (take l.j l.limits) in
    (l.file ≡ paste l.initial.file l.place (flat_map (limit_bytes kind) done) ((4 + width_of kind) * l.j)) × AllByRecursion (λ l. OfKind kind l.bound) done
