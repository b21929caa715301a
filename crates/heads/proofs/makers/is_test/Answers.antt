use Rattle.std.proofs.Common.{◌≡◌, ℕ, ◌<◌, Bool, true, not, nat_lt, nat_eq, List, length, take, get_or, sym, ◌∙◌, arith}
use Rattle.std.specs.List.{list_any}
use Rattle.std.proofs.lemmas.List.{get_or_default}
use Rattle.std.proofs.lemmas.Bool.{lt-ltb, ltb-true}
use Rattle.heads.specs.Heads.{outline, is_test}
use Rattle.heads.proofs.Tests.{none_before}
use Rattle.heads.proofs.makers.is_test.Goals as goal

-- a point that stands at i, between the start and the end, and at no test before
stands : (tests : List ℕ) (points i point : ℕ) (b : Bool) → true ≡ nat_lt i (length tests) → point ≡ get_or tests i point → (0 < point) × (point < points) → b ≡ list_any (λ y. nat_eq y point) (take i tests) → not b ≡ is_test (outline points tests 0 0) i
stands tests points i point b l is h e =
    let below : i < length tests = ltb-true _ _ (sym l) in
    let here = is ∙ get_or_default tests i point 0 below in
    rw (e, none_before tests point i (omega arith), ← here, lt-ltb _ _ h.0, lt-ltb _ _ h.1)

pub returns-then-point-points : goal.returns-then-point-points
returns-then-point-points c =
    let found = c.in-Some.ensures.lookup in
    stands c.args.tests.now c.args.points c.args.i c.in-Some.field-0.now _ found.0 found.1 c.if-point-points.true c.contains.ensures.value
