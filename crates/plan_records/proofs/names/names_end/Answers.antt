use Rattle.std.proofs.Common.{◌≡◌, refl, ap, ◌∙◌, arith}
use Rattle.std.proofs.lemmas.Result.{err_from_is_err_and}
use Rattle.refusals.specs.Answers.{given}
use Rattle.fields.proofs.Chains.{passed, stopped}
use Rattle.fields.proofs.Laid.{passes, stops, ends}
use Rattle.plan_records.specs.Names.{name_fields, name_place, names_fields}
use Rattle.plan_records.proofs.Naming.{name_passes, name_stops}
use Rattle.plan_records.proofs.names.names_end.Goals as goal

pub returns-in_err-at : goal.returns-in_err-at
returns-in_err-at c =
    let p = err_from_is_err_and c.from_residual.result c.from_residual.ensures.1 in
    let names = c.args.names.now in
    let here = name_stops names 0 c.loop-number.number c.loop-number.at c.loop-number.invariant.0 _ c.in_err-at.ensures in
    let all = stops names (λ i. name_fields names 0 i (name_place names 0 i)) c.args.points c.args.points c.loop-number.number _ refl c.loop-number-test.true c.loop-number.invariant.1 here in
    rw (p.1, p.2) (stopped names (names_fields names 0 c.args.points) tt (name_place names 0 c.args.points) _ all)

pub loop-number-preserved : goal.loop-number-preserved
loop-number-preserved c =
    let names = c.args.names.now in
    let p = name_passes names 0 c.loop-number.number c.loop-number.at c.loop-number.invariant.0 _ c.in_ok-at.ensures in
    (p.0, passes names (λ i. name_fields names 0 i (name_place names 0 i)) c.loop-number.number c.loop-number.invariant.1 p.1)

pub returns : goal.returns
returns c =
    let names = c.args.names.now in
    let n = c.args.points in
    let end : c.loop-number.number ≡ n = omega arith in
    let all = ends names (λ i. name_fields names 0 i (name_place names 0 i)) n n c.loop-number.number refl (omega arith) c.loop-number-test.false c.loop-number.invariant.1 in
    ap given (c.loop-number.invariant.0 ∙ ap (name_place names 0) end) ∙ (passed names (names_fields names 0 n) tt tt (name_place names 0 n) all).1
