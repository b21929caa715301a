use Rattle.std.proofs.Common.{[], ◌∷◌, sym, ap, ◌∙◌}
use Rattle.std.proofs.lemmas.Result.{err_from_is_err_and}
use Rattle.fields.specs.Laid.{passing}
use Rattle.fields.specs.Readings.{end_field}
use Rattle.fields.proofs.Chains.{onward, halted}
use Rattle.plan_records.specs.Names.{name_place, names_fields}
use Rattle.plan_records.proofs.names.check_names.Goals as goal

pub returns-in_err-end : goal.returns-in_err-end
returns-in_err-end c =
    let p = err_from_is_err_and c.from_residual.result c.from_residual.ensures.1 in
    let names = c.args.names.now in
    let n = c.args.points in
    rw (p.1, p.2) (halted names (names_fields names 0 n) (end_field names (name_place names 0 n) ∷ []) (name_place names 0 n) tt _ c.in_err-end.ensures)

pub returns : goal.returns
returns c =
    let names = c.args.names.now in
    let n = c.args.points in
    let o = onward names (names_fields names 0 n) (end_field names (name_place names 0 n) ∷ []) (name_place names 0 n) _ tt c.in_ok-end.ensures in
    c.check_end.ensures ∙ ap (λ at. passing names (end_field names at ∷ [])) o.0 ∙ sym o.1
