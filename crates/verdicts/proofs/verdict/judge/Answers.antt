use Rattle.std.proofs.Common.{◌∙◌}
use Rattle.std.proofs.lemmas.Result.{err_from_is_err_and}
use Rattle.plans.specs.Lent.{plan_in, table_in}
use Rattle.plans.specs.Memory.{memory_refusal}
use Rattle.plans.proofs.Views.{placed_of}
use Rattle.offences.specs.Verdicts.{offence}
use Rattle.verdicts.proofs.Accepts.{judged}
use Rattle.verdicts.proofs.Answering.{memory_stops, memory_passes}
use Rattle.verdicts.proofs.verdict.judge.Goals as goal

pub returns-in_err-check_pair : goal.returns-in_err-check_pair
returns-in_err-check_pair g c =
    let pair = c.args.pair.now in
    let rule = c.args.rule.now in
    let p = plan_in g.T.Time.moment pair in
    let ts = table_in g.T.Time.moment pair in
    let m = g.R.Rule.sees rule in
    let q = err_from_is_err_and c.from_residual.result c.from_residual.ensures.1 in
    let e = memory_stops tt (memory_refusal p ts) (offence p ts m) _ c.in_err-check_pair.ensures.answer in
    rw (q.1, q.2) (record { answer = e; meaning = judged p ts m (placed_of g.T.Time.moment pair.head.now pair.limits.now) (g.met.R.Rule.persists rule) (g.met.R.Rule.afterwards rule) _ e })

pub returns : goal.returns
returns g c =
    let pair = c.args.pair.now in
    let rule = c.args.rule.now in
    let p = plan_in g.T.Time.moment pair in
    let ts = table_in g.T.Time.moment pair in
    let m = g.R.Rule.sees rule in
    let e = c.answer.ensures ∙ memory_passes tt (memory_refusal p ts) (offence p ts m) _ c.in_ok-check_pair.ensures.answer c.find_offence.ensures in
    record { answer = e; meaning = judged p ts m (placed_of g.T.Time.moment pair.head.now pair.limits.now) (g.met.R.Rule.persists rule) (g.met.R.Rule.afterwards rule) _ e }
