use Rattle.std.proofs.Common.{◌<◌, sym, ap, ◌∙◌, subst, arith}
use Rattle.std.proofs.lemmas.Result.{err_from_is_err_and}
use Rattle.refusals.specs.Answers.{given}
use Rattle.plans.specs.Lent.{plan_in, table_in}
use Rattle.runs.specs.Runs.{released_by}
use Rattle.runs.specs.Words.{ReleaseSays}
use Rattle.runs.proofs.Turns.{release_says, turn_below}
use Rattle.runs.proofs.Run.release.Goals as goal

pub returns-in_err-turn : goal.returns-in_err-turn
returns-in_err-turn g c =
    let pair = c.args.pair.now in
    let p = plan_in g.T.Time.moment pair in
    let ts = table_in g.T.Time.moment pair in
    let m = g.R.Rule.sees c.args.rule.now in
    let run = c.args.self.now in
    let q = err_from_is_err_and c.from_residual.result c.from_residual.ensures.1 in
    let e = c.in_err-turn.ensures in
    let answer = ap (λ a. (released_by p ts m run a).0) e in
    rw (q.1, q.2) (record { answer = answer; after = ap (λ a. (released_by p ts m run a).1) e; says = subst (ReleaseSays p ts m run) (sym answer) (release_says p ts m run) })

pub take_step-requires : goal.take_step-requires
take_step-requires g c =
    let pair = c.args.pair.now in
    let p = plan_in g.T.Time.moment pair in
    let few = pair.head.now.few in
    let below : c.in_ok-turn.turn.point < p.points = turn_below p (table_in g.T.Time.moment pair) (g.R.Rule.sees c.args.rule.now) c.args.self.now c.in_ok-turn.turn c.in_ok-turn.ensures in
    omega arith

pub returns : goal.returns
returns g c =
    let pair = c.args.pair.now in
    let p = plan_in g.T.Time.moment pair in
    let ts = table_in g.T.Time.moment pair in
    let m = g.R.Rule.sees c.args.rule.now in
    let run = c.args.self.now in
    let e = c.in_ok-turn.ensures in
    let answer = ap given c.take_step.ensures.answer ∙ ap (λ a. (released_by p ts m run a).0) e in
    record { answer = answer; after = c.take_step.ensures.after ∙ ap (λ a. (released_by p ts m run a).1) e; says = subst (ReleaseSays p ts m run) (sym answer) (release_says p ts m run) }
