use Rattle.std.proofs.Common.{sym, refl, ◌∙◌, subst}
use Rattle.refusals.specs.Answers.{given}
use Rattle.plans.specs.Lent.{plan_in, table_in}
use Rattle.plans.proofs.Views.{letters_of, placed_of}
use Rattle.verdicts.specs.Meanings.{Accepted}
use Rattle.verdicts.proofs.Accepts.{judged}
use Rattle.runs.specs.Plays.{StandsAlways}
use Rattle.runs.proofs.Openings.{opened_is, apart_of}
use Rattle.runs.proofs.Standing.{always}
use Rattle.runs.proofs.Steps.{Sound}
use Rattle.runs.proofs.opening.start.Goals as goal

pub returns : goal.returns
returns g c =
    let pair = c.args.pair.now in
    let rule = c.args._rule.now in
    let head = pair.head.now in
    let of = g.T.Time.moment in
    let p = plan_in of pair in
    let ts = table_in of pair in
    let m = g.R.Rule.sees rule in
    let placed = placed_of of head pair.limits.now in
    let persists = g.met.R.Rule.persists rule in
    let afterwards = g.met.R.Rule.afterwards rule in
    let accepted : Accepted p ts m = (judged p ts m placed persists afterwards (given tt) c.requires).accepts.0 refl in
    let sound : Sound p ts m = record {
      placed = placed;
      apart = apart_of of head pair.limits.now;
      persists = persists;
      afterwards = afterwards;
      memory = accepted.memory;
      dynamic = accepted.dynamic;
    } in
    let same = opened_is p c.args.number _ _ c.points.ensures (c.letters.ensures ∙ letters_of of head pair.limits.now) in
    rw c.empty-none.ensures (record {
      value = same;
      stands = subst (StandsAlways p ts m c.args.number) (sym same) (always sound c.args.number);
    })
