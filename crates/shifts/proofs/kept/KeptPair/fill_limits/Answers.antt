use Rattle.std.proofs.Common.{rules, arith}
use Rattle.plans.specs.Lent.{plan_in}
use Rattle.plans.specs.Plans.{origin}
use Rattle.plans.specs.Views.{limit_of}
use Rattle.shift_theory.specs.Lent.{delay_in}
use Rattle.shift_theory.specs.Shifts.{shifted_limits}
use Rattle.shift_theory.proofs.Lookups.{length-limits}
use Rattle.shifts.proofs.Filled.{filled}
use Rattle.shifts.proofs.kept.KeptPair.fill_limits.Goals as goal

pub returns-clause-front : goal.returns-clause-front
returns-clause-front g c =
    let of = g.T.Time.moment in
    let p = plan_in of c.args.self.now.pair in
    let d = delay_in c.args.self.now.pair in
    filled (limit_of of) (record { from = 0; to = 0; wanted = 0; unwanted = 0; bound = origin }) _ c.fill.new.items (shifted_limits p d) (length-limits p d) (search rules) (λ i e l. search (rules, c.fill.ensures.front i e (omega (arith, c.count_limits.ensures))))
