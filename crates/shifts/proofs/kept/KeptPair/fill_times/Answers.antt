use Rattle.std.proofs.Common.{rules, arith}
use Rattle.plans.specs.Lent.{plan_in, table_in}
use Rattle.plans.specs.Plans.{origin}
use Rattle.shift_theory.specs.Lent.{delay_in}
use Rattle.shift_theory.specs.Shifts.{shifted_table}
use Rattle.shift_theory.proofs.Filling.{length-table}
use Rattle.shifts.proofs.Filled.{filled}
use Rattle.shifts.proofs.kept.KeptPair.fill_times.Goals as goal

pub returns-clause-front : goal.returns-clause-front
returns-clause-front g c =
    let of = g.T.Time.moment in
    let p = plan_in of c.args.self.now.pair in
    let ts = table_in of c.args.self.now.pair in
    let d = delay_in c.args.self.now.pair in
    filled of origin _ c.fill.new.items (shifted_table p ts d) (length-table p d ts) (search rules) (λ i e l. search (rules, c.fill.ensures.front i e (omega (arith, c.count_times.ensures))))
