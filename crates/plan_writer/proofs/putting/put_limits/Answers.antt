use Rattle.std.proofs.Common.{◌≤◌, length, ◌∙◌, arith}
use Rattle.plan_contents.proofs.Putting.{limit_more, bound_more}
use Rattle.plan_writer.proofs.putting.put_limits.Goals as goal

pub loop-j-preserved : goal.loop-j-preserved
loop-j-preserved g c =
    let t = g.T.Time in
    let file = c.args.file.now in
    let room : c.args.place ≤ length file = omega arith in
    let put = rw c.kind.ensures at (rw c.limit_width.ensures at c.put_limit.ensures.bytes) in
    let more = limit_more t.moment t.kind file c.loop-j.file c.args.place c.args.limits.now c.index-limits-j.result c.loop-j.j c.loop-j-test.true c.index-limits-j.is room c.loop-j.invariant.0 in
    let coded = bound_more t.moment t.kind file c.loop-j.file c.args.place c.args.limits.now c.index-limits-j.result c.loop-j.j c.loop-j-test.true c.index-limits-j.is c.loop-j.invariant.1 c.put_limit.ensures.coded in
    (put ∙ more, coded)
