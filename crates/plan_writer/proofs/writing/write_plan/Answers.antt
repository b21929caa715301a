use Rattle.std.proofs.Common.{rules, ◌≡◌, ◌++◌, length, drop, subst}
use Rattle.std.specs.List.{AllByRecursion}
use Rattle.refusals.specs.Answers.{given}
use Rattle.time_fields.specs.Kinds.{OfKind}
use Rattle.plan_contents.specs.Contents.{plan_bytes, plan_length}
use Rattle.plan_contents.proofs.Trips.{reads_back}
use Rattle.plan_contents.proofs.Written.{is_plan, answer_says, refuses_exactly}
use Rattle.plan_writer.specs.Lent.{contents_of}
use Rattle.plan_writer.proofs.Headed.{is_head}
use Rattle.plan_writer.proofs.writing.write_plan.Goals as goal

pub returns-in_err-source-clause-says : goal.returns-in_err-source-clause-says
returns-in_err-source-clause-says g c =
    answer_says g.T.Time.kind (contents_of g.T.Time.moment c.args.head.now c.args.limits.now c.args.names.now) (length c.args.file.now) _ (search rules)

pub returns-in_err-source-clause-refuses : goal.returns-in_err-source-clause-refuses
returns-in_err-source-clause-refuses g c = refuses_exactly _ _ _

pub returns-in_err-check_room-clause-says : goal.returns-in_err-check_room-clause-says
returns-in_err-check_room-clause-says g c =
    answer_says g.T.Time.kind (contents_of g.T.Time.moment c.args.head.now c.args.limits.now c.args.names.now) (length c.args.file.now) _ (search rules)

pub returns-in_err-check_room-clause-refuses : goal.returns-in_err-check_room-clause-refuses
returns-in_err-check_room-clause-refuses g c = refuses_exactly _ _ _

pub returns-clause-says : goal.returns-clause-says
returns-clause-says g c =
    answer_says g.T.Time.kind (contents_of g.T.Time.moment c.args.head.now c.args.limits.now c.args.names.now) (length c.args.file.now) (given c.length-length.result) (search rules)

pub returns-clause-refuses : goal.returns-clause-refuses
returns-clause-refuses g c = refuses_exactly _ _ _

pub returns-clause-back : goal.returns-clause-back
returns-clause-back g c =
    let kind = g.T.Time.kind in
    let head = c.args.head.now in
    let plan = contents_of g.T.Time.moment head c.args.limits.now c.args.names.now in
    let out = c.args.file.now in
    let kept = c.in_ok-source.ensures.kept in
    let says = answer_says kind plan (length out) (given c.length-length.result) (search rules) in
    let bytes = subst (λ p. c.put.new.file ≡ plan_bytes kind p ++ drop (plan_length kind p) out) kept c.put.ensures.bytes in
    let coded = subst (λ p. AllByRecursion (λ l. OfKind kind l.bound) p.limits) kept c.put.ensures.coded in
    reads_back kind plan c.put.new.file (drop (plan_length kind plan) out) c.length-length.result (is_plan kind plan (length out) c.length-length.result (is_head head) coded says) bytes says.size
