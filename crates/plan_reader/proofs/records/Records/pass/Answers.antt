use Rattle.std.proofs.Common.{◌≡◌, refl, ap, ◌∙◌, arith}
use Rattle.std.proofs.lemmas.Result.{err_from_is_err_and}
use Rattle.refusals.specs.Answers.{given}
use Rattle.fields.specs.Laid.{laid}
use Rattle.fields.proofs.Chains.{passed, stopped}
use Rattle.fields.proofs.Laid.{passes, stops, ends}
use Rattle.plan_records.specs.Readers.{stood}
use Rattle.plan_records.specs.Records.{record_fields}
use Rattle.plan_contents.proofs.Steps.{steps, halts}
use Rattle.plan_reader.proofs.records.Records.pass.Goals as goal

pub returns-in_err-next : goal.returns-in_err-next
returns-in_err-next c =
    let p = err_from_is_err_and c.from_residual.result c.from_residual.ensures.1 in
    let r = c.args.self.now.reader in
    let file = r.file.now in
    let fields = laid c.args.count (record_fields r.header file) in
    let here = halts r c.loop-i._i _ c.loop-i.invariant.0 _ c.in_err-next.ensures.answer in
    let all = stops file (record_fields r.header file) c.args.count _ c.loop-i._i _ refl c.loop-i-test.true c.loop-i.invariant.1 here in
    rw (p.1, p.2) (stopped file fields tt (stood r c.args.count) _ all)

pub loop-i-preserved : goal.loop-i-preserved
loop-i-preserved c =
    let r = c.args.self.now.reader in
    let file = r.file.now in
    let i = c.loop-i._i in
    let e = c.in_ok-next.ensures in
    let s = steps r i _ c.loop-i.invariant.0 (omega (arith, c.requires, c.loop-i-test.true)) _ e.answer in
    (e.moved ∙ s.0, passes file (record_fields r.header file) i c.loop-i.invariant.1 s.1)

pub returns : goal.returns
returns c =
    let r = c.args.self.now.reader in
    let file = r.file.now in
    let n = c.args.count in
    let all = ends file (record_fields r.header file) n n c.loop-i._i refl c.loop-i.auto._i-end c.loop-i-test.false c.loop-i.invariant.1 in
    let i : c.loop-i._i ≡ n = omega (arith, c.loop-i.auto._i-end, c.loop-i-test.false) in
    ap given (c.loop-i.invariant.0 ∙ ap (stood r) i) ∙ (passed file (laid n (record_fields r.header file)) tt tt (stood r n) all).1
