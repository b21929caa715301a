use Rattle.std.proofs.Common.{◌+◌, length, sym, refl, ◌∙◌, arith}
use Rattle.std.proofs.lemmas.List.{length-map}
use Rattle.std.proofs.lemmas.Slice.{put_mid-paste}
use Rattle.plans.specs.Views.{limit_of}
use Rattle.heads.specs.Heads.{tests_of}
use Rattle.heads.proofs.Tests.{length-tests}
use Rattle.plan_contents.proofs.Putting.{put_plan}
use Rattle.plan_writer.specs.Lent.{contents_in}
use Rattle.plan_writer.proofs.sources.Source.put.Goals as goal

pub returns-clause-bytes : goal.returns-clause-bytes
returns-clause-bytes g c =
    let t = g.T.Time in
    let source = c.args.self.now in
    let head = source.head.now in
    let names = source.names.now in
    let letters = sym (length-tests head) in
    let named = put_mid-paste 17 _ _ _ names (length names) c.copy_from_slice.ensures.after (omega arith) refl in
    let tested = put_mid-paste (17 + length names) _ _ _ (tests_of head) head.letters (c.copy_from_slice-2.ensures.after ∙ c.tests.ensures) (omega (arith, c.from.ensures, c.letters.ensures)) letters in
    put_plan t.kind (contents_in t.moment source) c.args.file.now c.put_header.new.file _ _ c.put_limits.new.file _ _ _ letters (c.from.ensures ∙ c.letters.ensures ∙ letters) (sym (length-map source.limits.now (limit_of t.moment))) c.put_header.ensures named tested c.put_limits.ensures.bytes
