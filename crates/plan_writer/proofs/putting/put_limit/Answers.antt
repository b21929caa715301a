use Rattle.std.proofs.Common.{◌≡◌, ◌+◌, ◌-◌, ◌≤◌, [], ◌∷◌, length, sym, refl, ◌∙◌, arith}
use Rattle.std.proofs.lemmas.Slice.{put_mid-paste}
use Rattle.times.specs.Coding.{time_bytes, width_of}
use Rattle.time_fields.proofs.Widths.{length-time_bytes}
use Rattle.plans.specs.Views.{limit_of}
use Rattle.plan_contents.proofs.Putting.{put_limit}
use Rattle.plan_writer.proofs.putting.put_limit.Goals as goal

pub returns-clause-bytes : goal.returns-clause-bytes
returns-clause-bytes g c =
    let t = g.T.Time in
    let l = c.args.limit in
    let at = c.args.place in
    let parts = l.from ∷ l.to ∷ l.wanted ∷ l.unwanted ∷ [] in
    let bound = time_bytes t.kind (t.moment l.bound) in
    let room : at ≤ length c.args.file.now = omega arith in
    let size : width_of t.kind ≡ at + 4 + c.width.result - (at + 4) = omega (arith, c.width.ensures) in
    let front = put_mid-paste at _ c.args.file.now _ parts 4 c.copy_from_slice.ensures.after (omega arith) refl in
    let rest = put_mid-paste (at + 4) _ _ _ bound (width_of t.kind) (c.copy_from_slice-2.ensures.after ∙ c.as_slice.ensures ∙ c.encode.ensures.coded) size (sym (length-time_bytes t.kind (t.moment l.bound))) in
    put_limit t.kind (limit_of t.moment l) at c.args.file.now _ _ room front rest
