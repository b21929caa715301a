use Rattle.std.proofs.Common.{◌≡◌, ◌+◌, ◌-◌, ◌≤◌, length, sym, ap, ◌∙◌, subst, arith}
use lib.Seq.{paste}
use Rattle.std.proofs.lemmas.Slice.{put_mid-paste}
use Rattle.times.specs.Coding.{time_at, time_bytes, width_of}
use Rattle.time_fields.proofs.Widths.{length-time_bytes}
use Rattle.table_files.proofs.Putting.{put_more, coded_more}
use Rattle.table_files.proofs.writing.put_times.Goals as goal

pub loop-i-preserved : goal.loop-i-preserved
loop-i-preserved g c =
    let t = g.T.Time in
    let times = c.args.times.now in
    let file = c.args.file.now in
    let time = c.index-times-i.result in
    let bytes = time_bytes t.kind (t.moment time) in
    let room : 7 ≤ length file = omega arith in
    let size : width_of t.kind ≡ c.time_place-place.result + c.width.result - c.time_place-place.result = omega (arith, c.width.ensures) in
    let put = put_mid-paste c.time_place-place.result _ c.loop-i.file _ bytes (width_of t.kind) (c.copy_from_slice.ensures.after ∙ c.as_slice.ensures ∙ c.encode.ensures.coded) size (sym (length-time_bytes t.kind (t.moment time))) in
    let here = ap (λ at. paste c.loop-i.file at bytes (width_of t.kind)) c.time_place-place.ensures in
    let more = put_more t.moment t.kind file c.loop-i.file times time c.loop-i.i c.loop-i-test.true c.index-times-i.is room c.loop-i.invariant.0 in
    let coded = subst (λ b. time_at t.kind b 0 ≡ t.moment time) c.encode.ensures.coded c.encode.ensures.back in
    (put ∙ here ∙ more, coded_more t.moment t.kind file c.loop-i.file times time c.loop-i.i c.loop-i-test.true c.index-times-i.is c.loop-i.invariant.1 coded)
