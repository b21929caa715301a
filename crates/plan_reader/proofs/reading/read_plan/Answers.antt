use Rattle.std.proofs.Common.{◌+◌, ◌*◌, length, refl, ap, ◌∙◌, arith}
use Rattle.std.proofs.lemmas.Result.{err_from_is_err_and}
use Rattle.refusals.specs.Answers.{given}
use Rattle.fields.proofs.Readings.{refuses_exactly}
use Rattle.time_fields.proofs.Spelled.{Bytes}
use Rattle.times.specs.Coding.{width_of}
use Rattle.files.specs.Headers.{plan_fields_of}
use Rattle.plan_contents.specs.Readings.{header, body_fields, contents_in}
use Rattle.plan_contents.proofs.Storing.{answer_says, few, small, ends, room_there, is_head, stored}
use Rattle.plan_contents.proofs.Trips.{read_exactly, writes_back}
use Rattle.plan_reader.proofs.reading.read_plan.Goals as goal

pub returns-in_err-header : goal.returns-in_err-header
returns-in_err-header g c =
    let p = err_from_is_err_and c.from_residual.result c.from_residual.ensures.1 in
    let kind = g.T.Time.kind in
    let file = c.args.file.now in
    let room = length c.args.limits.now in
    let bytes : Bytes file = λ i. (c.type_inv.file i).fits in
    let e = c.in_err-header.ensures.answer in
    rw (p.1, p.2) (record {
      answer = e;
      filled = (refl, refl);
      says = answer_says kind file room _ e;
      refuses = refuses_exactly file (plan_fields_of kind) (body_fields file) (header file).limits room (contents_in file kind);
      exact = read_exactly kind file room bytes;
      back = writes_back kind file room bytes;
    })

pub overflow_mul-first : goal.overflow_mul-first
overflow_mul-first g c =
    let known = c.in_ok-header.ensures.known in
    omega (arith, small g.T.Time.kind c.args.file.now (length c.args.limits.now) known.1 c.in_ok-header.header known.0 _ _ (c.limit_width.ensures ∙ ap (λ k. 4 + width_of k) c.kind.ensures) c.from-count.ensures)

pub overflow_sub-first : goal.overflow_sub-first
overflow_sub-first g c =
    let known = c.in_ok-header.ensures.known in
    omega (arith, ends g.T.Time.kind c.args.file.now (length c.args.limits.now) known.1 c.in_ok-header.header known.0 _ _ (c.limit_width.ensures ∙ ap (λ k. 4 + width_of k) c.kind.ensures) c.from-count.ensures)

pub overflow_sub-tests : goal.overflow_sub-tests
overflow_sub-tests g c =
    let known = c.in_ok-header.ensures.known in
    omega (arith, c.from.ensures, ends g.T.Time.kind c.args.file.now (length c.args.limits.now) known.1 c.in_ok-header.header known.0 _ _ (c.limit_width.ensures ∙ ap (λ k. 4 + width_of k) c.kind.ensures) c.from-count.ensures)

pub head_at-requires : goal.head_at-requires
head_at-requires g c =
    let kind = g.T.Time.kind in
    let file = c.args.file.now in
    let room = length c.args.limits.now in
    let bytes : Bytes file = λ i. (c.type_inv.file i).fits in
    let known = c.in_ok-header.ensures.known in
    let h = c.in_ok-header.header in
    let end = ends kind file room known.1 h known.0 _ _ (c.limit_width.ensures ∙ ap (λ k. 4 + width_of k) c.kind.ensures) c.from-count.ensures in
    (omega (arith, end, c.from.ensures), is_head kind file room known.1 h known.0 _ _ (c.limit_width.ensures ∙ ap (λ k. 4 + width_of k) c.kind.ensures) c.from-count.ensures bytes _ (omega (arith, end, c.from.ensures)))

pub fill_limits-requires : goal.fill_limits-requires
fill_limits-requires g c =
    let kind = g.T.Time.kind in
    let file = c.args.file.now in
    let room = length c.args.limits.now in
    let known = c.in_ok-header.ensures.known in
    let h = c.in_ok-header.header in
    let end = ends kind file room known.1 h known.0 _ _ (c.limit_width.ensures ∙ ap (λ k. 4 + width_of k) c.kind.ensures) c.from-count.ensures in
    let same = ap (λ w. w * c.from-count.result) (c.limit_width.ensures ∙ ap (λ k. 4 + width_of k) c.kind.ensures) in
    (omega (arith, few kind file room known.1 h known.0 _ _ (c.limit_width.ensures ∙ ap (λ k. 4 + width_of k) c.kind.ensures) c.from-count.ensures), (room_there kind file room known.1 h known.0 _ _ (c.limit_width.ensures ∙ ap (λ k. 4 + width_of k) c.kind.ensures) c.from-count.ensures, omega (arith, end, same)))

pub returns : goal.returns
returns g c =
    let kind = g.T.Time.kind in
    let file = c.args.file.now in
    let room = length c.args.limits.now in
    let bytes : Bytes file = λ i. (c.type_inv.file i).fits in
    let known = c.in_ok-header.ensures.known in
    let h = c.in_ok-header.header in
    let end = ends kind file room known.1 h known.0 _ _ (c.limit_width.ensures ∙ ap (λ k. 4 + width_of k) c.kind.ensures) c.from-count.ensures in
    let e = ap given c.from-count.ensures ∙ c.in_ok-header.ensures.answer in
    record {
      answer = e;
      filled = (stored kind file room known.1 h known.0 _ _ (c.limit_width.ensures ∙ ap (λ k. 4 + width_of k) c.kind.ensures) c.from-count.ensures _ _ (omega (arith, end, c.from.ensures)) (omega (arith, end)) _ _ c.head_at.ensures c.fill_limits.ensures.front, c.fill_limits.ensures.rest);
      says = known.1;
      refuses = refuses_exactly file (plan_fields_of kind) (body_fields file) (header file).limits room (contents_in file kind);
      exact = read_exactly kind file room bytes;
      back = writes_back kind file room bytes;
    }
