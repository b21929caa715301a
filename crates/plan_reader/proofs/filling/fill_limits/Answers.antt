use Rattle.std.proofs.Common.{◌≡◌, ℕ, zero, suc, ◌+◌, ◌*◌, ◌<◌, length, length-set, sym, ap, ◌∙◌, arith, rules, refl, map, take, drop, slice_set}
use Rattle.std.proofs.lemmas.List.{drop-set-lt, length-drop, take_all}
use Rattle.std.specs.Slice.Iter.{chunks_exact_rest}
use Rattle.times.specs.Coding.{width_of}
use Rattle.times.specs.Moments.{Moment}
use Rattle.plans.specs.Views.{limit_of}
use Rattle.plans.specs.declared.limits.Limit.{Limit}
use Rattle.plan_records.specs.Records.{limit_in}
use Rattle.plan_reader.proofs.Limits.{store_more, next_place, place_inside, limit_here, rest_here}
use Rattle.plan_reader.proofs.filling.fill_limits.Goals as goal

pub loop-j-init : goal.loop-j-init
loop-j-init g c =
    let it = c.into_iter-j-iterator.ensures.into_iter_gives in
    let first = ap (λ x. x.count) it ∙ c.enumerate-j-items.ensures.count in
    let source = ap (λ x. x.iter.iter) it ∙ ap (λ x. x.iter) c.enumerate-j-items.ensures.source ∙ c.take.ensures.source in
    let rest = ap chunks_exact_rest source ∙ c.chunks_exact-parts.ensures.rest in
    let start : c.args.at ≡ c.args.at + (4 + width_of g.T.Time.kind) * 0 = omega arith in
    (refl, search rules, search rules, rw first (rest ∙ take_all _ (drop c.args.at c.args.file.now) (omega (arith, length-drop c.args.at c.args.file.now)) ∙ ap (λ p. drop p c.args.file.now) start), rw first refl, refl)

pub bounds-limits-j : goal.bounds-limits-j
bounds-limits-j g c =
    let s = c.in-Some.ensures.steps in
    let i = c.loop-j.invariant in
    omega (arith, s.1, s.0.1, i.0, i.1, c.requires.1)

pub offset_bounds-limits-j : goal.offset_bounds-limits-j
offset_bounds-limits-j g c =
    let within : c.in-Some.j < length c.args.limits.now = omega (arith, bounds-limits-j g c, c.loop-j.invariant.0) in
    search (rules, within)

pub loop-j-preserved : goal.loop-j-preserved
loop-j-preserved g c =
    let t = g.T.Time in
    let file = c.args.file.now in
    let s = c.in-Some.ensures.steps in
    let i = c.loop-j.invariant in
    let k = c.loop-j.j-iterator.count in
    let place = c.args.at + (4 + width_of t.kind) * k in
    let f : ℕ → Limit Moment = λ j. limit_in t.kind file (c.args.at + (4 + width_of t.kind) * j) in
    let cut = sym i.3 ∙ s.0.0.1.0 in
    let long = s.0.0.1.1 ∙ i.2 in
    let here = c.read_limit.ensures ∙ limit_here t.kind file place c.in-Some.part.now _ cut long (λ i. (c.type_inv.file i).fits) in
    let inside : k < length c.loop-j.limits = omega (arith, s.0.1, i.0, i.1, c.requires.1) in
    let n = c.in-Some.j in
    let x = c.read_limit.result in
    let stored = ap (λ j. map (limit_of t.moment) (take (k + 1) (slice_set c.loop-j.limits j x))) s.1 ∙ store_more (limit_of t.moment) f k c.loop-j.limits x inside here i.4 in
    let kept = ap (λ j. drop c.args.count (slice_set c.loop-j.limits j x)) s.1 ∙ drop-set-lt c.args.count c.loop-j.limits k x (omega (arith, s.0.1, i.1)) ∙ i.5 in
    rw s.2 (length-set c.loop-j.limits n x ∙ i.0, omega (arith, s.0.1, i.1), s.0.0.0 ∙ i.2, rest_here t.kind file place _ _ cut long ∙ ap (λ p. drop p file) (next_place t.kind c.args.at k), stored, kept)

all_read : (n : ℕ) → (0 < n → ⊥) → n ≡ 0
all_read zero h = refl
all_read (suc n) h = absurd (h (omega arith))

pub returns-clause-front : goal.returns-clause-front
returns-clause-front g c =
    let t = g.T.Time in
    let s = c.in-None.ensures.steps in
    let i = c.loop-j.invariant in
    let k = c.loop-j.j-iterator.count in
    let none = all_read c.loop-j.j-iterator.iter.n (λ l.
    let inside = place_inside t.kind c.args.at k c.args.count (length c.args.file.now) (omega (arith, i.1)) c.requires.1.1 in
    let left = ap (λ xs. length xs) i.3 ∙ length-drop _ c.args.file.now in
    omega (arith, (s.0 l).1.0, left, inside, i.2)) in
    let all : k ≡ c.args.count = omega (arith, none, i.1) in
    rw (sym all) i.4

pub returns-clause-rest : goal.returns-clause-rest
returns-clause-rest g c = c.loop-j.invariant.5
