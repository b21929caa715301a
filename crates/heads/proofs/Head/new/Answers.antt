use Rattle.std.proofs.Common.{◌≡◌, rules, sym, ap, ◌∙◌}
use Rattle.refusals.specs.Answers.{answer_of, given, unless}
use Rattle.heads.specs.Faults.{head_fault}
use Rattle.heads.specs.Heads.{IsHead, outline, outline_of, head_refusal, new_head}
use Rattle.refusals.proofs.Chained.{unless_given}
use Rattle.heads.proofs.Outlines.{is_head, head_says, padded_started, padded_placed, padded_apart, padded_blank, padded_tests}
use Rattle.heads.proofs.Head.new.Goals as goal

pub returns-in_err-check_numbers-clause-says : goal.returns-in_err-check_numbers-clause-says
returns-in_err-check_numbers-clause-says c =
    let o = outline c.args.points c.args.tests.now c.args.round c.args.delay in
    let e : answer_of outline_of head_fault c.from_residual.result ≡ new_head o = search rules in
    head_says o _ e

pub invariant_of-result : goal.invariant_of-result
invariant_of-result c =
    let o = outline c.args.points c.args.tests.now c.args.round c.args.delay in
    let h : IsHead o = is_head o (unless_given _ (c.in_ok-check_numbers.ensures)) in
    let six = c.padded.result in
    let same = c.padded.ensures.same in
    record {
      six = c.padded.ensures.six;
      some = h.counts.some;
      few = h.counts.few;
      lettered = h.counts.lettered;
      started = padded_started o six same h;
      placed = padded_placed o six same h;
      apart = padded_apart o six same h;
      blank = padded_blank o six same h;
      rounded = h.figures.rounded;
      delayed = h.figures.delayed;
    }

pub returns : goal.returns
returns c =
    let o = outline c.args.points c.args.tests.now c.args.round c.args.delay in
    let none = unless_given (head_refusal o) (c.in_ok-check_numbers.ensures) in
    let h : IsHead o = is_head o none in
    let tests = padded_tests o c.padded.result c.padded.ensures.same h c.padded.ensures.six in
    let e = ap (λ ts. given (outline c.args.points ts c.args.round c.args.delay)) tests ∙ ap (λ a. unless a o) (sym none) in
    record { answer = e; says = head_says o _ e }
