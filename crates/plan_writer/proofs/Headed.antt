-- Every head keeps the rules of a head.
use Rattle.std.proofs.Common.{ℕ, ◌<◌, length, sym, ◌∙◌, subst, arith}
use Rattle.heads.specs.Heads.{IsHead, IsTest, outline_of}
use Rattle.heads.specs.Heads.{tests_of}
use Rattle.heads.specs.declared.Head.{Head}
use Rattle.heads.proofs.Tests.{length-tests, read_test}

module _ (h : Head) where
  is_test : (i : ℕ) → i < length (tests_of h) → IsTest (outline_of h) i
  is_test i l =
      let below : i < h.letters = omega (arith, length-tests h) in
      record {
        started = subst (λ x. 0 < x) (read_test h i) (h.started i below);
        placed = subst (λ x. x < h.points) (read_test h i) (h.placed i below);
        new = λ j k e. h.apart j i (k, below) (read_test h j ∙ e ∙ sym (read_test h i));
      }

  pub is_head : IsHead (outline_of h)
  is_head =
      let lettered = h.lettered in
      record {
        counts = record { some = h.some; few = h.few; lettered = omega (arith, length-tests h) };
        figures = record { rounded = h.rounded; delayed = h.delayed };
        tests = is_test;
      }
