-- The order of moments, and a rule with a delay.
use Rattle.std.specs.Prelude.{◌≡◌, ℕ, Bool, true, false, cond, pos, Some, None, Option, refl}
use Rattle.std.proofs.Common.{◌∙◌, arith}
use Rattle.std.proofs.lemmas.Int.{ints}
use Rattle.std.proofs.lemmas.Bool.{false≢true}
use Rattle.times.specs.Moments.{Moment, earlier, plus, minus, whole, in_range, added}
use Rattle.rules.specs.Meanings.{Meaning, Persists, Afterwards, LateHistory, Same, prompt, delayed, via}

pub earlier_trans : (a b c : Moment) → earlier a b ≡ true → earlier b c ≡ true → earlier a c ≡ true
earlier_trans a b c h k = grind (arith, ints)

earlier_back : (o t : Moment) (d : ℕ) → earlier (plus o (whole (pos d))) t ≡ true → earlier o t ≡ true
earlier_back o t d h = grind (arith, ints)

via_keeps : (r : Option Moment) (f g : Moment → Bool) → ((k : Moment) → f k ≡ true → g k ≡ true) → via r f ≡ true → via r g ≡ true
via_keeps None f g to h = h
via_keeps (Some k) f g to h = to k h

via_cond : (b : Bool) (s : Moment) (f : Moment → Bool) → via (cond b (Some s) None) f ≡ true → f s ≡ true
via_cond true s f h = h
via_cond false s f h = absurd (false≢true h)

via_some : (b : Bool) (s : Moment) (f : Moment → Bool) → b ≡ true → via (cond b (Some s) None) f ≡ f s
via_some true s f e = refl
via_some false s f e = absurd (false≢true e)

module _ (d : ℕ) (m : Meaning) where
  pub delayed_persists : Persists m → Persists (delayed d m)
  delayed_persists p i o t u h e = via_keeps (added o d) (λ k. m i k t) (λ k. m i k u) (λ k s. p i k t u s e) h

  pub delayed_afterwards : Afterwards m → Afterwards (delayed d m)
  delayed_afterwards a i o t h =
      let s = plus o (whole (pos d)) in
      earlier_back o t d (a i s t (via_cond (in_range s) s (λ k. m i k t) h))

-- the delay added on one side is taken off on the other
across : (o t : Moment) (d : ℕ) → earlier (plus o (whole (pos d))) t ≡ earlier o (minus t (whole (pos d)))
across o t d = grind (arith, ints)

-- a delay over a rule that sees as the prompt rule does
pub late : (d : ℕ) (below : Meaning) → Same below prompt → LateHistory d (delayed d below)
late d below same i o t e =
    let s = plus o (whole (pos d)) in
    via_some (in_range s) s (λ k. below i k t) e ∙ same i s t ∙ across o t d
