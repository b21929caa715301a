-- What a rule of rounds sees.
use Rattle.std.specs.Prelude.{◌≡◌, ℕ, ◌*◌, ◌/◌, ◌<◌, ◌≤◌, true, false, ℤ, pos, negsuc, ◌*ℤ◌, ◌≤ℤ◌, ◌<ℤ◌, int_lt, refl}
use Rattle.std.proofs.Common.{sym, ◌∙◌, ap, subst, arith}
use Rattle.std.proofs.Math.IntN.{pos-*ℤ-pos}
use Rattle.std.proofs.lemmas.Int.{ints}
use Rattle.std.proofs.lemmas.Bool.{false≢true}
use Rattle.times.specs.Moments.{Moment, earlier, whole, last_tick}
use Rattle.rules.specs.Meanings.{Persists, Afterwards, LargestMultiple, RoundHistory, by_round, by_tick, rounds}
use Rattle.rules.specs.Multiples.{below, growing, largest_multiple}

-- to be before a whole tick is to have an earlier last tick
pub by_last : (o : Moment) (q : ℤ) → earlier o (whole q) ≡ int_lt (last_tick o) q
by_last o q = grind (arith, ints)

pub by_ticks : (r : ℕ) (o : Moment) (z : ℤ) → by_tick r (last_tick o) z ≡ by_round r o z
by_ticks r o (pos n) = sym (by_last o (pos (n / r * r)))
by_ticks r o (negsuc n) = refl

last_grows : (t u : Moment) → earlier t u ≡ true → last_tick t ≤ℤ last_tick u
last_grows t u h = grind (arith, ints)

last_reached : (o t : Moment) → earlier o (whole (last_tick t)) ≡ true → earlier o t ≡ true
last_reached o t h = grind (arith, ints)

up_to : (o : Moment) (y z : ℤ) → earlier o (whole y) ≡ true → y ≤ℤ z → earlier o (whole z) ≡ true
up_to o y z h k = grind (arith, ints)

module _ (r : ℕ) (one : 1 ≤ r) where
  grown : (o : Moment) (y z : ℤ) → by_round r o y ≡ true → y ≤ℤ z → by_round r o z ≡ true
  grown o (pos m) (pos n) h k =
      let le : m ≤ n = omega (arith, ints) in
      let more = growing m n r one le in
      up_to o (pos (m / r * r)) (pos (n / r * r)) h (omega (arith, ints))
  grown o (pos m) (negsuc n) h k = absurd k.le
  grown o (negsuc m) z h k = absurd (false≢true h)

  pub rounds_persist : Persists (rounds r)
  rounds_persist i o t u h e = grown o (last_tick t) (last_tick u) h (last_grows t u e)

before_last : (r : ℕ) (o : Moment) (z : ℤ) → by_round r o z ≡ true → earlier o (whole z) ≡ true
before_last r o (pos n) h =
    let b = below n r in up_to o (pos (n / r * r)) (pos n) h (omega (arith, ints))
before_last r o (negsuc n) h = absurd (false≢true h)

pub rounds_afterwards : (r : ℕ) → Afterwards (rounds r)
rounds_afterwards r i o t h = last_reached o t (before_last r o (last_tick t) h)

before_zero : (r : ℕ) (o : Moment) (z : ℤ) → z <ℤ pos 0 → by_round r o z ≡ false
before_zero r o (pos n) h = absurd (let z : n < 0 = omega (arith, ints) in omega arith)
before_zero r o (negsuc n) h = refl

last_early : (t : Moment) → earlier t (whole (pos 0)) ≡ true → last_tick t <ℤ pos 0
last_early t h = grind (arith, ints)

last_most : (t : Moment) (y : ℤ) → earlier t (whole y) ≡ false → y ≤ℤ last_tick t
last_most t y h = grind (arith, ints)

last_not_later : (t : Moment) (y : ℤ) → y ≤ℤ last_tick t → earlier t (whole y) ≡ false
last_not_later t y h = grind (arith, ints)

natural : (z : ℤ) → pos 0 ≤ℤ z → (n : ℕ) × (z ≡ pos n)
natural (pos n) h = (n, refl)
natural (negsuc n) h = absurd h.le

module _ (r : ℕ) (one : 1 ≤ r) (t : Moment) where
  largest_is : (n : ℕ) → last_tick t ≡ pos n → LargestMultiple r t (pos (n / r * r))
  largest_is n e =
      let low = below n r in
      record {
        multiple = (pos (n / r), sym (pos-*ℤ-pos (n / r) r));
        reached = last_not_later t (pos (n / r * r)) (omega (arith, ints));
        largest = λ k h. largest_multiple n r k one (subst (λ z. (k *ℤ pos r) ≤ℤ z) e (last_most t (k *ℤ pos r) h));
      }

  largest_under : (p q : ℤ) → LargestMultiple r t p → LargestMultiple r t q → q ≤ℤ p
  largest_under p q a b =
      let is = b.multiple.1 in
      let fits = a.largest b.multiple.0 (subst (λ z. earlier t (whole z) ≡ false) is b.reached) in
      subst (λ z. z ≤ℤ p) (sym is) fits

  one_largest : (p q : ℤ) → LargestMultiple r t p → LargestMultiple r t q → p ≡ q
  one_largest p q a b =
      let low = largest_under p q a b in
      let high = largest_under q p b a in
      omega (arith, ints)

  since_zero : earlier t (whole (pos 0)) ≡ false → (n : ℕ) × (last_tick t ≡ pos n)
  since_zero h = natural (last_tick t) (last_most t (pos 0) h)

pub round_history : (r : ℕ) → 1 ≤ r → RoundHistory r (rounds r)
round_history r one = record {
  early = λ i o t h. before_zero r o (last_tick t) (last_early t h);
  some = λ t h. let s = since_zero r one t h in (pos (s.0 / r * r), largest_is r one t s.0 s.1);
  seen =
      λ i o t q h big. let s = since_zero r one t h in let same = one_largest r one t (pos (s.0 / r * r)) q (largest_is r one t s.0 s.1) big in ap (by_round r o) s.1 ∙ ap (λ z. earlier o (whole z)) same;
}
