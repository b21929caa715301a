-- What is in a set of bits, and in one with one more.
use Rattle.std.proofs.Common.{◌≡◌, ℕ, suc, ◌+◌, ◌-◌, ◌*◌, ◌/◌, ◌%◌, ◌^◌, ◌<◌, ◌≤◌, Bool, true, false, cond, ◌||◌, eqb, ltb, ◌⊎◌, sym, refl, ap, ◌∙◌, subst, inl, inr, div-lt_iff_lt-mul, pow-suc, arith, pow_mono}
use native.Mathlib.Nat.{zero-div, add-div_right, add-mul-div_right, add-mul-mod_self_right, div-eq_of_lt}
use Rattle.std.proofs.lemmas.Nat.{pow_pos, pow-add, shr-shr, one_shl, mod-pow-add, field_of}
use Rattle.std.proofs.lemmas.Bool.{cases_order, cases_eq, cases_Bool, both_ways, eq-eqb, ne_eqb, eqb-false, or_left, or_right, cond_both, le-ltb}
use Rattle.sets.specs.Sets.{has, joined}

pub none_holds : (i : ℕ) → has 0 i ≡ false
none_holds i = rw zero-div refl

above : (n i k : ℕ) → n / 2 ^ (i + suc k) ≡ n / 2 ^ i / 2 / 2 ^ k
above n i k =
    let e : suc k ≡ 1 + k = omega arith in
    sym (shr-shr n i (suc k)) ∙ rw e (sym (shr-shr (n / 2 ^ i) 1 k))

module _ (s i : ℕ) (even : s / 2 ^ i % 2 ≡ 0) where
  raised : (s + 2 ^ i) / 2 ^ i ≡ s / 2 ^ i + 1
  raised = add-div_right s (pow_pos i)

  at_same : (s + 2 ^ i) / 2 ^ i % 2 ≡ 1
  at_same = rw raised (omega arith)

  at_higher : (k : ℕ) → (s + 2 ^ i) / 2 ^ (i + suc k) % 2 ≡ s / 2 ^ (i + suc k) % 2
  at_higher k =
      let e : (s / 2 ^ i + 1) / 2 ≡ s / 2 ^ i / 2 = omega arith in
      ap (λ x. x % 2) (above (s + 2 ^ i) i k ∙ ap (λ x. x / 2 / 2 ^ k) raised ∙ ap (λ x. x / 2 ^ k) e ∙ sym (above s i k))

  at_lower : (j k : ℕ) → i ≡ suc k + j → (s + 2 ^ i) / 2 ^ j % 2 ≡ s / 2 ^ j % 2
  at_lower j k e =
      let w : 2 ^ i ≡ 2 ^ k * 2 * 2 ^ j = ap (λ x. 2 ^ x) e ∙ pow-add 2 (suc k) j ∙ ap (λ x. x * 2 ^ j) (pow-suc 2 k) in
      ap (λ x. (s + x) / 2 ^ j % 2) w ∙ ap (λ x. x % 2) (add-mul-div_right s (2 ^ k * 2) (pow_pos j)) ∙ add-mul-mod_self_right (s / 2 ^ j) (2 ^ k) 2

  at_each : (j : ℕ) → ((i ≡ j) × ((s + 2 ^ i) / 2 ^ j % 2 ≡ 1)) ⊎ ((i ≡ j → ⊥) × ((s + 2 ^ i) / 2 ^ j % 2 ≡ s / 2 ^ j % 2))
  at_each j = elim (cases_order i j) [
    | inl e ↦ inl (e, subst (λ x. (s + 2 ^ i) / 2 ^ x % 2 ≡ 1) e at_same)
    | inr (inl h) ↦ inr ((λ e. omega arith), subst (λ x. (s + 2 ^ i) / 2 ^ x % 2 ≡ s / 2 ^ x % 2) (omega arith) (at_higher (j - suc i)))
    | inr (inr h) ↦ inr ((λ e. omega arith), at_lower j (i - suc j) (omega arith))
  ]

  below_if_even : (n : ℕ) → i < n → s < 2 ^ n → s + 2 ^ i < 2 ^ n
  below_if_even n l h =
      let k = n - suc i in
      let w : 2 ^ n ≡ 2 ^ k * 2 * 2 ^ i = ap (λ x. 2 ^ x) (omega arith) ∙ pow-add 2 (suc k) i ∙ ap (λ x. x * 2 ^ i) (pow-suc 2 k) in
      let q : s / 2 ^ i < 2 ^ k * 2 = (div-lt_iff_lt-mul (pow_pos i)).1 (rw w at h) in
      rw w ((div-lt_iff_lt-mul (pow_pos i)).0 (rw raised (omega arith)))

evenly : (s i : ℕ) → has s i ≡ false → s / 2 ^ i % 2 ≡ 0
evenly s i h = omega (arith, eqb-false (s / 2 ^ i % 2) 1 h)

pub holds_add : (s i : ℕ) → has s i ≡ false → (j : ℕ) → has (s + 2 ^ i) j ≡ (eqb i j || has s j)
holds_add s i h j = elim (at_each s i (evenly s i h) j) [ inl q ↦ rw (q.1, eq-eqb i j q.0) refl | inr q ↦ rw (q.1, ne_eqb i j q.0) refl ]

pub below_add : (s i n : ℕ) → has s i ≡ false → i < n → s < 2 ^ n → s + 2 ^ i < 2 ^ n
below_add s i n h l k = below_if_even s i (evenly s i h) n l k

pub holds_with : (s i j : ℕ) → has (joined s i) j ≡ (eqb i j || has s j)
holds_with s i j = cond_both (has s i) s (s + 2 ^ i) (λ x. has x j ≡ (eqb i j || has s j)) (λ e. elim (cases_eq i j) [ inl q ↦ rw (eq-eqb i j q) (rw q at e) | inr q ↦ rw (ne_eqb i j q) refl ]) (λ e. holds_add s i e j)

pub with_here : (s i : ℕ) → has (joined s i) i ≡ true
with_here s i = holds_with s i i ∙ or_left (eqb i i) (has s i) (eq-eqb i i refl)

pub with_kept : (s i j : ℕ) → has s j ≡ true → has (joined s i) j ≡ true
with_kept s i j e = holds_with s i j ∙ or_right (eqb i j) (has s j) e

pub with_other : (s i j : ℕ) → (i ≡ j → ⊥) → has (joined s i) j ≡ has s j
with_other s i j h = holds_with s i j ∙ ap (λ b. b || has s j) (ne_eqb i j h)

pub with_cases : (s i j : ℕ) → has (joined s i) j ≡ true → (i ≡ j) ⊎ (has s j ≡ true)
with_cases s i j e = elim (cases_eq i j) [ inl q ↦ inl q | inr q ↦ inr (sym (with_other s i j q) ∙ e) ]

pub with_below : (s i n : ℕ) → i < n → s < 2 ^ n → joined s i < 2 ^ n
with_below s i n l h = cond_both (has s i) s (s + 2 ^ i) (λ x. x < 2 ^ n) (λ _. h) (λ e. below_add s i n e l h)

pub with_not : (s i j : ℕ) → has (joined s i) j ≡ false → has s j ≡ false
with_not s i j e = elim (cases_Bool (has s j)) [ inl q ↦ absurd (both_ways _ e (with_kept s i j q)) | inr q ↦ q ]

-- a bit that is set only if v is true
pub put_here : (v : Bool) (s i : ℕ) → has s i ≡ false → has (cond v (joined s i) s) i ≡ v
put_here true s i h = with_here s i
put_here false s i h = h

pub put_other : (v : Bool) (s i j : ℕ) → (i ≡ j → ⊥) → has (cond v (joined s i) s) j ≡ has s j
put_other true s i j h = with_other s i j h
put_other false s i j h = refl

pub put_below : (v : Bool) (s i n : ℕ) → i < n → s < 2 ^ n → cond v (joined s i) s < 2 ^ n
put_below true s i n l h = with_below s i n l h
put_below false s i n l h = h

-- a set of w bits has nothing past them
pub none_past : (set i w : ℕ) → set < 2 ^ w → w ≤ i → ltb i w ≡ has set i
none_past set i w h l =
    let far = pow_mono l in
    let none : set / 2 ^ i ≡ 0 = div-eq_of_lt {n = set} {m = 2 ^ i} (omega arith) in
    le-ltb i w l ∙ sym (ap (λ n. eqb (n % 2) 1) none)

-- a set of w bits with one more, as the code adds it
module _ (set i w : ℕ) (l : i < w) (e : false ≡ has set i) where
  pub grown_below : set < 2 ^ w → set + (1 * 2 ^ i) % 2 ^ w < 2 ^ w
  grown_below h = subst (λ n. set + n < 2 ^ w) (sym (one_shl i w l)) (below_add set i w (sym e) l h)

-- the low bits of a set are its own
pub has_low : (s n i : ℕ) → i < n → has (s % 2 ^ n) i ≡ has s i
has_low s n i l =
    let d = n - suc i in
    let q : n ≡ (d + 1) + i = omega arith in
    let e = mod-pow-add (s / 2 ^ i) d 1 in
    let odd : s / 2 ^ i % 2 ^ (d + 1) % 2 ≡ s / 2 ^ i % 2 = rw e (omega arith) in
    ap (λ n. eqb n 1) (ap (λ n. s % 2 ^ n / 2 ^ i % 2) q ∙ ap (λ n. n % 2) (field_of s (d + 1) i) ∙ odd)
