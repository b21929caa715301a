-- What a log holds after one more entry.
use Rattle.std.proofs.Common.{◌≡◌, ℕ, Bool, ◌⊎◌, List, [], ◌∷◌, ◌++◌, length, Option, sym, refl, ap, ◌∙◌, inl, inr, arith}
use Rattle.std.proofs.lemmas.List.{length_push, get_or_push, get_or_append_left}
use Rattle.std.proofs.lemmas.Bool.{cases_lt}
use Rattle.refusals.specs.Answers.{Answer, given, refused}
use Rattle.refusals.specs.declared.Refusal.{Refusal}
use Rattle.times.specs.Moments.{Moment}
use Rattle.runs.specs.Plays.{Entry, Logged, ReleasedBy, Released, Told}
use Rattle.runs.specs.declared.Token.{Token}
use Rattle.runs.specs.declared.answers.ReleasedStep.{ReleasedStep}

-- no entry is another

abbrev pub Steps : Entry → ℕ → Moment → Type 0
Steps e x t = (k : Option Token) × (e ≡ Entry.release (given (record { point = x; at = t; token = k })))

abbrev pub Tells : Entry → ℕ → Bool → Type 0
Tells e i v = (k : Token) × (k.letter ≡ i) × (e ≡ Entry.tell k v (given tt))

pub tell_no_step : (k : Token) (v : Bool) (a : Answer (Unit {0})) (x : ℕ) (t : Moment) → Steps (Entry.tell k v a) x t → ⊥
tell_no_step k v a x t h = let q = h.1 in let z : ◌≡◌ {A = ℕ} 0 1 = cc in omega arith

pub refused_no_step : (q : Refusal) (x : ℕ) (t : Moment) → Steps (Entry.release (refused q)) x t → ⊥
refused_no_step q x t h = let e = h.1 in let z : ◌≡◌ {A = ℕ} 0 1 = cc in omega arith

pub release_no_tell : (a : Answer (ReleasedStep Moment)) (i : ℕ) (v : Bool) → Tells (Entry.release a) i v → ⊥
release_no_tell a i v h = let e = h.2 in let z : ◌≡◌ {A = ℕ} 0 1 = cc in omega arith

pub refused_no_tell : (k : Token) (w : Bool) (q : Refusal) (i : ℕ) (v : Bool) → Tells (Entry.tell k w (refused q)) i v → ⊥
refused_no_tell k w q i v h = let e = h.2 in let z : ◌≡◌ {A = ℕ} 0 1 = cc in omega arith

pub step_same : (s : ReleasedStep Moment) (x : ℕ) (t : Moment) → Steps (Entry.release (given s)) x t → (s.point ≡ x) × (s.at ≡ t)
step_same s x t h =
    let e = h.1 in
    let q : s ≡ record { point = x; at = t; token = h.0 } = cc in
    (ap (λ (z : ReleasedStep Moment). z.point) q, ap (λ (z : ReleasedStep Moment). z.at) q)

pub tell_same : (k : Token) (v : Bool) (a : Answer (Unit {0})) (i : ℕ) (w : Bool) → Tells (Entry.tell k v a) i w → (k.letter ≡ i) × (v ≡ w)
tell_same k v a i w h =
    let e = h.2 in
    let q : k ≡ h.0 = cc in
    (ap (λ (z : Token). z.letter) q ∙ h.1, cc)

module _ (log : List Entry) (e : Entry) where
  pub push_kept : (j : ℕ) (d : Entry) → Logged log j d → Logged (log ++ (e ∷ [])) j d
  push_kept j d h = (omega (arith, length_push log e), get_or_append_left log (e ∷ []) d j h.0 ∙ h.1)

  pub push_last : (d : Entry) → e ≡ d → Logged (log ++ (e ∷ [])) (length log) d
  push_last d q = (omega (arith, length_push log e), get_or_push log e d (length log) refl ∙ q)

  push_cases : (j : ℕ) (d : Entry) → Logged (log ++ (e ∷ [])) j d → Logged log j d ⊎ ((j ≡ length log) × (e ≡ d))
  push_cases j d h =
      elim (cases_lt j (length log)) [
        | inl l ↦ inl (l, sym (get_or_append_left log (e ∷ []) d j l) ∙ h.1)
        | inr l ↦ (let k : j ≡ length log = omega (arith, length_push log e) in inr (k, sym (get_or_push log e d j (sym k)) ∙ h.1))
      ]

  pub released_kept : (x : ℕ) (t : Moment) → Released log x t → Released (log ++ (e ∷ [])) x t
  released_kept x t h = (h.0, (h.1.0, push_kept h.0 _ h.1.1))

  pub told_kept : (i : ℕ) (v : Bool) → Told log i v → Told (log ++ (e ∷ [])) i v
  told_kept i v h = (h.0, h.1, h.2, push_kept h.0 _ h.3)

  pub step_cases : (j x : ℕ) (t : Moment) → ReleasedBy (log ++ (e ∷ [])) j x t → ReleasedBy log j x t ⊎ ((j ≡ length log) × Steps e x t)
  step_cases j x t h = elim (push_cases j _ h.1) [ inl k ↦ inl (h.0, k) | inr k ↦ inr (k.0, (h.0, k.1)) ]

  pub released_cases : (x : ℕ) (t : Moment) → Released (log ++ (e ∷ [])) x t → Released log x t ⊎ Steps e x t
  released_cases x t h = elim (step_cases h.0 x t h.1) [ inl k ↦ inl (h.0, k) | inr k ↦ inr k.1 ]

  pub told_cases : (i : ℕ) (v : Bool) → Told (log ++ (e ∷ [])) i v → Told log i v ⊎ Tells e i v
  told_cases i v h = elim (push_cases h.0 _ h.3) [ inl k ↦ inl (h.0, h.1, h.2, k) | inr k ↦ inr (h.1, h.2, k.1) ]
