-- Why a step may be released: R says which points are released, each with its moment, and W which outcomes are told.
use Rattle.std.proofs.Common.{◌≡◌, ℕ, ◌<◌, Bool, true, false, ◌⊎◌, List, sym, ◌∙◌, subst, inl, inr}
use Rattle.std.proofs.lemmas.Bool.{both_ways, cases_Bool}
use Rattle.times.specs.Moments.{Moment, earlier}
use Rattle.rules.specs.Meanings.{Meaning, Persists, Afterwards}
use Rattle.plans.specs.Plans.{Plan, rows, letters, test, holds, moment}
use Rattle.plans.specs.Memory.{MemoryKept}
use Rattle.offences.specs.Verdicts.{sees}
use Rattle.verdicts.specs.Meanings.{Agrees, Dynamic, Placed}
use Rattle.verdicts.proofs.Order.{not_later, Least, least_or_none}

-- row has the outcomes told
abbrev pub Fit : (ℕ → Bool → Type 0) → ℕ → Type 0
Fit W row = (i : ℕ) (v : Bool) → W i v → holds row i ≡ v

-- row has the outcomes told that are seen by a step at t
abbrev pub FitSeen : Plan → Meaning → (ℕ → Moment → Type 0) → (ℕ → Bool → Type 0) → Moment → ℕ → Type 0
FitSeen p m R W t row = (i : ℕ) (v : Bool) (o : Moment) → W i v → R (test p i) o → m i o t ≡ true → holds row i ≡ v

-- what makes a table sound to run
pub record Sound (p : Plan) (ts : List Moment) (m : Meaning) : Type 0 where
  pub placed : Placed p
  pub apart : (i j : ℕ) → i < letters p → j < letters p → test p i ≡ test p j → i ≡ j
  pub persists : Persists m
  pub afterwards : Afterwards m
  pub memory : MemoryKept p ts
  pub dynamic : Dynamic p ts m

-- X stands first of what is left of a row s that has the outcomes told, and every outcome seen there is told
pub record Ready (p : Plan) (ts : List Moment) (m : Meaning) (R : ℕ → Moment → Type 0) (W : ℕ → Bool → Type 0) (left : ℕ → Bool) (s X : ℕ) : Type 0 where
  pub row : s < rows p
  pub point : X < p.points
  pub fits : Fit W s
  pub moments : (x row : ℕ) (t : Moment) → row < rows p → R x t → FitSeen p m R W t row → moment p ts row x ≡ t
  pub released : (x : ℕ) → left x ≡ false → (t : Moment) × R x t
  pub leads : (y : ℕ) → y < p.points → left y ≡ true → earlier (moment p ts s y) (moment p ts s X) ≡ false
  pub told : (i : ℕ) (o : Moment) → i < letters p → R (test p i) o → sees p ts m s (moment p ts s X) i ≡ true → (v : Bool) × W i v

-- what is not later than a stands before whatever a stands before
earlier_from : (a b c : Moment) → earlier a c ≡ true → earlier a b ≡ false → earlier b c ≡ true
earlier_from a b c h k = elim (cases_Bool (earlier b c)) [ inl e ↦ e | inr e ↦ absurd (both_ways _ (not_later c b a e k) h) ]

module _ {p : Plan} {ts : List Moment} {m : Meaning} {R : ℕ → Moment → Type 0} {W : ℕ → Bool → Type 0} {left : ℕ → Bool} {s X : ℕ} (sound : Sound p ts m) (ready : Ready p ts m R W left s X) where
  released_at : (b x : ℕ) (o : Moment) → b < rows p → Fit W b → R x o → moment p ts b x ≡ o
  released_at b x o l g r = ready.moments x b o l r (λ i v _ w _ _. g i v w)

  -- a test earlier than whatever is left of a row is released
  earlier_released : (b i : ℕ) (t : Moment) → i < letters p → ((y : ℕ) → y < p.points → left y ≡ true → earlier (moment p ts b y) t ≡ false) → sees p ts m b t i ≡ true → (o : Moment) × R (test p i) o
  earlier_released b i t l h e =
      elim (cases_Bool (left (test p i))) [
        | inl q ↦ absurd (both_ways _ (h (test p i) (sound.placed i l) q) (sound.afterwards i _ t e))
        | inr q ↦ ready.released (test p i) q
      ]

  pub new_moment : (b : ℕ) → b < rows p → FitSeen p m R W (moment p ts s X) b → moment p ts b X ≡ moment p ts s X
  new_moment b l g = sound.dynamic s b X ready.row l ready.point same
    where
      same : Agrees p ts m s b (moment p ts s X)
      same i k e =
          let r = earlier_released s i (moment p ts s X) k ready.leads e in
          let w = ready.told i r.0 k r.1 e in
          let at = released_at s (test p i) r.0 ready.row ready.fits r.1 in
          g i w.0 r.0 w.1 r.1 (subst (λ o. m i o (moment p ts s X) ≡ true) at e) ∙ sym (ready.fits i w.0 w.1)

  -- in no row with the outcomes told does the least of what is left stand before X's moment
  no_sooner : (b z : ℕ) → b < rows p → Fit W b → Least (moment p ts b) left p.points z → earlier (moment p ts b z) (moment p ts s X) ≡ true → ⊥
  no_sooner b z l g h early =
      both_ways _ (ready.leads z h.below h.passing) (subst (λ t. earlier t (moment p ts s X) ≡ true) (sym (sound.dynamic b s z l ready.row h.below same)) early)
    where
      same : Agrees p ts m b s (moment p ts b z)
      same i k e =
          let r = earlier_released b i (moment p ts b z) k h.least e in
          let ats = released_at s (test p i) r.0 ready.row ready.fits r.1 in
          let atb = released_at b (test p i) r.0 l g r.1 in
          let e' : m i (moment p ts s (test p i)) (moment p ts b z) ≡ true = subst (λ o. m i o (moment p ts b z) ≡ true) (atb ∙ sym ats) e in
          let w = ready.told i r.0 k r.1 (sound.persists i _ _ _ e' early) in
          ready.fits i w.0 w.1 ∙ sym (g i w.0 w.1)

  pub new_order : (b y : ℕ) → b < rows p → Fit W b → y < p.points → left y ≡ true → earlier (moment p ts b y) (moment p ts b X) ≡ false
  new_order b y l g k e = elim (cases_Bool (earlier (moment p ts b y) (moment p ts b X))) [ inr q ↦ q | inl q ↦ absurd (sooner (least_or_none (moment p ts b) left p.points) q) ]
    where
      at : moment p ts b X ≡ moment p ts s X
      at = new_moment b l (λ i v _ w _ _. g i v w)

      sooner : ((z : ℕ) → z < p.points → left z ≡ false) ⊎ ((z : ℕ) × Least (moment p ts b) left p.points z) → earlier (moment p ts b y) (moment p ts b X) ≡ true → ⊥
      sooner (inl h) q = both_ways _ (h y k) e
      sooner (inr z) q = no_sooner b z.0 l g z.1 (subst (λ t. earlier (moment p ts b z.0) t ≡ true) at (earlier_from (moment p ts b y) (moment p ts b z.0) (moment p ts b X) q (z.1.least y k e)))
