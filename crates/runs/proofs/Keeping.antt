-- What a run keeps, over the points released with their moments, R, and the outcomes told, W.
use Rattle.std.proofs.Common.{◌≡◌, ℕ, ◌<◌, Bool, true, false, cond, not, eqb, ◌⊎◌, List, Some, None, Option, sym, refl, ◌∙◌, subst, inl, inr}
use Rattle.std.proofs.lemmas.Bool.{both_ways, cases_Bool, cases_eq, not-true, not-false, not_from_false, eqb-true, eq-eqb}
use Rattle.times.specs.Moments.{Moment, earlier}
use Rattle.rules.specs.Meanings.{Meaning}
use Rattle.plans.specs.Plans.{Plan, rows, letters, test, moment}
use Rattle.offences.specs.Verdicts.{sees}
use Rattle.sets.specs.Sets.{has, joined}
use Rattle.runs.specs.Runs.{letter_of, out_after, stepped, with_told}
use Rattle.runs.specs.Words.{ReleasedNow}
use Rattle.runs.specs.declared.Run.{Run}
use Rattle.runs.specs.declared.answers.ReleasedStep.{ReleasedStep}
use Rattle.sets.proofs.Bits.{with_here, with_kept, with_cases, with_other, with_not, put_here, put_other, put_below}
use Rattle.runs.proofs.Founds.{Found, found}
use Rattle.runs.proofs.Steps.{Fit, FitSeen, Sound, Ready, new_moment, new_order}

pub record Keeps (p : Plan) (ts : List Moment) (m : Meaning) (number : ℕ) (R : ℕ → Moment → Type 0) (W : ℕ → Bool → Type 0) (r : Run) : Type 0 where
  pub number_is : r.number ≡ number
  pub points_is : r.points ≡ p.points
  pub letters_is : r.letters ≡ letters p
  pub released_is : (x : ℕ) → has r.released x ≡ true → (t : Moment) × R x t
  pub is_released : (x : ℕ) (t : Moment) → R x t → has r.released x ≡ true
  pub out_is : (i : ℕ) → has r.out i ≡ true → (i < letters p) × (has r.released (test p i) ≡ true)
  pub is_out : (i : ℕ) → i < letters p → has r.released (test p i) ≡ true → has r.out i ≡ true
  pub told_is : (i : ℕ) → has r.told i ≡ true → W i (has r.outcomes i)
  pub is_told : (i : ℕ) (v : Bool) → W i v → (has r.told i ≡ true) × (has r.outcomes i ≡ v)
  pub told_out : (i : ℕ) → has r.told i ≡ true → has r.out i ≡ true
  pub untold : (i : ℕ) → has r.told i ≡ false → has r.outcomes i ≡ false
  pub small : r.outcomes < rows p
  pub inside : (x : ℕ) (t : Moment) → R x t → x < p.points
  pub moments : (x row : ℕ) (t : Moment) → row < rows p → R x t → FitSeen p m R W t row → moment p ts row x ≡ t
  pub order : (row x y : ℕ) (t : Moment) → row < rows p → Fit W row → x < p.points → has r.released x ≡ false → R y t → earlier (moment p ts row x) (moment p ts row y) ≡ false

-- the letters out after X is released, by what the search for its letter finds
module _ (p : Plan) (out X : ℕ) where
  abbrev tests : ℕ → Bool
  tests i = eqb (test p i) X

  out_after_is : (o : Option ℕ) → Found tests (letters p) o → (i : ℕ) → has (out_after out o) i ≡ true → ((i < letters p) × (X ≡ test p i)) ⊎ (has out i ≡ true)
  out_after_is None h i e = inr e
  out_after_is (Some k) h i e =
      elim (with_cases out k i e) [
        | inl q ↦ inl (subst (λ z. (z < letters p) × (X ≡ test p z)) q (h.0, sym (eqb-true (test p k) X h.1)))
        | inr q ↦ inr q
      ]

  is_out_after : ((i j : ℕ) → i < letters p → j < letters p → test p i ≡ test p j → i ≡ j) → (o : Option ℕ) → Found tests (letters p) o → (i : ℕ) → ((i < letters p) × (X ≡ test p i)) ⊎ (has out i ≡ true) → has (out_after out o) i ≡ true
  is_out_after apart None h i (inl e) = absurd (both_ways _ (h i e.0) (eq-eqb (test p i) X (sym e.1)))
  is_out_after apart None h i (inr e) = e
  is_out_after apart (Some k) h i (inl e) = subst (λ z. has (joined out k) z ≡ true) (apart k i h.0 e.0 (eqb-true (test p k) X h.1 ∙ e.1)) (with_here out k)
  is_out_after apart (Some k) h i (inr e) = with_kept out k i e

module _ {p : Plan} {ts : List Moment} {m : Meaning} {number : ℕ} {R : ℕ → Moment → Type 0} {W : ℕ → Bool → Type 0} {r : Run} (keeps : Keeps p ts m number R W r) where
  -- a release makes its step ready
  pub ready : (s : ReleasedStep Moment) (now : ReleasedNow p ts m r s) → Ready p ts m R W (λ x. not (has r.released x)) now.row s.point
  ready s now = record {
    row = now.lowest.there;
    point = now.earliest.step;
    fits = λ i v w.
        let t = keeps.is_told i v w in
        now.lowest.agrees i (keeps.out_is i (keeps.told_out i t.0)).0 t.0 ∙ t.1;
    moments = keeps.moments;
    released = λ x e. keeps.released_is x (not-false _ e);
    leads = λ y l e. now.earliest.earliest y l (not-true _ e);
    told = told;
  }
    where
      told : (i : ℕ) (o : Moment) → i < letters p → R (test p i) o → sees p ts m now.row (moment p ts now.row s.point) i ≡ true → (v : Bool) × W i v
      told i o l h e =
          elim (cases_Bool (has r.told i)) [
            | inl q ↦ (has r.outcomes i, keeps.told_is i q)
            | inr q ↦ absurd (now.unwaited i (record { letter = l; out = keeps.is_out i l (keeps.is_released (test p i) o h); untold = q; seen = e }))
          ]

  module _ {R' : ℕ → Moment → Type 0} {W' : ℕ → Bool → Type 0} (more : (x : ℕ) (t : Moment) → R x t → R' x t) (tells : (i : ℕ) (v : Bool) → W i v → W' i v) where
    fewer : (t : Moment) (row : ℕ) → FitSeen p m R' W' t row → FitSeen p m R W t row
    fewer t row g i v o w k e = g i v o (tells i v w) (more _ o k) e

    -- nothing is released and nothing told
    pub idle : ((x : ℕ) (t : Moment) → R' x t → R x t) → ((i : ℕ) (v : Bool) → W' i v → W i v) → Keeps p ts m number R' W' r
    idle back untells = record {
      number_is = keeps.number_is;
      points_is = keeps.points_is;
      letters_is = keeps.letters_is;
      released_is = λ x e. let h = keeps.released_is x e in (h.0, more x h.0 h.1);
      is_released = λ x t h. keeps.is_released x t (back x t h);
      out_is = keeps.out_is;
      is_out = keeps.is_out;
      told_is = λ i e. tells i _ (keeps.told_is i e);
      is_told = λ i v h. keeps.is_told i v (untells i v h);
      told_out = keeps.told_out;
      untold = keeps.untold;
      small = keeps.small;
      inside = λ x t h. keeps.inside x t (back x t h);
      moments = λ x row t l h g. keeps.moments x row t l (back x t h) (fewer t row g);
      order = λ row x y t l g k e h. keeps.order row x y t l (λ i v w. g i v (tells i v w)) k e (back y t h);
    }

    -- the point X is released at its moment in the row s
    pub step_kept : Sound p ts m → (s X : ℕ) → Ready p ts m R W (λ x. not (has r.released x)) s X → R' X (moment p ts s X) → ((x : ℕ) (t : Moment) → R' x t → R x t ⊎ ((X ≡ x) × (moment p ts s X ≡ t))) → ((i : ℕ) (v : Bool) → W' i v → W i v) → Keeps p ts m number R' W' (stepped p r X)
    step_kept sound s X rd new back untells = record {
      number_is = keeps.number_is;
      points_is = keeps.points_is;
      letters_is = keeps.letters_is;
      released_is = released_is;
      is_released = is_released;
      out_is = out_is;
      is_out = is_out;
      told_is = λ i e. tells i _ (keeps.told_is i e);
      is_told = λ i v h. keeps.is_told i v (untells i v h);
      told_out = λ i e. is_out_after p r.out X sound.apart _ letter i (inr (keeps.told_out i e));
      untold = keeps.untold;
      small = keeps.small;
      inside = λ x t h. elim (back x t h) [ inl k ↦ keeps.inside x t k | inr k ↦ subst (λ z. z < p.points) k.0 rd.point ];
      moments = moments;
      order = order;
    }
      where
        letter : Found (tests p r.out X) (letters p) (letter_of p X)
        letter = found (letters p) (tests p r.out X) (letter_of p X) refl

        here : has (joined r.released X) X ≡ true
        here = with_here r.released X

        released_is : (x : ℕ) → has (joined r.released X) x ≡ true → (t : Moment) × R' x t
        released_is x e =
            elim (with_cases r.released X x e) [
              | inl q ↦ (moment p ts s X, subst (λ z. R' z (moment p ts s X)) q new)
              | inr q ↦ ((keeps.released_is x q).0, more x _ (keeps.released_is x q).1)
            ]

        is_released : (x : ℕ) (t : Moment) → R' x t → has (joined r.released X) x ≡ true
        is_released x t h =
            elim (back x t h) [
              | inl k ↦ with_kept r.released X x (keeps.is_released x t k)
              | inr k ↦ subst (λ z. has (joined r.released X) z ≡ true) k.0 here
            ]

        out_is : (i : ℕ) → has (out_after r.out (letter_of p X)) i ≡ true → (i < letters p) × (has (joined r.released X) (test p i) ≡ true)
        out_is i e =
            elim (out_after_is p r.out X (letter_of p X) letter i e) [
              | inl q ↦ (q.0, subst (λ z. has (joined r.released X) z ≡ true) q.1 here)
              | inr q ↦ ((keeps.out_is i q).0, with_kept r.released X (test p i) (keeps.out_is i q).1)
            ]

        is_out : (i : ℕ) → i < letters p → has (joined r.released X) (test p i) ≡ true → has (out_after r.out (letter_of p X)) i ≡ true
        is_out i l e =
            is_out_after p r.out X sound.apart (letter_of p X) letter i (elim (with_cases r.released X (test p i) e) [ inl q ↦ inl (l, q) | inr q ↦ inr (keeps.is_out i l q) ])

        moments : (x row : ℕ) (t : Moment) → row < rows p → R' x t → FitSeen p m R' W' t row → moment p ts row x ≡ t
        moments x row t l h g =
            elim (back x t h) [
              | inl k ↦ keeps.moments x row t l k (fewer t row g)
              | inr k ↦ subst (λ z. moment p ts row z ≡ t) k.0 (new_moment sound rd row l (fewer _ row (subst (λ u. FitSeen p m R' W' u row) (sym k.1) g)) ∙ k.1)
            ]

        order : (row x y : ℕ) (t : Moment) → row < rows p → Fit W' row → x < p.points → has (joined r.released X) x ≡ false → R' y t → earlier (moment p ts row x) (moment p ts row y) ≡ false
        order row x y t l g k e h =
            let g' : Fit W row = λ i v w. g i v (tells i v w) in
            let e' = with_not r.released X x e in
            elim (back y t h) [
              | inl q ↦ keeps.order row x y t l g' k e' q
              | inr q ↦ subst (λ z. earlier (moment p ts row x) (moment p ts row z) ≡ false) q.0 (new_order sound rd row x l g' k (not_from_false _ e'))
            ]

    -- the letter I is told, with the outcome v
    pub tell_kept : (I : ℕ) (v : Bool) → has r.out I ≡ true → has r.told I ≡ false → W' I v → ((i : ℕ) (w : Bool) → W' i w → W i w ⊎ ((I ≡ i) × (v ≡ w))) → ((x : ℕ) (t : Moment) → R' x t → R x t) → Keeps p ts m number R' W' (with_told r I v)
    tell_kept I v out fresh new untells back = record {
      number_is = keeps.number_is;
      points_is = keeps.points_is;
      letters_is = keeps.letters_is;
      released_is = λ x e. let h = keeps.released_is x e in (h.0, more x h.0 h.1);
      is_released = λ x t h. keeps.is_released x t (back x t h);
      out_is = keeps.out_is;
      is_out = keeps.is_out;
      told_is = told_is;
      is_told = is_told;
      told_out = λ i e. elim (with_cases r.told I i e) [ inl q ↦ subst (λ z. has r.out z ≡ true) q out | inr q ↦ keeps.told_out i q ];
      untold = untold;
      small = put_below v r.outcomes I (letters p) (keeps.out_is I out).0 keeps.small;
      inside = λ x t h. keeps.inside x t (back x t h);
      moments = λ x row t l h g. keeps.moments x row t l (back x t h) (fewer t row g);
      order = λ row x y t l g k e h. keeps.order row x y t l (λ i w j. g i w (tells i w j)) k e (back y t h);
    }
      where
        outcomes : ℕ
        outcomes = cond v (joined r.outcomes I) r.outcomes

        here : has outcomes I ≡ v
        here = put_here v r.outcomes I (keeps.untold I fresh)

        told_is : (i : ℕ) → has (joined r.told I) i ≡ true → W' i (has outcomes i)
        told_is i e =
            elim (cases_eq I i) [
              | inl q ↦ subst (λ z. W' z (has outcomes z)) q (subst (W' I) (sym here) new)
              | inr q ↦ subst (W' i) (sym (put_other v r.outcomes I i q)) (tells i _ (keeps.told_is i (sym (with_other r.told I i q) ∙ e)))
            ]

        is_told : (i : ℕ) (w : Bool) → W' i w → (has (joined r.told I) i ≡ true) × (has outcomes i ≡ w)
        is_told i w h =
            elim (untells i w h) [
              | inl k ↦ (with_kept r.told I i (keeps.is_told i w k).0, put_other v r.outcomes I i (λ q. both_ways _ fresh (subst (λ z. has r.told z ≡ true) (sym q) (keeps.is_told i w k).0)) ∙ (keeps.is_told i w k).1)
              | inr k ↦ subst (λ z. (has (joined r.told I) z ≡ true) × (has outcomes z ≡ w)) k.0 (with_here r.told I, here ∙ k.1)
            ]

        untold : (i : ℕ) → has (joined r.told I) i ≡ false → has outcomes i ≡ false
        untold i e =
            put_other v r.outcomes I i (λ q. both_ways _ e (subst (λ z. has (joined r.told I) z ≡ true) q (with_here r.told I))) ∙ keeps.untold i (with_not r.told I i e)
