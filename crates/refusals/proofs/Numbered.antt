-- What `try_for_each` over the numbered elements of a slice answers: the first of a search by number.
use Rattle.std.proofs.Common.{◌≡◌, ℕ, ◌+◌, ◌<◌, ◌≤◌, List, map, length, slice_index_or, Some, None, Option, IfSome, IsSomeAnd, Ok, Err, Result, IsErr, sym, refl, ap, ◌∙◌, subst, arith, inl, inr}
use Rattle.std.specs.Option.{option_map}
use Rattle.std.specs.Result.{result_from_control_flow, IsErrAnd}
use Rattle.std.specs.Iterator.Runs.{Run, SomeRun, IsTryForEachRun, CallKeepsClosure, ItemsMapTo}
use denote.Param.Members.{Mut, Called}
use denote.Ref.{Bor}
use Rattle.refusals.specs.Answers.{answer_of, unless}
use Rattle.refusals.specs.declared.Refusal.{Refusal}
use Rattle.refusals.specs.Searches.{first}
use Rattle.refusals.proofs.Firsts.{none_first, first_found, some_none}
use Rattle.refusals.proofs.Chained.{there, decided, refused_by, unless_given, unless_refused}

if_and : {X : Type 0} (o : Option X) (P : X → Type 0) → IsSomeAnd o P → IfSome o P
if_and None P h = absurd h
if_and (Some x) P h = h

-- the element with number i, of which P was said
module _ {A : Type 0} (xs : List A) (P : ℕ × Bor A → Type 0) (i : ℕ) where
  abbrev Said : Type 0
  Said = (x : Bor A) × P (i, x) × ((d : A) → x.now ≡ slice_index_or xs i d)

  read : i < length xs → (o : Option (ℕ × Bor A)) → IfSome o (λ x. x.0 ≡ i) → ((d : A) → option_map (λ y. y.now) (option_map (λ x. x.1) o) ≡ Some (slice_index_or xs i d)) → IfSome o P → Said
  read l None n e h = absurd (some_none _ (sym (e (there xs i l))))
  read l (Some x) n e h = (x.1, subst (λ k. P (k, x.1)) n h, λ d. let q : Some x.1.now ≡ Some (slice_index_or xs i d) = e d in cc)

module _ {A F E : Type 0} (g : Mut F ((ℕ × Bor A) × Unit {0}) (Result (Unit {0}) E)) (f : F) where
  abbrev Gives : Result (Unit {0}) E → ℕ × Bor A → Type 0
  Gives w x = (v : Result (Unit {0}) E) × Called g f (x, tt) v f × (v ≡ w)

  module _ (keeps : CallKeepsClosure g f) (numbering : E → Refusal) (ask : ℕ → Option Refusal) (xs : List A) where
    -- the closure answers by the number, asked of the element there
    abbrev pub Asked : Type 0
    Asked = (i : ℕ) (x : Bor A) (a : Result (Unit {0}) E) → i < length xs → ((d : A) → x.now ≡ slice_index_or xs i d) → Called g f ((i, x), tt) a f → answer_of (λ u. u) numbering a ≡ unless (ask i) tt

    said : (i : ℕ) (w : Result (Unit {0}) E) → i < length xs → Asked → Said xs (Gives w) i → answer_of (λ u. u) numbering w ≡ unless (ask i) tt
    said i w l asked h = let c = h.1 in rw c.2 at (asked i h.0 c.0 l h.2 c.1)

    -- `try_for_each` goes by all, or stops at the first refusal; the numbers count up from 0 beside the elements
    module _ {S R : Type 0} {steps : S → Option (ℕ × Bor A) → S → Type 0} {inner : R → Option (Bor A) → R → Type 0} (s : S) (r : R) where
      pub each_listed : ((p : Run steps) → p.from ≡ s → ((k : ℕ) → IfSome (p.at k) (λ x. x.0 ≡ k)) × ((q : Run inner) × (q.from ≡ r) × (((q.len ≡ p.len) × (q.items ≡ map (λ x. x.1) p.items) × ((k : ℕ) → q.at k ≡ option_map (λ x. x.1) (p.at k))) × (q.whole ≡ p.whole))))
          → ((q : Run inner) → q.from ≡ r → ItemsMapTo q (λ y. y.now) xs)
          → Asked → (t : Result (Unit {0}) E)
          → SomeRun steps s (λ p. IsTryForEachRun p g f (λ u c. u ≡ result_from_control_flow c) (λ e u. IsErr u × IsErrAnd u (λ y. y ≡ e.0)) t)
          → answer_of (λ u. u) numbering t ≡ unless (first (length xs) ask) tt
      each_listed numbered lists asked t run =
          let p = run.0 in
          let n = numbered p run.1 in
          let q = n.1.0 in
          let same = n.1.2.0 in
          let list = lists q n.1.1 in
          let long : q.len ≡ p.len = same.0 in
          let few : q.len ≤ length xs = list.0 in
          let at : (w : Result (Unit {0}) E) (i : ℕ) → i < p.len → IfSome (p.at i) (Gives w) → answer_of (λ u. u) numbering w ≡ unless (ask i) tt
          = λ w i l h. said i w (omega arith) asked (read xs (Gives w) i (omega arith) (p.at i) (n.0 i) (λ d. subst (λ o. option_map (λ y. y.now) o ≡ Some (slice_index_or xs i d)) (same.2 i) (list.2 i d (omega arith))) h) in
          elim (decided p.whole _ _ run.2) [
            | inl h ↦
                let full : q.len ≡ length xs = list.1 (n.1.2.1 ∙ h.0) in
                let none = none_first (length xs) ask (λ i l. unless_given _ (at (Ok tt) i (omega arith) (h.1.1 keeps i))) in
                rw (h.1.0, none) refl
            | inr h ↦
                let i = h.1 in
                let last : p.len ≡ i + 1 = h.3 in
                let both = h.4 keeps in
                let here : ask i ≡ Some (numbering h.0.0) = unless_refused _ _ (at (Err h.0.0) i (omega arith) (if_and (p.at i) _ both.0)) in
                let before : (k : ℕ) → k < i → ask k ≡ None = λ k l. unless_given _ (at (Ok tt) k (omega arith) (if_and (p.at k) _ (both.1 k l))) in
                let found = first_found ask (length xs) i (numbering h.0.0) (omega arith) (none_first i ask before) here in
                refused_by numbering t h.0.0 h.2 ∙ ap (λ o. unless o tt) (sym found)
          ]
