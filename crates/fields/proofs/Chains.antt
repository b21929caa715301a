-- Fields one after another, and that a refusal names the first that is not kept.
use Rattle.std.proofs.Common.{◌≡◌, ℕ, ◌+◌, Bool, true, false, cond, leb, List, [], ◌∷◌, ◌++◌, length, sym, refl, subst, inl, inr, arith}
use Rattle.std.proofs.lemmas.List.{append-nil}
use Rattle.std.proofs.lemmas.Bool.Decides.{nat_tests}
use Rattle.refusals.specs.Answers.{Answer, given, refused, and_then, refusal_at}
use Rattle.refusals.specs.declared.Refusal.{Refusal}
use Rattle.fields.specs.Fields.{Field, number_at, field_answer, checked, JudgedFields}

pub never : {X Z : Type 0} (r : Refusal) (x : X) → refused r ≡ given x → Z
never r x e = let z : ◌≡◌ {A = ℕ} 0 1 = cc in absurd (omega arith)

module _ {X Y : Type 0} where
  then_onward : (a : Answer ℕ) (k : Answer X) (l m : Answer Y) (x p : X) → (given p ≡ k → (p ≡ x) × (l ≡ m)) → given p ≡ and_then a (λ _. k) → (p ≡ x) × (and_then a (λ _. l) ≡ m)
  then_onward (given v) k l m x p go h = go h
  then_onward (refused r) k l m x p go h = never r p (sym h)

  then_halted : (a : Answer ℕ) (k : Answer X) (l : Answer Y) (r : Refusal) → (refused r ≡ k → refused r ≡ l) → refused r ≡ and_then a (λ _. k) → refused r ≡ and_then a (λ _. l)
  then_halted (given v) k l r go h = go h
  then_halted (refused q) k l r go h = cc

module _ {X Y : Type 0} (file : List ℕ) where
  -- fields that have passed are done with
  pub onward : (fs gs : List Field) (x p : X) (y : Y) → given p ≡ checked file fs x → (p ≡ x) × (checked file (fs ++ gs) y ≡ checked file gs y)
  onward [] gs x p y e = (cc, refl)
  onward (f ∷ fs) gs x p y e =
      then_onward (field_answer file f) (checked file fs x) (checked file (fs ++ gs) y) (checked file gs y) x p (onward fs gs x p y) e

  -- a refusal among the first fields is that of all
  pub halted : (fs gs : List Field) (x : X) (y : Y) (r : Refusal) → refused r ≡ checked file fs x → refused r ≡ checked file (fs ++ gs) y
  halted [] gs x y r e = never r x e
  halted (f ∷ fs) gs x y r e =
      then_halted (field_answer file f) (checked file fs x) (checked file (fs ++ gs) y) r (halted fs gs x y r) e

  -- fields that have passed give every value, and refuse every value alike

  pub passed : (fs : List Field) (x p : X) (y : Y) → given p ≡ checked file fs x → (p ≡ x) × (given y ≡ checked file fs y)
  passed fs x p y e =
      let o = onward fs [] x p y e in
      (o.0, sym (subst (λ l. checked file l y ≡ given y) (append-nil fs) o.1))

  pub stopped : (fs : List Field) (x : X) (y : Y) (r : Refusal) → refused r ≡ checked file fs x → refused r ≡ checked file fs y
  stopped fs x y r e = subst (λ l. refused r ≡ checked file l y) (append-nil fs) (halted fs [] x y r e)

module _ (file : List ℕ) (f : Field) (fs : List Field) where
  abbrev by_tests : Bool → Bool → Answer ℕ
  by_tests there keeps =
      cond there (cond keeps (given (number_at file f.from f.width)) (refused (refusal_at f.number f.from))) (refused (refusal_at 1 (length file)))

  one_more : {X : Type 0} (there keeps : Bool) (rest : Answer X) → leb (f.from + f.width) (length file) ≡ there → f.keeps (number_at file f.from f.width) ≡ keeps → JudgedFields file fs rest → JudgedFields file (f ∷ fs) (and_then (by_tests there keeps) (λ _. rest))
  one_more false keeps rest t k go = inl (inl (record { ends = grind (arith, nat_tests); named = refl }))
  one_more true false rest t k go = inl (inr (record { there = grind (arith, nat_tests); broken = k; named = refl }))
  one_more true true (given x) t k go = (record { there = grind (arith, nat_tests); kept = k }, go)
  one_more true true (refused r) t k go = inr (record { there = grind (arith, nat_tests); kept = k }, go)

-- what the fields answer: all are kept, or the refusal names the first that is not
pub checked_judged : {X : Type 0} (file : List ℕ) (fs : List Field) (x : X) → JudgedFields file fs (checked file fs x)
checked_judged file [] x = tt
checked_judged file (f ∷ fs) x =
    one_more file f fs (leb (f.from + f.width) (length file)) (f.keeps (number_at file f.from f.width)) (checked file fs x) refl refl (checked_judged file fs x)

pub judged : {X : Type 0} (file : List ℕ) (fs : List Field) (x : X) (a : Answer X) → a ≡ checked file fs x → JudgedFields file fs a
judged file fs x a e = subst (JudgedFields file fs) (sym e) (checked_judged file fs x)
