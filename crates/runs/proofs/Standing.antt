-- After any list of calls a run stands.
use Rattle.std.proofs.Common.{◌≡◌, ℕ, Bool, true, false, not, ◌&&◌, eqb, ◌⊎◌, ◌↔◌, List, [], ◌∷◌, ◌++◌, length, sym, refl, ◌∙◌, subst, inl, inr, arith}
use Rattle.std.proofs.lemmas.List.{append-nil, append_assoc}
use Rattle.std.proofs.lemmas.Nat.{pow_pos}
use Rattle.std.proofs.lemmas.Bool.{both_ways, cases_Bool, and_parts, and_cases, not-true, not-false, cond_both, eqb-true, eqb-false}
use Rattle.refusals.specs.Answers.{Answer, given, refused, refusal_at}
use Rattle.refusals.specs.declared.Refusal.{Refusal}
use Rattle.times.specs.Moments.{Moment}
use Rattle.rules.specs.Meanings.{Meaning}
use Rattle.plans.specs.Plans.{Plan, letters, test, moment}
use Rattle.plans.specs.Memory.{MemoryKept, MemoryRefused, too_many, wrong_count, bad_limit, bad_bound, bad_time}
use Rattle.sets.specs.Sets.{has}
use Rattle.runs.specs.Runs.{opened, step_at, stepped, chosen, released_by, releasing, may_tell, with_told, telling}
use Rattle.runs.specs.Words.{ReleaseRefused, in_memory, other_plan, none_left, waits, ReleasedNow, ReleaseSays}
use Rattle.runs.specs.Plays.{Call, Entry, Refuses, ReleasedBy, Released, Unreleased, Told, NotTaken, AllTold, Finished, call, play, Stands, StandsAlways}
use Rattle.runs.specs.declared.Run.{Run}
use Rattle.runs.specs.declared.Token.{Token}
use Rattle.runs.specs.declared.answers.ReleasedStep.{ReleasedStep}
use Rattle.runs.specs.declared.answers.Turn.{Turn}
use Rattle.sets.proofs.Bits.{none_holds}
use Rattle.runs.proofs.Steps.{Sound}
use Rattle.runs.proofs.Keeping.{Keeps, ready, idle, step_kept, tell_kept}
use Rattle.runs.proofs.Logs.{Steps, Tells, tell_no_step, refused_no_step, release_no_tell, refused_no_tell, step_same, tell_same, push_last, released_kept, told_kept, step_cases, released_cases, told_cases}
use Rattle.runs.proofs.Turns.{release_says}

memory_stands : (p : Plan) (ts : List Moment) (q : Refusal) → MemoryKept p ts → MemoryRefused p ts q → ⊥
memory_stands p ts q kept (too_many h) = omega (arith, kept.limits.few)
memory_stands p ts q kept (wrong_count h k) = k kept.times.full
memory_stands p ts q kept (bad_limit h k j l before e) = both_ways _ e (kept.limits.each j l).fitting
memory_stands p ts q kept (bad_bound h k j l before f e) = both_ways _ e (kept.limits.each j l).bounded
memory_stands p ts q kept (bad_time h k row x l b before e) = both_ways _ e (kept.times.each row x l b)

abbrev Once : List Entry → Type 0
Once log = (i j x : ℕ) (t u : Moment) → ReleasedBy log i x t → ReleasedBy log j x u → i ≡ j

once_more : (log : List Entry) (e : Entry) → Once log → ((x : ℕ) (t u : Moment) → Steps e x t → Released log x u → ⊥) → Once (log ++ (e ∷ []))
once_more log e once fresh i j x t u h g = both (step_cases log e i x t h) (step_cases log e j x u g)
  where
    both : ReleasedBy log i x t ⊎ ((i ≡ length log) × Steps e x t) → ReleasedBy log j x u ⊎ ((j ≡ length log) × Steps e x u) → i ≡ j
    both (inl a) (inl b) = once i j x t u a b
    both (inl a) (inr b) = absurd (fresh x u t b.1 (i, a))
    both (inr a) (inl b) = absurd (fresh x t u a.1 (j, b))
    both (inr a) (inr b) = a.0 ∙ sym b.0

module _ (p : Plan) (ts : List Moment) (m : Meaning) (number : ℕ) where
  abbrev Kept : List Entry → Run → Type 0
  Kept log r = Keeps p ts m number (Released log) (Told log) r × Once log

  nothing_yet : Kept [] (opened p number)
  nothing_yet = (
    record {
      number_is = refl;
      points_is = refl;
      letters_is = refl;
      released_is = λ x e. absurd (both_ways _ (none_holds x) e);
      is_released = λ x t h. absurd (omega (arith, h.1.1.0));
      out_is = λ i e. absurd (both_ways _ (none_holds i) e);
      is_out = λ i _ e. absurd (both_ways _ (none_holds (test p i)) e);
      told_is = λ i e. absurd (both_ways _ (none_holds i) e);
      is_told = λ i v h. absurd (omega (arith, h.3.0));
      told_out = λ i e. absurd (both_ways _ (none_holds i) e);
      untold = λ i _. none_holds i;
      small = pow_pos (letters p);
      inside = λ x t h. absurd (omega (arith, h.1.1.0));
      moments = λ x row t l h g. absurd (omega (arith, h.1.1.0));
      order = λ row x y t l g k e h. absurd (omega (arith, h.1.1.0));
    },
    λ i j x t u h g. absurd (omega (arith, h.1.0)),
  )

module _ {p : Plan} {ts : List Moment} {m : Meaning} (sound : Sound p ts m) (number : ℕ) where
  module _ (log : List Entry) {r : Run} (kept : Kept p ts m number log r) where
    -- an entry that neither releases nor tells
    quiet : (e : Entry) → ((x : ℕ) (t : Moment) → Steps e x t → ⊥) → ((i : ℕ) (v : Bool) → Tells e i v → ⊥) → Kept p ts m number (log ++ (e ∷ [])) r
    quiet e s t = (
      idle kept.0 (released_kept log e) (told_kept log e) (λ x u h. elim (released_cases log e x u h) [ inl k ↦ k | inr k ↦ absurd (s x u k) ]) (λ i v h. elim (told_cases log e i v h) [ inl k ↦ k | inr k ↦ absurd (t i v k) ]),
      once_more log e kept.1 (λ x u _ q _. s x u q),
    )

    step_next : (s : ReleasedStep Moment) → ReleasedNow p ts m r s → Kept p ts m number (log ++ (Entry.release (given s) ∷ [])) (stepped p r s.point)
    step_next s now = (
      step_kept kept.0 (released_kept log e) (told_kept log e) sound now.row s.point (ready kept.0 s now) (length log, (s.token, push_last log e _ here)) (λ x t h. elim (released_cases log e x t h) [ inl k ↦ inl k | inr k ↦ (let q = step_same s x t k in inr (q.0, sym now.moment_is ∙ q.1)) ]) (λ i v h. elim (told_cases log e i v h) [ inl k ↦ k | inr k ↦ absurd (release_no_tell _ i v k) ]),
      once_more log e kept.1 (λ x t u q h. both_ways _ now.earliest.left (subst (λ z. has r.released z ≡ true) (sym (step_same s x t q).0) (kept.0.is_released x u h))),
    )
      where
        e : Entry
        e = Entry.release (given s)

        here : e ≡ Entry.release (given (record { point = s.point; at = moment p ts now.row s.point; token = s.token }))
        here = let q = now.moment_is in subst (λ (t : Moment). e ≡ Entry.release (given (record { point = s.point; at = t; token = s.token }))) q refl

    release_next : (a : Answer Turn) → chosen p ts m r ≡ a → Kept p ts m number (log ++ (Entry.release (released_by p ts m r a).0 ∷ [])) (released_by p ts m r a).1
    release_next (given t) q = step_next (step_at p ts r t) (subst (λ a. ReleaseSays p ts m r (released_by p ts m r a).0) q (release_says p ts m r))
    release_next (refused n) q = quiet (Entry.release (refused n)) (refused_no_step n) (release_no_tell (refused n))

    tell_next : (k : Token) (v : Bool) → may_tell r k ≡ true → Kept p ts m number (log ++ (Entry.tell k v (given tt) ∷ [])) (with_told r k.letter v)
    tell_next k v may =
        let h = and_parts (has r.out k.letter) (not (has r.told k.letter)) (and_parts (eqb k.run r.number) (has r.out k.letter && not (has r.told k.letter)) may).1 in (
          tell_kept kept.0 (released_kept log e) (told_kept log e) k.letter v h.0 (not-true _ h.1) (length log, k, refl, push_last log e e refl) (λ i w g. elim (told_cases log e i w g) [ inl q ↦ inl q | inr q ↦ inr (tell_same k v (given tt) i w q) ]) (λ x t g. elim (released_cases log e x t g) [ inl q ↦ q | inr q ↦ absurd (tell_no_step k v (given tt) x t q) ]),
          once_more log e kept.1 (λ x t _ q _. tell_no_step k v (given tt) x t q),
        )
      where
        e : Entry
        e = Entry.tell k v (given tt)

    call_next : (c : Call) → Kept p ts m number (log ++ ((call p ts m r c).0 ∷ [])) (call p ts m r c).1
    call_next Call.release = release_next (chosen p ts m r) refl
    call_next (Call.tell k v) =
        cond_both (may_tell r k) (given tt, with_told r k.letter v) (refused (refusal_at 17 0), r) (λ (a : Answer (Unit {0}) × Run). Kept p ts m number (log ++ (Entry.tell k v a.0 ∷ [])) a.1) (tell_next k v) (λ _. quiet (Entry.tell k v (refused (refusal_at 17 0))) (tell_no_step k v _) (refused_no_tell k v _))

  plays : (calls : List Call) (log : List Entry) (r : Run) → Kept p ts m number log r → Kept p ts m number (log ++ (play p ts m r calls).0) (play p ts m r calls).1
  plays [] log r kept = subst (λ l. Kept p ts m number l r) (sym (append-nil log)) kept
  plays (c ∷ cs) log r kept =
      let next = call p ts m r c in
      subst (λ l. Kept p ts m number l (play p ts m next.1 cs).1) (append_assoc log (next.0 ∷ []) (play p ts m next.1 cs).0) (plays cs (log ++ (next.0 ∷ [])) next.1 (call_next log kept c))

  module _ (log : List Entry) {r : Run} (kept : Keeps p ts m number (Released log) (Told log) r) where
    unreleased : (x : ℕ) → Unreleased log x → has r.released x ≡ false
    unreleased x h = elim (cases_Bool (has r.released x)) [ inl q ↦ absurd (h (kept.released_is x q).0 (kept.released_is x q).1) | inr q ↦ q ]

    not_taken : (k : Token) → may_tell r k ≡ false → NotTaken p number log k
    not_taken k e =
        elim (and_cases (eqb k.run r.number) _ e) [
          | inl q ↦ inl (λ w. eqb-false k.run r.number q (w ∙ sym kept.number_is))
          | inr q ↦ elim (and_cases (has r.out k.letter) _ q) [
            | inl o ↦ inr (inl (λ l t h. both_ways _ o (kept.is_out k.letter l (kept.is_released (test p k.letter) t h))))
            | inr n ↦ inr (inr (has r.outcomes k.letter, kept.told_is k.letter (not-false _ n)))
          ]
        ]

    taken : (k : Token) → may_tell r k ≡ true → NotTaken p number log k → ⊥
    taken k e h =
        let a = and_parts (eqb k.run r.number) (has r.out k.letter && not (has r.told k.letter)) e in
        let b = and_parts (has r.out k.letter) (not (has r.told k.letter)) a.1 in
        let o = kept.out_is k.letter b.0 in
        let x = kept.released_is (test p k.letter) o.1 in
        elim h [
          | inl q ↦ q (eqb-true k.run r.number a.0 ∙ kept.number_is)
          | inr (inl q) ↦ q o.0 x.0 x.1
          | inr (inr q) ↦ both_ways _ (not-true _ b.1) (kept.is_told k.letter q.0 q.1).0
        ]

    tellings : (k : Token) (v : Bool) → Refuses (telling r k v).0 ↔ NotTaken p number log k
    tellings k v =
        cond_both (may_tell r k) (given tt, with_told r k.letter v) (refused (refusal_at 17 0), r) (λ (a : Answer (Unit {0}) × Run). Refuses a.0 ↔ NotTaken p number log k) (λ e. (absurd, taken k e)) (λ e. (λ _. not_taken k e, λ _. tt))

    -- with all released tests told, what is refused is the end
    module _ (told : AllTold p log) where
      refused_ends : (q : Refusal) → ReleaseRefused p ts m r q → Finished p log
      refused_ends q (in_memory n h) = absurd (memory_stands p ts n sound.memory h)
      refused_ends q (other_plan h k) = absurd (k (record { points = kept.points_is; letters = kept.letters_is }))
      refused_ends q (none_left h k s lowest all) = λ row l g x step. kept.released_is x (all x step)
      refused_ends q (waits h k row x i lowest earliest w before) =
          let o = kept.released_is (test p i) (kept.out_is i w.out).1 in
          let v = told i o.0 w.letter o.1 in
          absurd (both_ways _ w.untold (kept.is_told i v.0 v.1).0)

      ends : (a : Answer (ReleasedStep Moment)) → ReleaseSays p ts m r a → Refuses a ↔ Finished p log
      ends (given s) now = (absurd, λ f. let h = f r.outcomes kept.small (λ i v w. (kept.is_told i v w).1) s.point now.earliest.step in both_ways _ now.earliest.left (kept.is_released s.point h.0 h.1))
      ends (refused q) h = (λ _. refused_ends q h, λ _. tt)

    stands : Once log → Stands p ts m number log r
    stands once = record {
      moments = kept.moments;
      order = λ row x y t l g k h. kept.order row x y t l g k (unreleased x h);
      once = once;
      tellings = tellings;
      end = λ told. ends told (releasing p ts m r).0 (release_says p ts m r);
      agreeing = (r.outcomes, kept.small, λ i v w. (kept.is_told i v w).1);
      inside = kept.inside;
    }

  pub always : StandsAlways p ts m number (opened p number)
  always calls =
      let k = plays calls [] (opened p number) (nothing_yet p ts m number) in
      stands (play p ts m (opened p number) calls).0 k.0 k.1
