-- A pair is accepted exactly when it keeps the rules of memory and is viable and dynamic, and a refusal names the first that breaks a rule.
use Rattle.std.proofs.Common.{◌≡◌, ℕ, ◌<◌, Bool, true, false, not, ◌&&◌, ◌||◌, List, length, Some, None, Option, sym, refl, ap, ◌∙◌, subst, inl, inr, ⊎_elim, arith}
use Rattle.std.proofs.lemmas.Bool.{cases_Bool, both_ways, and_parts, not-true}
use Rattle.refusals.specs.Answers.{Answer, unless}
use Rattle.refusals.specs.declared.Refusal.{Refusal}
use Rattle.times.specs.Moments.{Moment, earlier}
use Rattle.rules.specs.Meanings.{Meaning, Persists, Afterwards}
use Rattle.refusals.specs.Searches.{or_else, when, same}
use Rattle.plans.specs.Plans.{Plan, letters, rows, test, holds, moment}
use Rattle.plans.specs.Memory.{memory_refusal, MemoryKept}
use Rattle.refusals.proofs.Firsts.{or_none, none_or, or_some, when_none, none_when, when_some, first_none, none_first, first_pair, first_triple, every_true, true_every}
use Rattle.plans.proofs.Memories.{kept_from_none, none_from_kept, memory_names}
use Rattle.offences.specs.Verdicts.{limit_offence, early_offence, breaks, first_break, sees, alike, acts_early, first_early, offence, verdict}
use Rattle.verdicts.specs.Meanings.{Breaks, SeeAlike, Early, Viable, Agrees, Dynamic, Accepted, Refused, in_memory, first_limit, first_ahead, Says, Judged, Placed}
use Rattle.verdicts.proofs.Order.{same_equal, same_moment_equal, equal_same_moment}
use Rattle.verdicts.proofs.Splits.{Split, equal_or_split}

-- what the test of a letter says
tested_seen : (s z h k : Bool) → (same s z && (not s || same h k)) ≡ true → s ≡ z
tested_seen s z h k e = grind arith

tested_held : (s z h k : Bool) → (same s z && (not s || same h k)) ≡ true → s ≡ true → h ≡ k
tested_held s z h k e t = grind arith

seen_tested : (s z h k : Bool) → s ≡ z → (s ≡ true → h ≡ k) → (same s z && (not s || same h k)) ≡ true
seen_tested s z h k e t = grind arith

-- of the tests `x but not y` and `not y but x`
but_none : (x y : Bool) → (x && not y) ≡ false → x ≡ true → y ≡ true
but_none x y e t = grind arith

none_but : (x y : Bool) → (x ≡ true → y ≡ true) → (x && not y) ≡ false
none_but x y e = grind arith

none_also : (x y : Bool) → (not y && x) ≡ false → x ≡ true → y ≡ true
none_also x y e t = grind arith

-- what is seen at a moment is seen at every moment that is not before it
pub still : (m : Meaning) → Persists m → (i : ℕ) (o t u : Moment) → earlier t u ≡ false → m i o u ≡ true → m i o t ≡ true
still m persists i o t u h s = ⊎_elim (persists i o u t s) (λ e. subst (λ v. m i o v ≡ true) (same_equal u t e h) s) (cases_Bool (earlier u t))

module _ (p : Plan) (ts : List Moment) (m : Meaning) where
  -- the tests, and what they say

  broken : (row j : ℕ) → breaks p ts row j ≡ true → Breaks p ts row j
  broken row j e = let both = and_parts _ _ e in record { applying = both.0; broken = not-true _ both.1 }

  unbroken : (row j : ℕ) → breaks p ts row j ≡ false → Breaks p ts row j → ⊥
  unbroken row j e b = both_ways _ b.broken (but_none _ _ e b.applying)

  alike_seen : (a b : ℕ) (t : Moment) → alike p ts m a b t ≡ true → SeeAlike p ts m a b t
  alike_seen a b t e i h =
      let k = every_true (letters p) _ e i h in
      (tested_seen _ _ (holds a i) (holds b i) k, tested_held _ (sees p ts m b t i) _ _ k)

  seen_alike : (a b : ℕ) (t : Moment) → SeeAlike p ts m a b t → alike p ts m a b t ≡ true
  seen_alike a b t s = true_every (letters p) _ (λ i h. seen_tested _ _ (holds a i) (holds b i) (s i h).0 (s i h).1)

  early : (a b x : ℕ) → acts_early p ts m a b x ≡ true → Early p ts m a b x
  early a b x e =
      let both = and_parts _ _ e in
      record { alike = alike_seen a b _ both.1; apart = λ q. both_ways _ (not-true _ both.0) (equal_same_moment _ _ (sym q)) }

  timely : (a b x : ℕ) → acts_early p ts m a b x ≡ false → SeeAlike p ts m a b (moment p ts a x) → moment p ts b x ≡ moment p ts a x
  timely a b x e s = sym (same_moment_equal _ _ (none_also _ _ e (seen_alike a b _ s)))

  -- no limit offence is there exactly when each row keeps its limits

  unbroken_viable : first_break p ts ≡ None → Viable p ts
  unbroken_viable e row j l k = but_none _ _ (when_none _ _ (first_none _ _ (first_none (rows p) _ e row l) j k))

  viable_unbroken : Viable p ts → first_break p ts ≡ None
  viable_unbroken v = none_first (rows p) _ (λ row l. none_first _ _ (λ j k. none_when _ _ (none_but _ _ (v row j l k))))

  -- no early offence is there exactly when each step reacts only to what its row sees

  dynamic_timely : Dynamic p ts m → first_early p ts m ≡ None
  dynamic_timely d = none_first (rows p) _ (λ a la. none_first (rows p) _ (λ b lb. none_first p.points _ (λ x lx. none_when _ _ (elim (cases_Bool (acts_early p ts m a b x)) [ inl e ↦ absurd (let o = early a b x e in o.apart (d a b x la lb lx (λ i h s. sym ((o.alike i h).1 s)))) | inr e ↦ e ]))))

  -- rows that see the same at a step of one of them have that step at one moment
  abbrev Matched : Type 0
  Matched = (a b x : ℕ) → a < rows p → b < rows p → x < p.points → SeeAlike p ts m a b (moment p ts a x) → moment p ts b x ≡ moment p ts a x

  timely_matched : first_early p ts m ≡ None → Matched
  timely_matched e a b x la lb lx = timely a b x (when_none _ _ (first_none _ _ (first_none _ _ (first_none (rows p) _ e a la) b lb) x lx))

  module _ (placed : Placed p) (persists : Persists m) (afterwards : Afterwards m) where
    module _ (a b y : ℕ) (u : Moment) (split : Split p.points (moment p ts a) (moment p ts b) y u) where
      -- what either row sees at the first difference was taken before it
      seen : (i : ℕ) → i < letters p → sees p ts m a u i ≡ sees p ts m b u i
      seen i h =
          ⊎_elim
          (λ e. ap (λ o. m i o u) (split.left (test p i) (placed i h) (afterwards i _ u e)))
          (λ e. ⊎_elim (λ k. ap (λ o. m i o u) (split.right (test p i) (placed i h) (afterwards i _ u k))) (λ k. e ∙ sym k) (cases_Bool (sees p ts m b u i)))
          (cases_Bool (sees p ts m a u i))

      no_split : Matched → a < rows p → b < rows p → Agrees p ts m a b u → ⊥
      no_split matched la lb agrees =
          let there : SeeAlike p ts m a b u = λ i h. (seen i h, λ s. sym (agrees i h s)) in
          let back : SeeAlike p ts m b a u = λ i h. (sym (seen i h), λ s. agrees i h (seen i h ∙ s)) in
          ⊎_elim
          (λ e. split.apart (sym (matched a b y la lb split.below (rw e there))))
          (λ e. split.apart (matched b a y lb la split.below (rw e back)))
          split.meets

    matched_dynamic : Matched → Dynamic p ts m
    matched_dynamic matched a b x la lb lx agrees =
        ⊎_elim
        sym
        (λ s. absurd (no_split a b s.0 s.1 s.2 matched la lb (λ i h e. agrees i h (still m persists i _ _ s.1 s.3 e))))
        (equal_or_split p.points (moment p ts a) (moment p ts b) x lx)

  -- what each refusal names

  break_names : MemoryKept p ts → (r : Refusal) → first_break p ts ≡ Some r → Refused p ts m r
  break_names kept r e =
      let s = first_pair (rows p) (length p.limits) (λ row j. when (breaks p ts row j) (limit_offence row j)) r e in
      let w = when_some _ _ r s.4 in
      subst (Refused p ts m) w.1 (first_limit kept s.0 s.1 s.2 s.3 (broken _ _ w.0) (λ t i h before. unbroken t i (when_none _ _ (s.5 t i h before))))

  early_names : MemoryKept p ts → Viable p ts → (r : Refusal) → first_early p ts m ≡ Some r → Refused p ts m r
  early_names kept viable r e =
      let s = first_triple (rows p) (rows p) p.points (λ a b x. when (acts_early p ts m a b x) (early_offence a b x)) r e in
      let w = when_some _ _ r s.6 in
      subst (Refused p ts m) w.1 (first_ahead kept viable s.0 s.1 s.2 s.3 s.4 s.5 (early _ _ _ w.0) (λ c d y h l before o. o.apart (timely c d y (when_none _ _ (s.7 c d y h l before)) o.alike)))

  names : (r : Refusal) → memory_refusal p ts ≡ None → offence p ts m ≡ Some r → Refused p ts m r
  names r k e =
      let kept = kept_from_none p ts k in
      elim (or_some (first_break p ts) _ r e) [ inl b ↦ break_names kept r b | inr b ↦ early_names kept (unbroken_viable b.0) r b.1 ]

  -- of an answer by a search: accepted where it finds nothing, and else what it names
  says_of : (o : Option Refusal) → (o ≡ None → Accepted p ts m) → ((r : Refusal) → o ≡ Some r → Refused p ts m r) → Says p ts m (unless o tt)
  says_of None none some = none refl
  says_of (Some r) none some = some r refl

  abbrev found : Option Refusal
  found = or_else (memory_refusal p ts) (offence p ts m)

  refuses : (r : Refusal) → found ≡ Some r → Refused p ts m r
  refuses r e = elim (or_some (memory_refusal p ts) _ r e) [ inl k ↦ in_memory r (memory_names p ts r k) | inr k ↦ names r k.0 k.1 ]

  accepted_none : Accepted p ts m → found ≡ None
  accepted_none h = none_or (memory_refusal p ts) _ (none_from_kept p ts h.memory) (none_or (first_break p ts) _ (viable_unbroken h.viable) (dynamic_timely h.dynamic))

  none_accepted : Placed p → Persists m → Afterwards m → found ≡ None → Accepted p ts m
  none_accepted placed persists afterwards e =
      let k = or_none (memory_refusal p ts) _ e in
      let o = or_none (first_break p ts) _ k.1 in
      record { memory = kept_from_none p ts k.0; viable = unbroken_viable o.0; dynamic = matched_dynamic placed persists afterwards (timely_matched o.1) }

-- what the verdict says, of any rule with the two laws
pub judged : (p : Plan) (ts : List Moment) (m : Meaning) → Placed p → Persists m → Afterwards m → (a : Answer (Unit {0})) → a ≡ verdict p ts m → Judged p ts m a
judged p ts m placed persists afterwards a q =
    let says = says_of p ts m (found p ts m) (none_accepted p ts m placed persists afterwards) (refuses p ts m) in
    subst (Judged p ts m) (sym q) (record { accepts = (λ e. subst (Says p ts m) e says, λ h. ap (λ o. unless o tt) (accepted_none p ts m h)); says = says })
