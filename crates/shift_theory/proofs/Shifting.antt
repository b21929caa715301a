-- What is so of every shifted pair.
use Rattle.std.proofs.Common.{◌≡◌, ℕ, zero, suc, ◌<◌, ◌≤◌, true, ◌↔◌, List, sym, ap, ◌∙◌, subst, arith}
use Rattle.std.proofs.lemmas.Int.{ints}
use Rattle.refusals.specs.Answers.{given}
use Rattle.times.specs.Moments.{Moment}
use Rattle.rules.specs.Meanings.{Meaning, Persists, Afterwards, base_rule, delayed}
use Rattle.rules.specs.Delays.{earlier_trans, delayed_persists, delayed_afterwards}
use Rattle.rules.specs.Histories.{rounds_persist, rounds_afterwards}
use Rattle.plans.specs.Memory.{MemoryKept}
use Rattle.plans.specs.Plans.{Plan, letters, rows, test, moment, keeps}
use Rattle.verdicts.specs.Meanings.{Dynamic, Placed}
use Rattle.offences.specs.Verdicts.{sees, verdict}
use Rattle.shift_theory.specs.Promises.{Small, ExactlyLater, SameNamed, Shifted}
use Rattle.shift_theory.specs.Shifts.{later, shifted_plan, shifted_table}
use Rattle.shift_theory.proofs.Keeping.{in_table, memory_kept}
use Rattle.shift_theory.proofs.Lookups.{test_new, there_limit, back_limit, old_moment, added_moment}
use Rattle.shift_theory.proofs.Moments.{kept_exactly, stays_in_range}
use Rattle.shift_theory.proofs.Verdicts.{delayed_in, accepts, placed_new, same_verdict}

-- the rule below a delay of 0 ticks

base_persists : (round : ℕ) → Persists (base_rule round)
base_persists zero = λ i o t u. earlier_trans o t u
base_persists (suc r) = rounds_persist (suc r) (omega arith)

base_afterwards : (round : ℕ) → Afterwards (base_rule round)
base_afterwards zero = λ i o t e. e
base_afterwards (suc r) = rounds_afterwards (suc r)

later_none : (o : Moment) → later o 0 ≡ o
later_none o = λ i. record { ticks = ticks i; grains = grains i }
  where
    ticks : (later o 0).ticks ≡ o.ticks
    ticks = omega (arith, ints)

    grains : (later o 0).grains ≡ o.grains
    grains = omega (arith, ints)

module _ (p : Plan) (ts : List Moment) (m : Meaning) (placed : Placed p) (memory : MemoryKept p ts) where
  sees_undelayed : (row : ℕ) (t : Moment) (i : ℕ) → row < rows p → i < letters p → sees p ts (delayed 0 m) row t i ≡ sees p ts m row t i
  sees_undelayed row t i l h =
      let o = moment p ts row (test p i) in
      let kept = in_table (test p i) o (memory.times.each row (test p i) l (placed i h)) in
      delayed_in 0 m i o t (stays_in_range o 0 kept (omega arith)) ∙ ap (λ o. m i o t) (later_none o)

  dynamic_delayed : Dynamic p ts m → Dynamic p ts (delayed 0 m)
  dynamic_delayed f a b x la lb lx g = f a b x la lb lx (λ i h s. g i h (sees_undelayed a _ i la h ∙ s))

  dynamic_undelayed : Dynamic p ts (delayed 0 m) → Dynamic p ts m
  dynamic_undelayed f a b x la lb lx g = f a b x la lb lx (λ i h s. g i h (sym (sees_undelayed a _ i la h) ∙ s))

  undelayed : Persists m → Afterwards m → (verdict p ts m ≡ given tt) ↔ (verdict p ts (delayed 0 m) ≡ given tt)
  undelayed persists afterwards =
      let bare = accepts p ts m placed persists afterwards in
      let under = accepts p ts (delayed 0 m) placed (delayed_persists 0 m persists) (delayed_afterwards 0 m afterwards) in (
        λ e. let h = bare.0 e in under.1 (record { memory = memory; viable = h.viable; dynamic = dynamic_delayed h.dynamic }),
        λ e. let h = under.0 e in bare.1 (record { memory = memory; viable = h.viable; dynamic = dynamic_undelayed h.dynamic }),
      )

module _ (p : Plan) (ts : List Moment) (d : ℕ) where
  exactly_later : ExactlyLater p ts d (shifted_plan p d) (shifted_table p ts d)
  exactly_later us row i h there back =
      let keeps_at = keeps (shifted_plan p d) us row in
      rw (test_new p d i h) (kept_exactly (moment (shifted_plan p d) us row (test p i)) _ d (subst (λ l. keeps_at l ≡ true) (there_limit p d i h) there) (subst (λ l. keeps_at l ≡ true) (back_limit p d i h) back))

  module _ (placed : Placed p) (bounded : d ≤ 1000000) (memory : MemoryKept p ts) (small : Small p ts d) where
    same_named : SameNamed p ts d (shifted_plan p d) (shifted_table p ts d)
    same_named round =
        let m = base_rule round in
        let shifts = same_verdict p ts d placed bounded memory small m (base_persists round) (base_afterwards round) in
        let bare = undelayed (shifted_plan p d) (shifted_table p ts d) m (placed_new p ts d placed bounded memory small) (memory_kept p ts d placed bounded memory small) (base_persists round) (base_afterwards round) in
        (λ e. bare.0 (shifts.0 e), λ e. shifts.1 (bare.1 e))

    shifted : Shifted p ts d (shifted_plan p d) (shifted_table p ts d)
    shifted = record {
      memory = memory_kept p ts d placed bounded memory small;
      old = λ row x l h. old_moment p ts d row l x h;
      new = λ row i l h. ap (moment (shifted_plan p d) (shifted_table p ts d) row) (test_new p d i h) ∙ added_moment p ts d row l i h;
      exact = exactly_later;
      verdicts = same_verdict p ts d placed bounded memory small;
      named = same_named;
    }

    -- the same of a plan and a table that are the shifted ones
    pub shifted_as : (q : Plan) (us : List Moment) → q ≡ shifted_plan p d → us ≡ shifted_table p ts d → Shifted p ts d q us
    shifted_as q us e h = subst (λ q. Shifted p ts d q us) (sym e) (subst (λ us. Shifted p ts d (shifted_plan p d) us) (sym h) shifted)
