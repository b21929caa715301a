-- How long a plan file is, that what is written is a plan, and what the answer of a writer says.
use Rattle.std.proofs.Common.{◌≡◌, ℕ, zero, suc, ◌+◌, ◌*◌, ◌<◌, ◌≤◌, Bool, true, false, cond, ltb, leb, List, ◌++◌, length, get_or, drop, Some, None, sym, refl, ap, ◌∙◌, subst, arith}
use Rattle.std.specs.List.{AllByRecursion}
use Rattle.std.proofs.lemmas.Bool.{and_parts, leb-true, ltb-true, ltb-false, lt-ltb, le-ltb}
use Rattle.refusals.specs.Answers.{Answer, given, refused, and_then, unless, refusal_at}
use Rattle.refusals.specs.declared.Refusal.{Refusal}
use Rattle.fields.specs.Fields.{number_at, AllKept, JudgedFields}
use Rattle.fields.specs.Laid.{passing}
use Rattle.refusals.specs.Rooms.{room_answer}
use Rattle.fields.proofs.Chains.{checked_judged}
use Rattle.fields.proofs.Laid.{yes, kept_left, kept_right, kept_at}
use Rattle.fields.proofs.Readings.{kept_checked, first_checked}
use Rattle.times.specs.declared.codings.Kind.{Kind}
use Rattle.times.specs.Moments.{Moment}
use Rattle.time_fields.specs.Kinds.{OfKind}
use Rattle.heads.specs.Heads.{IsHead}
use Rattle.plans.specs.Memory.{many_refusal, limit_refusal, limits_refusal, LimitKept, LimitsRefused, LimitsSay, too_many_limits, unfitting, unbounded}
use Rattle.plans.specs.Plans.{Plan}
use Rattle.refusals.specs.Searches.{or_else}
use Rattle.plans.specs.declared.limits.Limit.{Limit}
use Rattle.refusals.proofs.Firsts.{first_found, none_first}
use Rattle.plans.proofs.Memories.{limits_say, none_from_limits}
use Rattle.plans.proofs.Views.{first_rule, second_rule, both_rules}
use Rattle.plan_records.specs.Names.{name_fields, name_place, names_fields, run_fields}
use Rattle.plan_contents.specs.Contents.{Contents, IsNames, IsPlan, plan_in, plan_bytes, plan_length}
use Rattle.plan_contents.specs.Writings.{write_plan, left_by, written, IsWritten, WriteRefused, in_memory, in_names, no_room, WriteSays, RefusedExactly}

-- names that are kept are names

module _ (names : List ℕ) (n : ℕ) (kept : AllKept names (run_fields names n)) where
  named : (i : ℕ) → i < n → AllKept names (name_fields names 0 i (name_place names 0 i))
  named i l =
      kept_at names (λ i. name_fields names 0 i (name_place names 0 i)) n i l (kept_left names (names_fields names 0 n) _ kept)

  full : length names ≡ name_place names 0 n
  full =
      let end = (kept_right names (names_fields names 0 n) _ kept).0 in
      omega (arith, end.there, leb-true (length names) (name_place names 0 n) end.kept)

  pub names_are : IsNames n names
  names_are = record { each = named; full = full }

  -- a name takes at most 17 bytes
  short_name : (i : ℕ) → i < n → get_or names (name_place names 0 i) 0 ≤ 16
  short_name i l =
      let at : name_place names 0 i + 0 ≡ name_place names 0 i = omega arith in
      let value = number_at names (name_place names 0 i) 1 in
      let most = leb-true value 16 (and_parts (leb 1 value) (leb value 16) (named i l).0.kept).1 in
      omega (arith, most, ap (λ k. get_or names k 0) at)

  short : (i : ℕ) → i ≤ n → name_place names 0 i ≤ 17 * i
  short zero l = omega arith
  short (suc i) l = omega (arith, short i (omega arith), short_name i (omega arith))

  pub names_short : length names ≤ 17 * n
  names_short = omega (arith, full, short n (omega arith))

-- what is refused of limits, from what is said of them

module _ (p : Plan) where
  kept_limit : (j : ℕ) → LimitKept p j → limit_refusal p j ≡ None
  kept_limit j k = sym (both_rules _ _ _ _ (sym k.fitting) (sym k.bounded))

  first_limit : length p.limits ≤ 256 → (j : ℕ) → j < length p.limits → ((i : ℕ) → i < j → LimitKept p i) → (r : Refusal) → limit_refusal p j ≡ Some r → or_else (many_refusal p) (limits_refusal p) ≡ Some r
  first_limit few j l before r e =
      rw (le-ltb 256 (length p.limits) few) (first_found (limit_refusal p) (length p.limits) j r l (none_first j (limit_refusal p) (λ i h. kept_limit i (before i h))) e)

  limits_refused : (r : Refusal) → LimitsRefused p r → or_else (many_refusal p) (limits_refusal p) ≡ Some r
  limits_refused r (too_many_limits l) = rw (lt-ltb 256 (length p.limits) l)
  limits_refused r (unfitting few j l before bad) = first_limit few j l before r (sym (first_rule _ _ _ _ (sym bad)))
  limits_refused r (unbounded few j l before fit bad) =
      first_limit few j l before r (sym (second_rule _ _ _ _ (sym fit) (sym bad)))

-- what the answer says

module _ (kind : Kind) (c : Contents) where
  abbrev memory_answer : Answer (Unit {0})
  memory_answer = unless (or_else (many_refusal (plan_in c)) (limits_refusal (plan_in c))) tt

  abbrev names_answer : Answer (Unit {0})
  names_answer = passing c.names (run_fields c.names c.head.points)

  module _ (room : ℕ) where
    in_words : (memory names : Answer (Unit {0})) (short : Bool) → LimitsSay (plan_in c) memory → JudgedFields c.names (run_fields c.names c.head.points) names → ltb room (plan_length kind c) ≡ short → WriteSays kind c room (and_then memory (λ _. and_then names (λ _. and_then (cond short (refused (refusal_at 11 (plan_length kind c))) yes) (λ _. given (plan_length kind c)))))
    in_words (refused r) names short m n t = in_memory r m
    in_words (given u) (refused r) short m n t = in_names r m n
    in_words (given u) (given v) true m n t = no_room m n (ltb-true room (plan_length kind c) t)
    in_words (given u) (given v) false m n t =
        record { limits = m; names = n; room_for = ltb-false room (plan_length kind c) t; size = refl }

    write_says : WriteSays kind c room (write_plan kind c room)
    write_says =
        in_words memory_answer names_answer (ltb room (plan_length kind c)) (limits_say (plan_in c) _ refl) (checked_judged c.names (run_fields c.names c.head.points) (tt {0})) refl

    pub answer_says : (a : Answer ℕ) → a ≡ write_plan kind c room → WriteSays kind c room a
    answer_says a e = subst (WriteSays kind c room) (sym e) write_says

    -- what is written is a plan
    pub is_plan : (n : ℕ) → IsHead c.head → AllByRecursion (λ (l : Limit Moment). OfKind kind l.bound) c.limits → IsWritten kind c room n → IsPlan kind c
    is_plan n head coded says =
        record { head = head; limits = says.limits; names = names_are c.names c.head.points says.names; of_kind = coded }

    refused_is : (r : Refusal) → WriteRefused kind c room r → write_plan kind c room ≡ refused r
    refused_is r (in_memory q h) = rw (limits_refused (plan_in c) q h)
    refused_is r (in_names q m h) =
        let named : names_answer ≡ refused q = first_checked c.names (run_fields c.names c.head.points) tt q h in
        rw (none_from_limits (plan_in c) m, named)
    refused_is r (no_room m k l) =
        let named : names_answer ≡ yes = kept_checked c.names (run_fields c.names c.head.points) tt k in
        rw (none_from_limits (plan_in c) m, named, lt-ltb room (plan_length kind c) l)

    pub refuses_exactly : (r : Refusal) → RefusedExactly kind c room r
    refuses_exactly r = record { only = λ e. answer_says (refused r) (sym e); always = refused_is r }
