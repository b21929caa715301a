-- The answer of a whole table file from those of its parts.
use Rattle.std.proofs.Common.{◌≡◌, ℕ, zero, suc, ◌+◌, ◌-◌, ◌*◌, ◌^◌, ◌<◌, ◌≤◌, Bool, true, false, ltb, List, [], ◌∷◌, length, sym, refl, ap, ◌∙◌, subst, inl, inr, suc-mul, arith, pow_pos}
use Rattle.std.proofs.lemmas.Bool.{le-leb, lt-leb, ltb-true, ltb-false}
use Rattle.refusals.specs.Answers.{Answer, given, refused, unless, refusal_at}
use Rattle.refusals.specs.declared.Refusal.{Refusal}
use Rattle.fields.specs.Fields.{Field, checked, AllKept}
use Rattle.fields.specs.Laid.{passing}
use Rattle.fields.specs.Readings.{end_field}
use Rattle.fields.proofs.Chains.{never, onward, halted, judged}
use Rattle.fields.proofs.Laid.{yes, kept_at, length-laid}
use Rattle.fields.proofs.Readings.{kept_checked, first_checked}
use Rattle.fields.proofs.Readings as readings
use Rattle.times.specs.declared.codings.Kind.{Kind}
use Rattle.times.specs.Coding.{width_of}
use Rattle.times.specs.Moments.{Moment}
use Rattle.refusals.specs.Searches.{when}
use Rattle.heads.specs.declared.Head.{Head}
use Rattle.table_files.specs.Layouts.{table_size, time_place, table_length, header_fields, table_time, row_fields, time_fields, body_fields}
use Rattle.refusals.specs.Rooms.{room_answer}
use Rattle.table_files.specs.Readings.{times_in, counted, end_answer, read_table}
use Rattle.table_files.proofs.Timed.{width_more}

last_number : (r n : ℕ) → 0 < r → 0 < n → (r - 1) * n + (n - 1) + 1 ≡ r * n
last_number zero n h k = absurd (omega arith)
last_number (suc q) n h k = let e : suc q - 1 ≡ q = omega arith in rw e (omega (arith, suc-mul q n))

-- a refusal under a test

refused_when : (b : Bool) (q r : Refusal) → refused r ≡ unless (when b q) (tt {0}) → (b ≡ true) × (r ≡ q)
refused_when true q r e = (refl, cc)
refused_when false q r e = never r tt e

given_when : (b : Bool) (q : Refusal) → yes ≡ unless (when b q) tt → b ≡ false
given_when true q e = never q tt (sym e)
given_when false q e = refl

module _ (kind : Kind) (head : Head) (file : List ℕ) where
  -- a file that has the last time whole reaches to its end
  pub reach : AllKept file (time_fields kind head file) → table_length kind head ≤ length file
  reach h =
      let r = 2 ^ head.letters in
      let n = head.points in
      let some : 0 < n = omega (arith, head.some) in
      let rows : 0 < r = pow_pos head.letters in
      let row = kept_at file (row_fields kind head file) r (r - 1) (omega arith) h in
      let time = kept_at file (λ x. table_time kind head file (r - 1) x ∷ []) n (n - 1) (omega arith) row in
      let last = time.0.there in
      let number = last_number r n rows some in
      let width = width_more kind ((r - 1) * n + (n - 1)) in
      let same : width_of kind * ((r - 1) * n + (n - 1) + 1) ≡ width_of kind * (r * n) = ap (λ i. width_of kind * i) number in
      omega (arith, last, width, same)

module _ (kind : Kind) (head : Head) (file : List ℕ) (room : ℕ) where
  abbrev times : List Moment
  times = times_in kind file (table_size head)

  abbrev whole : Answer ℕ
  whole = counted (read_table kind head file room)

  pub header_stops : (fs : List Field) (r : Refusal) → fs ≡ header_fields kind head → refused r ≡ passing file fs → refused r ≡ whole
  header_stops fs r f e =
      let there = subst (λ fs. refused r ≡ passing file fs) f e in
      ap counted (readings.header_stops file (header_fields kind head) (body_fields kind head file) (table_size head) room times r there)

  module _ (fs : List Field) (f : fs ≡ header_fields kind head) (header : yes ≡ passing file fs) where
    headed : yes ≡ passing file (header_fields kind head)
    headed = subst (λ fs. yes ≡ passing file fs) f header

    module _ (size : ℕ) (e : size ≡ table_size head) where
      pub room_stops : (r : Refusal) → refused r ≡ room_answer room size → refused r ≡ whole
      room_stops r h =
          ap counted (readings.room_stops file (header_fields kind head) (body_fields kind head file) (table_size head) room times headed r (h ∙ ap (room_answer room) e))

      body_is : yes ≡ room_answer room size → checked file (body_fields kind head file) times ≡ read_table kind head file room
      body_is enough =
          readings.body_is file (header_fields kind head) (body_fields kind head file) (table_size head) room times headed (enough ∙ ap (room_answer room) e)

      pub times_stop : (r : Refusal) → yes ≡ room_answer room size → refused r ≡ passing file (time_fields kind head file) → refused r ≡ whole
      times_stop r enough h =
          ap counted (halted file (time_fields kind head file) (end_field file (table_length kind head) ∷ []) tt times r h ∙ body_is enough)

      module _ (enough : yes ≡ room_answer room size) (passed : yes ≡ passing file (time_fields kind head file)) (end : ℕ) (k : end ≡ time_place kind size) where
        reached : table_length kind head + 0 ≤ length file
        reached = let r = reach kind head file (judged file (time_fields kind head file) tt yes passed) in omega arith

        ending : checked file (end_field file (table_length kind head) ∷ []) times ≡ read_table kind head file room
        ending =
            sym (onward file (time_fields kind head file) (end_field file (table_length kind head) ∷ []) tt tt times passed).1 ∙ body_is enough

        at_end : end ≡ table_length kind head
        at_end = k ∙ ap (time_place kind) e

        pub end_stops : (r : Refusal) → refused r ≡ end_answer file end → refused r ≡ whole
        end_stops r h =
            let p = refused_when (ltb end (length file)) (refusal_at 10 end) r h in
            let past = subst (λ n. n < length file) at_end (ltb-true end (length file) p.0) in
            ap refused p.1 ∙ ap (λ n. refused (refusal_at 10 n)) at_end ∙ ap counted (sym (first_checked file (end_field file (table_length kind head) ∷ []) times _ (inl (inr (record { there = reached; broken = lt-leb _ _ past; named = refl })))) ∙ ending)

        pub all_passed : yes ≡ end_answer file end → given size ≡ whole
        all_passed h =
            let within = subst (λ n. length file ≤ n) at_end (ltb-false end (length file) (given_when (ltb end (length file)) (refusal_at 10 end) h)) in
            ap given (e ∙ sym (length-laid _ (table_size head))) ∙ ap counted (sym (kept_checked file (end_field file (table_length kind head) ∷ []) times (record { there = reached; kept = le-leb _ _ within }, tt)) ∙ ending)
