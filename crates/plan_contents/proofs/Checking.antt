-- The answer of a whole plan file from those of its parts.
use Rattle.times.specs.declared.codings.Kind.{Kind}
use Rattle.std.proofs.Common.{◌≡◌, ℕ, ◌+◌, List, sym, ap, ◌∙◌, subst}
use Rattle.refusals.specs.Answers.{Answer, given, refused}
use Rattle.refusals.specs.declared.Refusal.{Refusal}
use Rattle.fields.specs.Laid.{passing}
use Rattle.refusals.specs.Rooms.{room_answer}
use Rattle.fields.specs.Readings.{AllRead}
use Rattle.fields.proofs.Chains.{passed, stopped, judged}
use Rattle.fields.proofs.Laid.{yes, length-laid}
use Rattle.fields.proofs.Readings.{header_stops, room_stops, body_is, room_for}
use Rattle.files.specs.Headers.{header_in, plan_fields_of, plan_header_of}
use Rattle.files.specs.declared.headers.PlanHeader.{PlanHeader}
use Rattle.plan_contents.specs.Readings.{header, body_fields, contents_in, read_plan, limit_count, place}
use Rattle.plan_records.specs.Records.{limit_in}

module _ (kind : Kind) (file : List ℕ) (room : ℕ) where
  abbrev whole : Answer ℕ
  whole = limit_count (read_plan kind file room)

  abbrev FirstFields : Type 0
  FirstFields = yes ≡ passing file (plan_fields_of kind)

  module _ (v : Kind) (e : v ≡ kind) where
    pub open_stops : (r : Refusal) → refused r ≡ plan_header_of file v → refused r ≡ whole
    open_stops r h =
        let there = subst (λ v. refused r ≡ plan_header_of file v) e h in
        ap limit_count (header_stops file (plan_fields_of kind) (body_fields file) (header file).limits room (contents_in file kind) r (stopped file (plan_fields_of kind) (header_in file) tt r there))

    pub opened : (h : PlanHeader) → given h ≡ plan_header_of file v → (h ≡ header file) × FirstFields
    opened h k =
        let there = subst (λ v. given h ≡ plan_header_of file v) e k in
        let p = passed file (plan_fields_of kind) (header_in file) h tt there in
        (p.0, p.1)

  module _ (headed : FirstFields) where
    pub short : (size : ℕ) → size ≡ (header file).limits → (r : Refusal) → refused r ≡ room_answer room size → refused r ≡ whole
    short size q r h =
        ap limit_count (room_stops file (plan_fields_of kind) (body_fields file) (header file).limits room (contents_in file kind) headed r (subst (λ n. refused r ≡ room_answer room n) q h))

    module _ (enough : yes ≡ room_answer room (header file).limits) where
      pub records_stop : (r : Refusal) → refused r ≡ passing file (body_fields file) → refused r ≡ whole
      records_stop r h =
          ap limit_count (stopped file (body_fields file) tt (contents_in file kind) r h ∙ body_is file (plan_fields_of kind) (body_fields file) (header file).limits room (contents_in file kind) headed enough)

      module _ (all : yes ≡ passing file (body_fields file)) where
        pub all_counted : given (header file).limits ≡ whole
        all_counted =
            ap given (sym (length-laid (λ j. limit_in kind file (place file ((header file).points + (header file).tests + j))) (header file).limits)) ∙ ap limit_count ((passed file (body_fields file) tt tt (contents_in file kind) all).1 ∙ body_is file (plan_fields_of kind) (body_fields file) (header file).limits room (contents_in file kind) headed enough)

        pub all_read : AllRead file (plan_fields_of kind) (body_fields file) (header file).limits room
        all_read = record {
          header_kept = judged file (plan_fields_of kind) tt yes headed;
          room_for = room_for room (header file).limits enough;
          body_kept = judged file (body_fields file) tt yes all;
        }
