-- What reading a plan file gives and stores.
use Rattle.std.specs.Prelude.{◌≡◌, ℕ, ◌+◌, ◌-◌, List, [], ◌∷◌, ◌++◌, map, length, take, drop, slice_index}
use Rattle.refusals.specs.Answers.{Answer, given, refused, and_then}
use Rattle.refusals.specs.declared.Refusal.{Refusal}
use Rattle.fields.specs.Fields.{Field}
use Rattle.fields.specs.Laid.{laid}
use Rattle.fields.specs.Readings.{end_field, read_file, ReadSays, RefusedExactly}
use Rattle.times.specs.declared.codings.Kind.{Kind}
use Rattle.times.specs.Moments.{Moment}
use Rattle.heads.specs.Heads.{outline, outline_of}
use Rattle.plans.specs.Views.{limit_of}
use Rattle.heads.specs.declared.Head.{Head}
use Rattle.plans.specs.declared.limits.Limit.{Limit}
use Rattle.files.specs.Headers.{header_in, plan_fields_of}
use Rattle.files.specs.declared.headers.PlanHeader.{PlanHeader}
use Rattle.plan_records.specs.Records.{first_place, part_from, record_count, record_place, record_fields, limit_in}
use Rattle.plan_contents.specs.Contents.{Contents, contents}

module _ (file : List ℕ) where
  abbrev pub header : PlanHeader
  header = header_in file

  -- where the record with a number starts
  abbrev pub place : ℕ → ℕ
  place = record_place header file

  -- the records in their order, and then the end
  abbrev pub body_fields : List Field
  body_fields = laid (record_count header) (record_fields header file) ++ (end_field file (place (record_count header)) ∷ [])

  -- the bytes of the names
  abbrev pub names_in : List ℕ
  names_in = part_from file first_place (place header.points - first_place)

  abbrev pub tests_in : List ℕ
  tests_in = laid header.tests (λ i. slice_index file (place (header.points + i)) ∷ [])

  abbrev pub limits_in : Kind → List (Limit Moment)
  limits_in kind = laid header.limits (λ j. limit_in kind file (place (header.points + header.tests + j)) ∷ [])

  abbrev pub contents_in : Kind → Contents
  contents_in kind =
      contents (outline header.points tests_in header.round header.delay) (limits_in kind) names_in

module _ (kind : Kind) (file : List ℕ) (room : ℕ) where
  -- the header; then the room for its limits; then the records and the end
  abbrev pub read_plan : Answer Contents
  read_plan =
      read_file file (plan_fields_of kind) (body_fields file) (header file).limits room (contents_in file kind)

  abbrev pub PlanSays : {X : Type 0} → Answer X → Type 0
  PlanSays a = ReadSays file (plan_fields_of kind) (body_fields file) (header file).limits room a

  abbrev pub RefusesExactly : Type 0
  RefusesExactly =
      (r : Refusal) → RefusedExactly file (plan_fields_of kind) (body_fields file) (header file).limits room read_plan r

-- how many limits there are
abbrev pub limit_count : Answer Contents → Answer ℕ
limit_count a = and_then a (λ c. given (length c.limits))

module _ {X : Type 0} (of : X → Moment) (names : List ℕ) where
  -- what an answer leaves in the head and the array: what is read, and past the limits what was there; or all as it was
  abbrev pub Filled : Answer Contents → (head_before head_after : Head) → (before after : List (Limit X)) → Answer ℕ → Type 0
  Filled read hb ha before after (given n) =
      (read ≡ given (contents (outline_of ha) (map (limit_of of) (take n after)) names)) × (drop n after ≡ drop n before)
  Filled read hb ha before after (refused r) = (ha ≡ hb) × (after ≡ before)
