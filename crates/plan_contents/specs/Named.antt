-- The names of a plan file.
use Rattle.std.specs.Prelude.{ℕ, ◌+◌, cond, List, Some, None, Option, nat_lt, slice_index}
use Rattle.refusals.specs.Answers.{Answer, given, and_then}
use Rattle.fields.specs.Fields.{checked}
use Rattle.fields.specs.Laid.{laid, passing}
use Rattle.files.specs.Headers.{plan_fields_of}
use Rattle.times.specs.declared.codings.Kind.{Kind}
use Rattle.plan_records.specs.Records.{part_from, record_fields}
use Rattle.plan_contents.specs.Readings.{header, place, names_in}

module _ (file : List ℕ) where
  -- the bytes of a point's name, which follow its length byte
  abbrev pub name_in : ℕ → List ℕ
  name_in x = part_from file (place file x + 1) (slice_index file (place file x))

  module _ (kind : Kind) where
    -- the header, and then the names
    abbrev pub names_answer : Answer (List ℕ)
    names_answer =
        and_then (passing file (plan_fields_of kind)) (λ _. checked file (laid (header file).points (record_fields (header file) file)) (names_in file))

    -- the header, and then the names up to that of the point
    abbrev pub name_answer : ℕ → Answer (Option (List ℕ))
    name_answer x =
        and_then (passing file (plan_fields_of kind)) (λ _. cond (nat_lt x (header file).points) (checked file (laid (x + 1) (record_fields (header file) file)) (Some (name_in x))) (given None))
