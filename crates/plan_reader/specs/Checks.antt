-- What is known of a plan file once it is checked, before anything is stored.
use Rattle.times.specs.declared.codings.Kind.{Kind}
use Rattle.std.specs.Prelude.{◌≡◌, ℕ, List, [], ◌∷◌, ◌++◌, Ok, Err, Result}
use Rattle.fields.specs.Fields.{Field}
use Rattle.fields.specs.Laid.{laid}
use Rattle.fields.specs.Readings.{end_field, AllRead}
use Rattle.files.specs.Headers.{plan_fields_of}
use Rattle.files.specs.declared.headers.PlanHeader.{PlanHeader}
use Rattle.plan_records.specs.Records.{record_count, record_fields, record_place}
use Rattle.plan_contents.specs.Readings.{header, body_fields}
use Rattle.plan_reader.specs.declared.faults.PlanFault.{PlanFault}

-- the records that a header counts, and then the end
abbrev pub all_fields : PlanHeader → List ℕ → List Field
all_fields h file = laid (record_count h) (record_fields h file) ++ (end_field file (record_place h file (record_count h)) ∷ [])

-- the header is that of the file, and all of the file is whole and kept
abbrev pub Checked : Kind → List ℕ → ℕ → Result PlanHeader PlanFault → Type 0
Checked kind file room (Ok h) =
    (h ≡ header file) × AllRead file (plan_fields_of kind) (body_fields file) (header file).limits room
Checked kind file room (Err fault) = Unit {0}
