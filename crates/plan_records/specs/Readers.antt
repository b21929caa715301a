-- What a reader gives and where it stands.
use Rattle.std.specs.Prelude.{◌≡◌, ℕ, zero, suc, ◌+◌, List, [], ◌++◌, drop, Some, None, Ok, Err, Option, Result}
use Rattle.refusals.specs.Answers.{Answer, given, refused}
use Rattle.fields.specs.Fields.{checked}
use Rattle.plan_records.specs.Records.{Part, name, test, limit, sort_of, fields_of, size_of, part_of, first_place, record_place}
use Rattle.files.specs.declared.headers.HeaderFault.{HeaderFault}
use Rattle.files.specs.declared.headers.PlanHeader.{PlanHeader}
use Rattle.plan_records.specs.declared.readers.Reader.{Reader}
use Rattle.plan_records.specs.declared.readers.Record.{Record}
use Rattle.plan_records.specs.declared.readers.Record.TheVariants as rec

-- a record, by the bytes that it shows
abbrev pub shown : Record → Part
shown (rec.Name part) = name part.now
shown (rec.Test part) = test part.now
shown (rec.Limit part) = limit part.now

module _ (r : Reader) where
  -- the record at the reader's place, or none at the end, or the first refusal there
  abbrev pub next_answer : Answer (Option Part)
  next_answer =
      checked r.file.now (fields_of r.header r.file.now (sort_of r.header r.taken) r.taken r.place) (part_of r.header r.file.now (sort_of r.header r.taken) r.place)

  -- a record that is given is passed; a refusal and the end leave the reader where it is
  abbrev pub after : Answer (Option Part) → Reader
  after (given (Some part)) =
      record { file = r.file; header = r.header; taken = r.taken + 1; place = r.place + size_of r.header r.file.now (sort_of r.header r.taken) r.place }
  after (given None) = r
  after (refused why) = r

abbrev pub bytes_of : Part → List ℕ
bytes_of (name part) = part
bytes_of (test part) = part
bytes_of (limit part) = part

abbrev pub given_bytes : Answer (Option Part) → List ℕ
given_bytes (given (Some part)) = bytes_of part
given_bytes (given None) = []
given_bytes (refused why) = []

-- a reader after so many reads, and the bytes of the records that they gave
module _ (r : Reader) where
  abbrev pub read_on : ℕ → Reader
  read_on zero = r
  read_on (suc n) = after (read_on n) (next_answer (read_on n))

  abbrev pub records_read : ℕ → List ℕ
  records_read zero = []
  records_read (suc n) = records_read n ++ given_bytes (next_answer (read_on n))

  -- once a read says that there is no more record, the records laid end to end are the file after its header
  abbrev pub RecordsAreTheFile : Type 0
  RecordsAreTheFile = (n : ℕ) → next_answer (read_on n) ≡ given None → records_read n ≡ drop first_place r.file.now

-- a reader before the record with a number
abbrev pub stood : Reader → ℕ → Reader
stood r i = record { file = r.file; header = r.header; taken = i; place = record_place r.header r.file.now i }

abbrev pub opened_header : Reader → PlanHeader
opened_header r = r.header

-- a reader that is opened stands at the first record
abbrev pub Opened : List ℕ → Result Reader HeaderFault → Type 0
Opened file (Ok r) = (r.file.now ≡ file) × (r.taken ≡ 0) × (r.place ≡ first_place) × RecordsAreTheFile r
Opened file (Err fault) = Unit {0}
