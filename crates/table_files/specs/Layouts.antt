-- The layout of a table file: mark, version, numbers of points and tests, the times by row and point, and the end.
use Rattle.std.specs.Prelude.{ℕ, ◌+◌, ◌*◌, ◌^◌, List, [], ◌∷◌, ◌++◌}
use Rattle.fields.specs.Fields.{Field, mark_field, version_field, count_field}
use Rattle.fields.specs.Laid.{laid}
use Rattle.fields.specs.Readings.{end_field}
use Rattle.files.specs.Headers.{table_mark}
use Rattle.times.specs.declared.codings.Kind.{Kind}
use Rattle.times.specs.Coding.{version_of, width_of, time_at}
use Rattle.plans.specs.Memory.{allowed}
use Rattle.plans.specs.Plans.{size_for, place_for}
use Rattle.heads.specs.declared.Head.{Head}

abbrev pub table_size : Head → ℕ
table_size head = size_for head.points head.letters

-- where the time with a number starts
abbrev pub time_place : Kind → ℕ → ℕ
time_place kind i = 7 + width_of kind * i

-- the fields of a table of so many points and tests
module _ (kind : Kind) (n k : ℕ) where
  -- 1; 2, 3 and 4: mark, the kind's version, the plan's numbers of points and tests
  abbrev pub header_fields_for : List Field
  header_fields_for =
      mark_field table_mark ∷ version_field (version_of kind) (version_of kind) ∷ count_field 5 1 n n ∷ count_field 6 1 k k ∷ []

  module _ (file : List ℕ) where
    -- 1, 9: the time of a point in a row, whose rule is one of the moment at its place
    abbrev pub time_for : ℕ → ℕ → Field
    time_for row x =
        let place = time_place kind (place_for n row x) in
        record { from = place; width = width_of kind; number = 9; keeps = λ _. allowed x (time_at kind file place) }

    abbrev pub row_for : ℕ → List Field
    row_for row = laid n (λ x. time_for row x ∷ [])

    abbrev pub times_for : List Field
    times_for = laid (2 ^ k) row_for

    -- what follows the header: the times, and the end
    abbrev pub body_for : List Field
    body_for = times_for ++ (end_field file (time_place kind (size_for n k)) ∷ [])

-- the same for the head of a plan
module _ (kind : Kind) (head : Head) where
  -- where the last time ends
  abbrev pub table_length : ℕ
  table_length = time_place kind (table_size head)

  abbrev pub header_fields : List Field
  header_fields = header_fields_for kind head.points head.letters

  module _ (file : List ℕ) where
    abbrev pub table_time : ℕ → ℕ → Field
    table_time = time_for kind head.points head.letters file

    abbrev pub row_fields : ℕ → List Field
    row_fields = row_for kind head.points head.letters file

    abbrev pub time_fields : List Field
    time_fields = times_for kind head.points head.letters file

    abbrev pub body_fields : List Field
    body_fields = body_for kind head.points head.letters file
