-- The records of a plan file, which follow its header: names, tests and limits, by number.
use Rattle.std.specs.Prelude.{ℕ, zero, suc, ◌+◌, ◌-◌, ◌^◌, cond, List, [], ◌∷◌, take, drop, Some, None, Option, nat_lt, slice_index}
use Rattle.fields.specs.Fields.{Field}
use Rattle.fields.specs.Readings.{end_field}
use Rattle.times.specs.declared.codings.Kind.{Kind}
use Rattle.times.specs.Coding.{width_of, time_at}
use Rattle.times.specs.Moments.{Moment, bound_rule}
use Rattle.heads.specs.Heads.{outline, is_test}
use Rattle.plans.specs.Memory.{fitting}
use Rattle.plans.specs.declared.limits.Limit.{Limit}
use Rattle.files.specs.declared.headers.PlanHeader.{PlanHeader}
use Rattle.plan_records.specs.Names.{name_size, name_fields}

-- what a record is, or the end after the last one
pub data Sort : Type 0 where
  a_name : Sort
  a_test : Sort
  a_limit : Sort
  the_end : Sort

-- a record as its part of the file
pub data Part : Type 0 where
  name : List ℕ → Part
  test : List ℕ → Part
  limit : List ℕ → Part

-- the first record starts after the header
abbrev pub first_place : ℕ
first_place = 17

abbrev pub part_from : List ℕ → ℕ → ℕ → List ℕ
part_from file at size = take size (drop at file)

-- a limit: two points, letters wanted true and wanted false, and the bound
abbrev pub limit_in : Kind → List ℕ → ℕ → Limit Moment
limit_in kind file at =
    record { from = slice_index file at; to = slice_index file (at + 1); wanted = slice_index file (at + 2); unwanted = slice_index file (at + 3); bound = time_at kind file (at + 4) }

-- how many bytes a limit takes: two points, two sets of letters and a bound
abbrev pub limit_width : Kind → ℕ
limit_width kind = 4 + width_of kind

module _ (header : PlanHeader) where
  abbrev pub kind : Kind
  kind = header.version

  -- the names come first, then the tests, then the limits
  abbrev pub record_count : ℕ
  record_count = header.points + header.tests + header.limits

  abbrev pub sort_of : ℕ → Sort
  sort_of r =
      cond (nat_lt r header.points) a_name (cond (nat_lt r (header.points + header.tests)) a_test (cond (nat_lt r record_count) a_limit the_end))

  module _ (file : List ℕ) where
    -- 1, 7: test i, whose byte follows those of the tests before it
    abbrev pub test_field : ℕ → ℕ → Field
    test_field i at =
        record { from = at; width = 1; number = 7; keeps = λ _. is_test (outline header.points (drop (at - i) file) 0 0) i }

    -- 1, 8: points and letters of a limit
    abbrev pub fitting_field : ℕ → Field
    fitting_field at =
        record { from = at; width = 4; number = 8; keeps = λ _. fitting header.points (2 ^ header.tests) (limit_in kind file at) }

    -- 1, 9: the bound of a limit
    abbrev pub bound_field : ℕ → Field
    bound_field at =
        record { from = at; width = width_of kind; number = 9; keeps = λ _. bound_rule (time_at kind file at) }

    abbrev pub fields_of : Sort → ℕ → ℕ → List Field
    fields_of a_name r at = name_fields file first_place r at
    fields_of a_test r at = test_field (r - header.points) at ∷ []
    fields_of a_limit r at = fitting_field at ∷ bound_field (at + 4) ∷ []
    fields_of the_end r at = end_field file at ∷ []

    -- how many bytes a record takes
    abbrev pub size_of : Sort → ℕ → ℕ
    size_of a_name at = name_size file at
    size_of a_test at = 1
    size_of a_limit at = limit_width kind
    size_of the_end at = 0

    -- a record at a place, and none at the end
    abbrev pub part_of : Sort → ℕ → Option Part
    part_of a_name at = Some (name (part_from file at (size_of a_name at)))
    part_of a_test at = Some (test (part_from file at (size_of a_test at)))
    part_of a_limit at = Some (limit (part_from file at (size_of a_limit at)))
    part_of the_end at = None

    -- each record starts where the one before it ends
    abbrev pub record_place : ℕ → ℕ
    record_place zero = first_place
    record_place (suc r) = record_place r + size_of (sort_of r) (record_place r)

    -- the fields of the record with a number, or of the end
    abbrev pub record_fields : ℕ → List Field
    record_fields r = fields_of (sort_of r) r (record_place r)
