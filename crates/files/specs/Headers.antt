-- The headers of plan files and table files.
use Rattle.std.specs.Prelude.{ℕ, ◌+◌, cond, List, [], ◌∷◌, ◌++◌, length, ◌==◌}
use Rattle.refusals.specs.Answers.{Answer, refusal_at}
use Rattle.refusals.specs.declared.Refusal.{Refusal}
use Rattle.times.specs.Coding.{version_of}
use Rattle.times.specs.declared.codings.Kind.{Kind}
use Rattle.times.specs.declared.codings.Kind.TheVariants.{Whole, Fine}
use Rattle.files.specs.declared.headers.PlanHeader.{PlanHeader}
use Rattle.files.specs.declared.headers.HeaderFault.{HeaderFault}
use Rattle.files.specs.declared.headers.HeaderFault.TheVariants as fault
use Rattle.fields.specs.Fields.{Field, number_at, checked, mark_field, version_field, count_field, figure_field}

-- the refusal of each fault: its number and its place
abbrev pub header_refusal : HeaderFault → Refusal
header_refusal (fault.Ended length) = refusal_at 1 length
header_refusal fault.Mark = refusal_at 2 0
header_refusal fault.Version = refusal_at 3 3
header_refusal (fault.Count place) = refusal_at 4 place
header_refusal (fault.Figure place) = refusal_at 5 place

-- the kind that a number names as a version, where it names one
abbrev pub kind_at : ℕ → Kind
kind_at n = cond (n == 1) Whole Fine

abbrev pub plan_mark : ℕ
plan_mark = 0x44504E

abbrev pub table_mark : ℕ
table_mark = 0x52554E

-- a mark and a version from least to most
abbrev pub start_fields : ℕ → ℕ → ℕ → List Field
start_fields mark least most = mark_field mark ∷ version_field least most ∷ []

-- the kind of a file, and the place after its version
abbrev pub start : List ℕ → ℕ → Answer (Kind × ℕ)
start file mark = checked file (start_fields mark 1 2) (kind_at (number_at file 3 2), 5)

-- the place after the version of a file of one kind
abbrev pub start_of : List ℕ → ℕ → Kind → Answer ℕ
start_of file mark kind = checked file (start_fields mark (version_of kind) (version_of kind)) 5

abbrev pub plan_starts : List Field
plan_starts = start_fields plan_mark 1 2

-- the same for one kind
abbrev pub plan_starts_of : Kind → List Field
plan_starts_of kind = start_fields plan_mark (version_of kind) (version_of kind)

abbrev pub table_starts : Kind → List Field
table_starts kind = start_fields table_mark (version_of kind) (version_of kind)

-- the numbers of points, tests and limits, from a place on
abbrev pub count_fields : ℕ → List Field
count_fields at = count_field at 1 1 48 ∷ count_field (at + 1) 1 0 6 ∷ count_field (at + 2) 2 0 256 ∷ []

abbrev pub counts_in : List ℕ → ℕ → ℕ × ℕ × ℕ
counts_in file at = (number_at file at 1, number_at file (at + 1) 1, number_at file (at + 2) 2)

-- r and d, from a place on
abbrev pub figure_fields : ℕ → List Field
figure_fields at = figure_field at ∷ figure_field (at + 4) ∷ []

abbrev pub figures_in : List ℕ → ℕ → ℕ × ℕ
figures_in file at = (number_at file at 4, number_at file (at + 4) 4)

-- the fields of a plan's header: mark, version, points, tests, limits, r and d
abbrev pub plan_fields : List Field
plan_fields = plan_starts ++ (count_fields 5 ++ figure_fields 9)

-- the same for a plan of one kind
abbrev pub plan_fields_of : Kind → List Field
plan_fields_of kind = plan_starts_of kind ++ (count_fields 5 ++ figure_fields 9)

-- the plan's numbers of points and tests, from a place on
abbrev pub same_count_fields : PlanHeader → ℕ → List Field
same_count_fields plan at =
    count_field at 1 plan.points plan.points ∷ count_field (at + 1) 1 plan.tests plan.tests ∷ []

-- those of a table's header: its mark, and the plan's version, points and tests
abbrev pub table_fields : PlanHeader → List Field
table_fields plan = table_starts plan.version ++ same_count_fields plan 5

-- what stands at the fields' places
abbrev pub header_in : List ℕ → PlanHeader
header_in file =
    record { version = kind_at (number_at file 3 2); points = number_at file 5 1; tests = number_at file 6 1; limits = number_at file 7 2; round = number_at file 9 4; delay = number_at file 13 4 }

abbrev pub plan_header : List ℕ → Answer PlanHeader
plan_header file = checked file plan_fields (header_in file)

abbrev pub plan_header_of : List ℕ → Kind → Answer PlanHeader
plan_header_of file kind = checked file (plan_fields_of kind) (header_in file)

abbrev pub table_header : List ℕ → PlanHeader → Answer (Unit {0})
table_header file plan = checked file (table_fields plan) tt
