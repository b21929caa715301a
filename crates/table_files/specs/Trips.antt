-- Table files and tables determine each other.
use Rattle.std.specs.Prelude.{◌≡◌, ℕ, ◌^◌, ◌<◌, ◌≤◌, List, ◌++◌, length, take, drop}
use Rattle.std.specs.List.{AllByRecursion}
use Rattle.refusals.specs.Answers.{Answer, given, refused}
use Rattle.times.specs.declared.codings.Kind.{Kind}
use Rattle.times.specs.Moments.{Moment}
use Rattle.time_fields.specs.Kinds.{OfKind}
use Rattle.plans.specs.Memory.{TimesKept}
use Rattle.heads.specs.declared.Head.{Head}
use Rattle.table_files.specs.Layouts.{table_size, time_place}
use Rattle.table_files.specs.Readings.{times_in, read_table, ReadSays, RefusesExactly}
use Rattle.table_files.specs.Writings.{bare, table_bytes, write_table, written}

-- times that keep the rules of a table, and that the kind can hold
pub record IsTable (kind : Kind) (head : Head) (ts : List Moment) : Type 0 where
  pub kept : TimesKept (bare head) ts
  pub of_kind : AllByRecursion (OfKind kind) ts

pub record IsFileOf (kind : Kind) (head : Head) (room : ℕ) (ts : List Moment) (file : List ℕ) : Type 0 where
  pub bytes : file ≡ table_bytes kind head ts
  pub table : IsTable kind head ts
  pub room_for : table_size head ≤ room

module _ (kind : Kind) (head : Head) (file : List ℕ) (room : ℕ) where
  -- a file is read with times exactly when it is their file, and they are a table that the array has room for
  pub record Exactly (ts : List Moment) : Type 0 where
    pub only : read_table kind head file room ≡ given ts → IsFileOf kind head room ts file
    pub always : IsFileOf kind head room ts file → read_table kind head file room ≡ given ts

  -- what is read and then written gives the same bytes
  pub record Rewritten (ts : List Moment) : Type 0 where
    pub answer : (out : List ℕ) → length file ≤ length out → write_table kind head ts (length out) ≡ given (length file)
    pub bytes : (out : List ℕ) → length file ≤ length out → written kind head ts out ≡ file ++ drop (length file) out

  abbrev pub ReadExactly : Type 0
  ReadExactly = (ts : List Moment) → Exactly ts

  abbrev pub WritesBack : Type 0
  WritesBack = (ts : List Moment) → read_table kind head file room ≡ given ts → Rewritten ts

-- what is known of a file once it is checked, before a time is stored
pub record Checked (kind : Kind) (head : Head) (file : List ℕ) (room : ℕ) (a : Answer ℕ) : Type 0 where
  pub says : ReadSays kind head file room a
  pub refuses : RefusesExactly kind head file room
  pub exact : ReadExactly kind head file room
  pub back : WritesBack kind head file room

-- a file that is read has its times, and the array has room for them
abbrev pub Ready : Kind → Head → List ℕ → ℕ → Answer ℕ → Type 0
Ready kind head file room (given n) =
    (n < 2 ^ 32) × (n ≤ room) × (time_place kind n ≤ length file) × (read_table kind head file room ≡ given (times_in kind file n))
Ready kind head file room (refused r) = Unit {0}

-- what is written and then read gives the same times
abbrev pub ReadsBack : Kind → Head → List Moment → List ℕ → Answer ℕ → Type 0
ReadsBack kind head ts file (given n) = (room : ℕ) → table_size head ≤ room → read_table kind head (take n file) room ≡ given ts
ReadsBack kind head ts file (refused r) = Unit {0}
