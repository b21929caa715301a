-- The bytes of a table, and what writing them gives.
use Rattle.std.specs.Prelude.{◌≡◌, ℕ, ◌<◌, ◌≤◌, List, [], ◌∷◌, ◌++◌, length, drop, Option, nat_lt}
use Rattle.std.specs.List.{flat_map}
use Rattle.refusals.specs.Answers.{Answer, given, refused, unless, refusal_at}
use Rattle.refusals.specs.declared.Refusal.{Refusal}
use Rattle.times.specs.declared.codings.Kind.{Kind}
use Rattle.times.specs.Coding.{version_of, time_bytes}
use Rattle.times.specs.Moments.{Moment}
use Rattle.refusals.specs.Searches.{or_else, when}
use Rattle.plans.specs.Plans.{Plan}
use Rattle.heads.specs.Heads.{tests_of}
use Rattle.plans.specs.Memory.{memory_refusal, TimesKept, MemoryRefused}
use Rattle.heads.specs.declared.Head.{Head}
use Rattle.table_files.specs.Layouts.{table_length}

-- a head as a plan without limits, of which memory can refuse the times alone
abbrev pub bare : Head → Plan
bare head = record { points = head.points; tests = tests_of head; limits = [] }

module _ (kind : Kind) (head : Head) where
  abbrev pub header_bytes : List ℕ
  header_bytes = 0x52 ∷ 0x55 ∷ 0x4E ∷ 0 ∷ version_of kind ∷ head.points ∷ head.letters ∷ []

  module _ (ts : List Moment) where
    abbrev pub table_bytes : List ℕ
    table_bytes = header_bytes ++ flat_map (time_bytes kind) ts

    -- 4 and 9 as in memory, and then 11 with the file's length
    abbrev pub write_refusal : ℕ → Option Refusal
    write_refusal room =
        or_else (memory_refusal (bare head) ts) (when (nat_lt room (table_length kind head)) (refusal_at 11 (table_length kind head)))

    abbrev pub write_table : ℕ → Answer ℕ
    write_table room = unless (write_refusal room) (table_length kind head)

    -- the file, and what lay past it; or all as it was
    abbrev pub left_by : Answer ℕ → List ℕ → List ℕ
    left_by (given n) out = table_bytes ++ drop n out
    left_by (refused r) out = out

    -- what an array of bytes holds afterwards
    abbrev pub written : List ℕ → List ℕ
    written out = left_by (write_table (length out)) out

    -- the same in words

    pub record IsWritten (room n : ℕ) : Type 0 where
      pub kept : TimesKept (bare head) ts
      pub room_for : table_length kind head ≤ room
      pub size : n ≡ table_length kind head

    -- what is named breaks its rule, and nothing before it does
    pub data WriteRefused (room : ℕ) : Refusal → Type 0 where
      in_memory : (r : Refusal) → MemoryRefused (bare head) ts r → WriteRefused room r
      no_room : TimesKept (bare head) ts → room < table_length kind head → WriteRefused room (refusal_at 11 (table_length kind head))

    abbrev pub WriteSays : ℕ → Answer ℕ → Type 0
    WriteSays room (given n) = IsWritten room n
    WriteSays room (refused r) = WriteRefused room r
