-- Plan files and their contents determine each other.
use Rattle.times.specs.declared.codings.Kind.{Kind}
use Rattle.std.specs.Prelude.{◌≡◌, ℕ, ◌≤◌, List, ◌++◌, length, take, drop}
use Rattle.refusals.specs.Answers.{Answer, given, refused}
use Rattle.plan_contents.specs.Contents.{Contents, IsPlan, plan_bytes}
use Rattle.plan_contents.specs.Readings.{read_plan}
use Rattle.plan_contents.specs.Writings.{write_plan, written}

pub record IsFileOf (kind : Kind) (room : ℕ) (c : Contents) (file : List ℕ) : Type 0 where
  pub bytes : file ≡ plan_bytes kind c
  pub plan : IsPlan kind c
  pub room_for : length c.limits ≤ room

module _ (kind : Kind) (file : List ℕ) (room : ℕ) where
  -- a file is read with contents exactly when it is their file, and they are a plan whose limits the array has room for
  pub record Exactly (c : Contents) : Type 0 where
    pub only : read_plan kind file room ≡ given c → IsFileOf kind room c file
    pub always : IsFileOf kind room c file → read_plan kind file room ≡ given c

  -- what is read and then written gives the same bytes
  pub record Rewritten (c : Contents) : Type 0 where
    pub answer : (out : List ℕ) → length file ≤ length out → write_plan kind c (length out) ≡ given (length file)
    pub bytes : (out : List ℕ) → length file ≤ length out → written kind c out ≡ file ++ drop (length file) out

  abbrev pub ReadExactly : Type 0
  ReadExactly = (c : Contents) → Exactly c

  abbrev pub WritesBack : Type 0
  WritesBack = (c : Contents) → read_plan kind file room ≡ given c → Rewritten c

-- what is written and then read gives the same contents
abbrev pub ReadsBack : Kind → Contents → List ℕ → Answer ℕ → Type 0
ReadsBack kind c file (given n) = (room : ℕ) → length c.limits ≤ room → read_plan kind (take n file) room ≡ given c
ReadsBack kind c file (refused r) = Unit {0}
