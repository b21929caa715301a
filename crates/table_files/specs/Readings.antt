-- What reading a table file gives and stores.
use Rattle.std.specs.Prelude.{◌≡◌, ℕ, List, [], ◌∷◌, map, length, take, drop, nat_lt}
use Rattle.refusals.specs.Answers.{Answer, given, refused, and_then, unless, refusal_at}
use Rattle.refusals.specs.declared.Refusal.{Refusal}
use Rattle.fields.specs.Laid.{laid}
use Rattle.fields.specs.Readings.{read_file, AllRead, ReadRefused, RefusedExactly}
use Rattle.times.specs.declared.codings.Kind.{Kind}
use Rattle.times.specs.Coding.{time_at}
use Rattle.times.specs.Moments.{Moment}
use Rattle.refusals.specs.Searches.{when}
use Rattle.heads.specs.declared.Head.{Head}
use Rattle.plans.specs.Plans.{size_for}
use Rattle.table_files.specs.Layouts.{table_size, time_place, header_fields_for, body_for, header_fields, body_fields}

abbrev pub counted : {X : Type 0} → Answer (List X) → Answer ℕ
counted a = and_then a (λ xs. given (length xs))

-- the first so many times of a file
abbrev pub times_in : Kind → List ℕ → ℕ → List Moment
times_in kind file n = laid n (λ i. time_at kind file (time_place kind i) ∷ [])

-- 10: bytes follow the end
abbrev pub end_answer : List ℕ → ℕ → Answer (Unit {0})
end_answer file end = unless (when (nat_lt end (length file)) (refusal_at 10 end)) tt

module _ (kind : Kind) (n k : ℕ) (file : List ℕ) (room : ℕ) where
  -- a table of so many points and tests: the header; then the room; then the times and the end
  abbrev pub table_answer : Answer (List Moment)
  table_answer =
      read_file file (header_fields_for kind n k) (body_for kind n k file) (size_for n k) room (times_in kind file (size_for n k))

module _ (kind : Kind) (head : Head) (file : List ℕ) (room : ℕ) where
  -- a table for the head of a plan
  abbrev pub read_table : Answer (List Moment)
  read_table = table_answer kind head.points head.letters file room

  -- the same in words

  -- every field is whole and keeps its rule, and the array has room
  pub record IsRead (n : ℕ) : Type 0 where
    pub kept : AllRead file (header_fields kind head) (body_fields kind head file) (table_size head) room
    pub size : n ≡ table_size head

  abbrev pub RefusesExactly : Type 0
  RefusesExactly =
      (r : Refusal) → RefusedExactly file (header_fields kind head) (body_fields kind head file) (table_size head) room read_table r

  abbrev pub ReadSays : Answer ℕ → Type 0
  ReadSays (given n) = IsRead n
  ReadSays (refused r) = ReadRefused file (header_fields kind head) (body_fields kind head file) (table_size head) room r

module _ {X : Type 0} (of : X → Moment) where
  -- what an answer leaves in the array: the times that are read, and past them what was there; or all as it was
  abbrev pub Filled : Answer (List Moment) → List X → List X → Answer ℕ → Type 0
  Filled times before after (given n) = (times ≡ given (map of (take n after))) × (drop n after ≡ drop n before)
  Filled times before after (refused r) = after ≡ before
