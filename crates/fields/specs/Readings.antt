-- Reading a file into lent room: the header, then the room, then what follows the header.
use Rattle.std.specs.Prelude.{◌≡◌, ℕ, ◌<◌, ◌≤◌, List, length, nat_le}
use Rattle.refusals.specs.Answers.{Answer, given, refused, and_then, refusal_at}
use Rattle.refusals.specs.Rooms.{room_answer}
use Rattle.refusals.specs.declared.Refusal.{Refusal}
use Rattle.fields.specs.Fields.{Field, checked, AllKept, FirstRefused}
use Rattle.fields.specs.Laid.{passing}

-- 10: a field of no bytes after which no byte follows
abbrev pub end_field : List ℕ → ℕ → Field
end_field file end = record { from = end; width = 0; number = 10; keeps = λ _. nat_le (length file) end }

module _ (file : List ℕ) (header body : List Field) (size room : ℕ) where
  abbrev pub read_file : {X : Type 0} → X → Answer X
  read_file x = and_then (passing file header) (λ _. and_then (room_answer room size) (λ _. checked file body x))

  -- every field is whole and keeps its rule, and there is room
  pub record AllRead : Type 0 where
    pub header_kept : AllKept file header
    pub room_for : size ≤ room
    pub body_kept : AllKept file body

  -- what is named is the first field that ends early or breaks its rule, or the room after a header that is kept
  pub data ReadRefused : Refusal → Type 0 where
    in_header : (r : Refusal) → FirstRefused file header r → ReadRefused r
    no_room : AllKept file header → room < size → ReadRefused (refusal_at 11 size)
    in_body : (r : Refusal) → AllKept file header → size ≤ room → FirstRefused file body r → ReadRefused r

  abbrev pub ReadSays : {X : Type 0} → Answer X → Type 0
  ReadSays (given x) = AllRead
  ReadSays (refused r) = ReadRefused r

  -- a refusal is given exactly when what it names is the first
  pub record RefusedExactly {X : Type 0} (a : Answer X) (r : Refusal) : Type 0 where
    pub only : a ≡ refused r → ReadRefused r
    pub always : ReadRefused r → a ≡ refused r
