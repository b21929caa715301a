-- Names as they lie in bytes, one after the other: each is a length byte and then so many bytes.
use Rattle.std.specs.Prelude.{ℕ, zero, suc, ◌+◌, Bool, not, ◌&&◌, List, [], ◌∷◌, ◌++◌, nat_eq, slice_index}
use Rattle.fields.specs.Fields.{Field, between}
use Rattle.fields.specs.Laid.{laid}
use Rattle.fields.specs.Readings.{end_field}
use Rattle.refusals.specs.Searches.{every}

module _ (bytes : List ℕ) where
  -- how many bytes a name takes: its length byte, and what that says
  abbrev pub name_size : ℕ → ℕ
  name_size at = 1 + slice_index bytes at

  -- the name with a number starts where the one before it ends
  abbrev pub name_place : ℕ → ℕ → ℕ
  name_place start zero = start
  name_place start (suc i) = name_place start i + name_size (name_place start i)

  -- two names are equal when their lengths and all their bytes are
  abbrev pub same_name : ℕ → ℕ → Bool
  same_name one other = every (name_size one) (λ j. nat_eq (slice_index bytes (one + j)) (slice_index bytes (other + j)))

  -- the bytes of a name are printable, and none is a space
  abbrev pub printable : ℕ → Bool
  printable at = every (slice_index bytes at) (λ j. between 0x21 0x7E (slice_index bytes (at + 1 + j)))

  -- none of the first i names from a start on is equal to the name at a place
  abbrev pub new_name : ℕ → ℕ → ℕ → Bool
  new_name start i at = every i (λ j. not (same_name (name_place start j) at))

  -- 1, 6: the length byte
  abbrev pub length_field : ℕ → Field
  length_field at = record { from = at; width = 1; number = 6; keeps = between 1 16 }

  -- 1, 6: the whole name
  abbrev pub name_field : ℕ → ℕ → ℕ → Field
  name_field start i at =
      record { from = at; width = name_size at; number = 6; keeps = λ _. printable at && new_name start i at }

  -- the name with the number i among those from a start on
  abbrev pub name_fields : ℕ → ℕ → ℕ → List Field
  name_fields start i at = length_field at ∷ name_field start i at ∷ []

  -- so many names from a start on
  abbrev pub names_fields : ℕ → ℕ → List Field
  names_fields start n = laid n (λ i. name_fields start i (name_place start i))

  -- 1, 6, 10: a run of so many names and nothing more
  abbrev pub run_fields : ℕ → List Field
  run_fields n = names_fields 0 n ++ (end_field bytes (name_place 0 n) ∷ [])
