-- Lines of text in lent slices.
use Rattle.std.specs.Prelude.{◌≡◌, ℕ, ◌^◌, ◌<◌, cond, List, ◌++◌, length, drop, decimal, nat_le, slice_index}
use Rattle.std.specs.Str.Parse.{AllDigits, digits_value}
use Rattle.refusals.specs.Answers.{Answer, given, refused, refusal_at}

-- the length of a line, where the slice has room for it
abbrev pub room_answer : List ℕ → List ℕ → Answer ℕ
room_answer line out = cond (nat_le (length line) (length out)) (given (length line)) (refused (refusal_at 11 (length line)))

-- the slice with the line at its front and nothing else changed; without room, as it was
abbrev pub with_line : List ℕ → List ℕ → List ℕ
with_line line out = cond (nat_le (length line) (length out)) (line ++ drop (length line) out) out

-- a number as text: digits alone, with no leading zero, that read back as the number
pub record ReadsBack (n : ℕ) : Type 0 where
  pub digits : AllDigits 10 (decimal n)
  pub reads : digits_value 10 (decimal n) ≡ n
  pub some : 0 < length (decimal n)
  pub leading : 1 < length (decimal n) → 48 < slice_index (decimal n) 0

abbrev pub DecimalsReadBack : Type 0
DecimalsReadBack = (n : ℕ) → n < 2 ^ 64 → ReadsBack n
