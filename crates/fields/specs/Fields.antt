-- A field of a file: where it lies, the rule of the number that it holds, and the refusal where that is broken.
use Rattle.std.specs.Prelude.{◌≡◌, ℕ, zero, suc, ◌+◌, ◌*◌, ◌<◌, ◌≤◌, Bool, true, false, cond, ◌&&◌, ◌⊎◌, List, [], ◌∷◌, length, nat_eq, nat_le, slice_index}
use Rattle.refusals.specs.Answers.{Answer, given, refused, and_then, refusal_at}
use Rattle.refusals.specs.declared.Refusal.{Refusal}

pub record Field : Type 0 where
  pub from : ℕ
  pub width : ℕ
  pub number : ℕ
  pub keeps : ℕ → Bool

-- the number in so many bytes, the highest byte first
abbrev pub number_at : List ℕ → ℕ → ℕ → ℕ
number_at file from zero = 0
number_at file from (suc width) = number_at file from width * 256 + slice_index file (from + width)

module _ (file : List ℕ) where
  -- a field is first asked whether the file has it whole, then for its rule
  abbrev pub field_answer : Field → Answer ℕ
  field_answer f =
      let value = number_at file f.from f.width in
      cond (nat_le (f.from + f.width) (length file)) (cond (f.keeps value) (given value) (refused (refusal_at f.number f.from))) (refused (refusal_at 1 (length file)))

  -- a value, once every field has passed, in their order
  abbrev pub checked : {X : Type 0} → List Field → X → Answer X
  checked [] x = given x
  checked (f ∷ fs) x = and_then (field_answer f) (λ _. checked fs x)

  -- the file has the field whole, and the field keeps its rule
  pub record Kept (f : Field) : Type 0 where
    pub there : f.from + f.width ≤ length file
    pub kept : f.keeps (number_at file f.from f.width) ≡ true

  -- the file ends before the field does
  pub record Ended (f : Field) (r : Refusal) : Type 0 where
    pub ends : length file < f.from + f.width
    pub named : r ≡ refusal_at 1 (length file)

  -- the file has the field whole, and the field breaks its rule
  pub record Broken (f : Field) (r : Refusal) : Type 0 where
    pub there : f.from + f.width ≤ length file
    pub broken : f.keeps (number_at file f.from f.width) ≡ false
    pub named : r ≡ refusal_at f.number f.from

  abbrev pub AllKept : List Field → Type 0
  AllKept [] = Unit {0}
  AllKept (f ∷ fs) = Kept f × AllKept fs

  -- the refusal names the first field that ends early or breaks its rule: each one before it is whole and kept
  abbrev pub FirstRefused : List Field → Refusal → Type 0
  FirstRefused [] r = ⊥
  FirstRefused (f ∷ fs) r = (Ended f r ⊎ Broken f r) ⊎ (Kept f × FirstRefused fs r)

module _ (file : List ℕ) (fs : List Field) {X : Type 0} where
  -- what an answer on these fields says: all are kept, or the refusal names the first that is not
  abbrev pub JudgedFields : Answer X → Type 0
  JudgedFields (given x) = AllKept file fs
  JudgedFields (refused r) = FirstRefused file fs r

abbrev pub between : ℕ → ℕ → ℕ → Bool
between least most x = nat_le least x && nat_le x most

-- the mark: the file's first three bytes
abbrev pub mark_field : ℕ → Field
mark_field mark = record { from = 0; width = 3; number = 2; keeps = nat_eq mark }

abbrev pub version_field : ℕ → ℕ → Field
version_field least most = record { from = 3; width = 2; number = 3; keeps = between least most }

abbrev pub count_field : ℕ → ℕ → ℕ → ℕ → Field
count_field from width least most = record { from = from; width = width; number = 4; keeps = between least most }

abbrev pub figure_field : ℕ → Field
figure_field from = record { from = from; width = 4; number = 5; keeps = between 0 1000000 }
