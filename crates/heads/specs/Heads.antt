-- What heads say, and which numbers make one.
use Rattle.std.specs.Prelude.{◌≡◌, ℕ, ◌<◌, ◌≤◌, Bool, cond, not, ◌&&◌, List, [], length, take, Some, None, Option, ◌==◌, ◌≢◌, nat_le, nat_lt, slice_index, slice_index_or}
use Rattle.refusals.specs.Answers.{Answer, given, refused, unless, refusal_at}
use Rattle.refusals.specs.declared.Refusal.{Refusal}
use Rattle.refusals.specs.Searches.{or_else, first, when, every}
use Rattle.heads.specs.declared.Head.{Head}

-- points, the point of each test, r and d
pub record Outline : Type 0 where
  pub points : ℕ
  pub tests : List ℕ
  pub round : ℕ
  pub delay : ℕ

abbrev pub outline : ℕ → List ℕ → ℕ → ℕ → Outline
outline points tests round delay = record { points = points; tests = tests; round = round; delay = delay }

-- one point, no test, r and d 0
abbrev pub smallest_outline : Outline
smallest_outline = outline 1 [] 0 0

-- the points of a head's tests, in the order of their letters
abbrev pub tests_of : Head → List ℕ
tests_of h = take h.letters h.tests

abbrev pub outline_of : Head → Outline
outline_of h = outline h.points (tests_of h) h.round h.delay

abbrev pub point_of : Head → ℕ → ℕ
point_of h i = slice_index (tests_of h) i

abbrev pub test_of : Head → ℕ → Option ℕ
test_of h i = cond (nat_lt i h.letters) (Some (point_of h i)) None

module _ (o : Outline) where
  abbrev pub counted : Bool
  counted = (nat_le 1 o.points && nat_le o.points 48) && nat_le (length o.tests) 6

  abbrev pub figured : Bool
  figured = nat_le o.round 1000000 && nat_le o.delay 1000000

  -- no test before the i-th is at its point
  abbrev pub is_new : ℕ → Bool
  is_new i = every i (λ j. not (slice_index o.tests j == slice_index o.tests i))

  -- a test is a point of the plan other than the start, and no test before it is at that point
  abbrev pub is_test : ℕ → Bool
  is_test i = (nat_lt 0 (slice_index o.tests i) && nat_lt (slice_index o.tests i) o.points) && is_new i

  abbrev pub test_refusal : ℕ → Option Refusal
  test_refusal i = when (not (is_test i)) (refusal_at 7 i)

  -- 4, then 5, then 7 with the number of the first bad test
  abbrev pub head_refusal : Option Refusal
  head_refusal =
      or_else (when (not counted) (refusal_at 4 0)) (or_else (when (not figured) (refusal_at 5 0)) (first (length o.tests) test_refusal))

  abbrev pub new_head : Answer Outline
  new_head = unless head_refusal o

  -- the same in words

  pub record Counted : Type 0 where
    pub some : 1 ≤ o.points
    pub few : o.points ≤ 48
    pub lettered : length o.tests ≤ 6

  pub record Figured : Type 0 where
    pub rounded : o.round ≤ 1000000
    pub delayed : o.delay ≤ 1000000

  pub record IsTest (i : ℕ) : Type 0 where
    pub started : 0 < slice_index o.tests i
    pub placed : slice_index_or o.tests i 0 < o.points
    pub new : (j : ℕ) → j < i → slice_index o.tests j ≢ slice_index o.tests i

  pub record IsHead : Type 0 where
    pub counts : Counted
    pub figures : Figured
    pub tests : (i : ℕ) → i < length o.tests → IsTest i

  -- what each refusal says: what it names breaks its rule, and nothing before it does
  pub data HeadRefused : Refusal → Type 0 where
    counts : (Counted → ⊥) → HeadRefused (refusal_at 4 0)
    figures : Counted → (Figured → ⊥) → HeadRefused (refusal_at 5 0)
    test : Counted → Figured → (i : ℕ) → i < length o.tests → ((j : ℕ) → j < i → IsTest j) → (IsTest i → ⊥) → HeadRefused (refusal_at 7 i)

  abbrev pub HeadSays : Answer Outline → Type 0
  HeadSays (given h) = IsHead × (h ≡ o)
  HeadSays (refused r) = HeadRefused r
