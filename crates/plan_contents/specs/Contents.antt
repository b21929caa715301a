-- What a plan file holds, and its bytes.
use Rattle.std.specs.Prelude.{◌≡◌, ℕ, ◌+◌, ◌*◌, ◌/◌, ◌%◌, ◌<◌, List, [], ◌∷◌, ◌++◌, length}
use Rattle.std.specs.List.{flat_map, AllByRecursion}
use Rattle.fields.specs.Fields.{AllKept}
use Rattle.times.specs.declared.codings.Kind.{Kind}
use Rattle.times.specs.Coding.{version_of, width_of, word_bytes, time_bytes}
use Rattle.times.specs.Moments.{Moment}
use Rattle.time_fields.specs.Kinds.{OfKind}
use Rattle.heads.specs.Heads.{Outline, IsHead}
use Rattle.plans.specs.Memory.{LimitsKept}
use Rattle.plans.specs.Plans.{Plan}
use Rattle.plans.specs.declared.limits.Limit.{Limit}
use Rattle.plan_records.specs.Names.{name_fields, name_place}

-- the head, the limits, and the names of the points, one after the other as they lie in the file
pub record Contents : Type 0 where
  pub head : Outline
  pub limits : List (Limit Moment)
  pub names : List ℕ

abbrev pub contents : Outline → List (Limit Moment) → List ℕ → Contents
contents head limits names = record { head = head; limits = limits; names = names }

abbrev pub plan_in : Contents → Plan
plan_in c = record { points = c.head.points; tests = c.head.tests; limits = c.limits }

-- a run of bytes that is so many names and nothing more
pub record IsNames (n : ℕ) (run : List ℕ) : Type 0 where
  pub each : (i : ℕ) → i < n → AllKept run (name_fields run 0 i (name_place run 0 i))
  pub full : length run ≡ name_place run 0 n

-- contents that keep their rules, and whose bounds the kind can hold
pub record IsPlan (kind : Kind) (c : Contents) : Type 0 where
  pub head : IsHead c.head
  pub limits : LimitsKept (plan_in c)
  pub names : IsNames c.head.points c.names
  pub of_kind : AllByRecursion (λ (l : Limit Moment). OfKind kind l.bound) c.limits

-- a number in two bytes
abbrev pub half_bytes : ℕ → List ℕ
half_bytes n = (n / 256) ∷ (n % 256) ∷ []

abbrev pub limit_bytes : Kind → Limit Moment → List ℕ
limit_bytes kind l = l.from ∷ l.to ∷ l.wanted ∷ l.unwanted ∷ time_bytes kind l.bound

module _ (kind : Kind) (c : Contents) where
  -- mark, version, numbers of points, tests and limits
  abbrev pub count_bytes : List ℕ
  count_bytes =
      0x44 ∷ 0x50 ∷ 0x4E ∷ 0 ∷ version_of kind ∷ c.head.points ∷ length c.head.tests ∷ half_bytes (length c.limits)

  -- and then r and d
  abbrev pub header_bytes : List ℕ
  header_bytes = count_bytes ++ (word_bytes c.head.round ++ word_bytes c.head.delay)

  abbrev pub plan_bytes : List ℕ
  plan_bytes = header_bytes ++ (c.names ++ (c.head.tests ++ flat_map (limit_bytes kind) c.limits))

  -- how long the file is
  abbrev pub plan_length : ℕ
  plan_length = 17 + length c.names + length c.head.tests + (4 + width_of kind) * length c.limits
