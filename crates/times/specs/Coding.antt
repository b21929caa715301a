-- A time as bytes: each of its integers as four bytes, the highest first, and negative ones in two's complement.
use Rattle.std.specs.Prelude.{◌≡◌, ℕ, ◌+◌, ◌*◌, ◌/◌, ◌%◌, ◌<◌, ◌≤◌, ◌≢◌, cond, List, [], ◌∷◌, ◌++◌, length, take, drop, ℤ, nat_le, slice_index, Some, None, Option, Ok, Err, Result}
use Rattle.std.specs.Int.{w32}
use Rattle.std.proofs.Common.{to_z, of_z}
use Rattle.std.specs.List.{AllByRecursion}
use Rattle.refusals.specs.Answers.{Answer, given, refused, refusal_at}
use Rattle.refusals.specs.declared.Refusal.{Refusal}
use Rattle.times.specs.Moments.{Moment, whole}
use Rattle.times.specs.declared.codings.Kind.{Kind}
use Rattle.times.specs.declared.codings.Kind.TheVariants.{Whole, Fine}
use Rattle.times.specs.declared.codings.UnknownVersion.{UnknownVersion}
use Rattle.times.specs.declared.bytes.Coded.{Coded}
use Rattle.times.specs.declared.bytes.Coded.TheVariants.{Four, Eight}
use Rattle.times.specs.declared.faults.TimeFault.{TimeFault}
use Rattle.times.specs.declared.faults.TimeFault.TheVariants.{Ended, OutOfRule}

-- the version of the files whose times are of the kind
abbrev pub version_of : Kind → ℕ
version_of Whole = 1
version_of Fine = 2

-- what a number names as a version: the kind whose version it is, and where it is none, itself
abbrev pub VersionNames : ℕ → Result Kind UnknownVersion → Type 0
VersionNames n (Ok kind) = n ≡ version_of kind
VersionNames n (Err e) = (e.0 ≡ n) × ((kind : Kind) → n ≢ version_of kind)

-- how many bytes a time of the kind takes
abbrev pub width_of : Kind → ℕ
width_of Whole = 4
width_of Fine = 8

-- four bytes at a place, the highest first
abbrev pub word_at : List ℕ → ℕ → ℕ
word_at bytes at = slice_index bytes at * 16777216 + slice_index bytes (at + 1) * 65536 + slice_index bytes (at + 2) * 256 + slice_index bytes (at + 3)

abbrev pub signed_at : List ℕ → ℕ → ℤ
signed_at bytes at = to_z w32 (word_at bytes at)

-- the time whose first byte is at a place
abbrev pub time_at : Kind → List ℕ → ℕ → Moment
time_at Whole bytes at = whole (signed_at bytes at)
time_at Fine bytes at = record { ticks = signed_at bytes at; grains = signed_at bytes (at + 4) }

abbrev pub word_bytes : ℕ → List ℕ
word_bytes n = (n / 16777216 % 256) ∷ (n / 65536 % 256) ∷ (n / 256 % 256) ∷ (n % 256) ∷ []

abbrev pub time_bytes : Kind → Moment → List ℕ
time_bytes Whole m = word_bytes (of_z w32 m.ticks)
time_bytes Fine m = word_bytes (of_z w32 m.ticks) ++ word_bytes (of_z w32 m.grains)

-- the bytes that a coded time holds
abbrev pub coded_bytes : Coded → List ℕ
coded_bytes (Four bytes) = bytes
coded_bytes (Eight bytes) = bytes

-- a time that is decoded and coded again is the bytes that it was decoded from
abbrev pub Recoded : Kind → Type 0
Recoded kind = (bytes : List ℕ) (at : ℕ) → AllByRecursion (λ b. b < 256) bytes → at + width_of kind ≤ length bytes → time_bytes kind (time_at kind bytes at) ≡ take (width_of kind) (drop at bytes)

-- refusal 1: the file ends before the time does, with the file's length; 9: the time breaks its rule, with the place of its first byte
abbrev pub time_refusal : TimeFault → Refusal
time_refusal (Ended len) = refusal_at 1 len
time_refusal (OutOfRule place) = refusal_at 9 place

-- so many bytes of a file from a place on
abbrev pub part_at : List ℕ → ℕ → ℕ → Option (List ℕ)
part_at file at n = cond (nat_le (at + n) (length file)) (Some (take n (drop at file))) None

-- the integer of a file at a place
abbrev pub signed_field : List ℕ → ℕ → Answer ℤ
signed_field file at = cond (nat_le (at + 4) (length file)) (given (signed_at file at)) (refused (refusal_at 1 (length file)))

-- the time of a file at a place
abbrev pub time_field : Kind → List ℕ → ℕ → Answer Moment
time_field kind file at = cond (nat_le (at + width_of kind) (length file)) (given (time_at kind file at)) (refused (refusal_at 1 (length file)))
