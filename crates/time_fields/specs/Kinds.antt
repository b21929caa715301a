-- Moments that a kind of time can hold.
use Rattle.std.specs.Prelude.{◌≡◌}
use Rattle.times.specs.declared.codings.Kind.{Kind}
use Rattle.times.specs.Coding.{time_at, time_bytes}
use Rattle.times.specs.Moments.{Moment}

-- the bytes of the moment say it again
abbrev pub OfKind : Kind → Moment → Type 0
OfKind kind m = time_at kind (time_bytes kind m) 0 ≡ m
