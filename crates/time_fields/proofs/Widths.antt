-- How many bytes times take.
use Rattle.std.proofs.Common.{◌≡◌, ◌≤◌, length, refl, arith}
use Rattle.times.specs.declared.codings.Kind.{Kind}
use Rattle.times.specs.declared.codings.Kind.TheVariants.{Whole, Fine}
use Rattle.times.specs.Coding.{width_of, time_bytes}
use Rattle.times.specs.Moments.{Moment}

pub width_small : (kind : Kind) → width_of kind ≤ 8
width_small Whole = omega arith
width_small Fine = omega arith

pub length-time_bytes : (kind : Kind) (m : Moment) → length (time_bytes kind m) ≡ width_of kind
length-time_bytes Whole m = refl
length-time_bytes Fine m = refl
