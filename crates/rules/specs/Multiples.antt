-- Multiples of a number, up to another.
use Rattle.std.specs.Prelude.{ℕ, ◌*◌, ◌/◌, ◌≤◌, ℤ, pos, negsuc, ◌*ℤ◌, ◌≤ℤ◌}
use Rattle.std.proofs.Common.{div-mul-le_self, le-div_iff_mul-le, mul-le-mul_right, arith}
use Rattle.std.proofs.Math.IntN.{pos-*ℤ-pos, negsuc-*ℤ-pos}
use Rattle.std.proofs.lemmas.Int.{ints}

pub below : (n r : ℕ) → n / r * r ≤ n
below n r = div-mul-le_self n r

pub largest_of : (n r j : ℕ) → 1 ≤ r → j * r ≤ n → j * r ≤ n / r * r
largest_of n r j h e = mul-le-mul_right r ((le-div_iff_mul-le h).1 e)

pub growing : (n m r : ℕ) → 1 ≤ r → n ≤ m → n / r * r ≤ m / r * r
growing n m r h e = largest_of m r (n / r) h (let b = below n r in omega arith)

-- of integers
pub largest_multiple : (n r : ℕ) (k : ℤ) → 1 ≤ r → (k *ℤ pos r) ≤ℤ pos n → (k *ℤ pos r) ≤ℤ pos (n / r * r)
largest_multiple n r (pos j) h e =
    let p = pos-*ℤ-pos j r in
    let le : j * r ≤ n = omega (arith, ints) in
    let most = largest_of n r j h le in
    omega (arith, ints)
largest_multiple n r (negsuc j) h e = let p = negsuc-*ℤ-pos j r in omega (arith, ints)
