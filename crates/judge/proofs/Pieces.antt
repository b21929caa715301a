-- The decimals in a line.
use Rattle.std.proofs.Common.{ℕ, zero, suc, ◌^◌, ◌<◌, length, get_or, decimal, ap, arith}
use Rattle.std.proofs.lemmas.Fmt.{decimal_digit, decimal_is_IsNumeral, decimal_nonempty, first_decimal}
use Rattle.judge.specs.Lines.{DecimalsReadBack}

leads : (n : ℕ) → n < 2 ^ 64 → 1 < length (decimal n) → 48 < get_or (decimal n) 0 0
leads zero h long = absurd (omega (arith, ap length (decimal_digit 0 (omega arith))))
leads (suc n) h long = first_decimal (suc n) (omega arith) h

pub read_back : DecimalsReadBack
read_back n h =
    let r = decimal_is_IsNumeral n h in
    record { digits = r.0.1; reads = r.1; some = decimal_nonempty n h; leading = λ long. leads n h long }
