-- A header that is kept and its bytes.
use Rattle.std.proofs.Common.{◌≡◌, ℕ, ◌<◌, ◌≤◌, true, List, ◌++◌, length, get_or, drop, refl, arith}
use Rattle.std.proofs.lemmas.List.{drop_more}
use Rattle.std.proofs.lemmas.Bool.{eqb-true}
use Rattle.std.proofs.lemmas.Bool.Decides.{nat_tests}
use Rattle.fields.specs.Fields.{number_at, between, AllKept}
use Rattle.files.specs.Headers.{table_mark}
use Rattle.times.specs.declared.codings.Kind.{Kind}
use Rattle.times.specs.declared.codings.Kind.TheVariants.{Whole, Fine}
use Rattle.times.specs.Coding.{version_of}
use Rattle.time_fields.proofs.Spelled.{Bytes}
use Rattle.heads.specs.declared.Head.{Head}
use Rattle.table_files.specs.Layouts.{header_fields}
use Rattle.table_files.specs.Writings.{header_bytes}

only : (n x : ℕ) → between n n x ≡ true → x ≡ n
only n x h = grind (arith, nat_tests)

itself : (n x : ℕ) → x ≡ n → between n n x ≡ true
itself n x h = grind (arith, nat_tests)

version_small : (kind : Kind) → version_of kind < 256
version_small Whole = omega arith
version_small Fine = omega arith

module _ (kind : Kind) (head : Head) (file : List ℕ) where
  pub header_spelled : Bytes file → AllKept file (header_fields kind head) → file ≡ header_bytes kind head ++ drop 7 file
  header_spelled small h =
      let mark = eqb-true table_mark (number_at file 0 3) h.0.kept in
      let version = only (version_of kind) (number_at file 3 2) h.1.0.kept in
      let points = only head.points (number_at file 5 1) h.1.1.0.kept in
      let letters = only head.letters (number_at file 6 1) h.1.1.1.0.kept in
      let room : 7 ≤ length file = omega (arith, h.1.1.1.0.there) in
      let s0 = small 0 in
      let s1 = small 1 in
      let s2 = small 2 in
      let s4 = small 4 in
      let v = version_small kind in
      let b0 : get_or file 0 0 ≡ 0x52 = omega arith in
      let b1 : get_or file 1 0 ≡ 0x55 = omega arith in
      let b2 : get_or file 2 0 ≡ 0x4E = omega arith in
      let b3 : get_or file 3 0 ≡ 0 = omega arith in
      let b4 : get_or file 4 0 ≡ version_of kind = omega arith in
      let b5 : get_or file 5 0 ≡ head.points = omega arith in
      let b6 : get_or file 6 0 ≡ head.letters = omega arith in
      let d0 = drop_more file 0 0 (omega arith) in
      let d1 = drop_more file 1 0 (omega arith) in
      let d2 = drop_more file 2 0 (omega arith) in
      let d3 = drop_more file 3 0 (omega arith) in
      let d4 = drop_more file 4 0 (omega arith) in
      let d5 = drop_more file 5 0 (omega arith) in
      let d6 = drop_more file 6 0 (omega arith) in
      cc

pub header_kept : (kind : Kind) (head : Head) (rest : List ℕ) → AllKept (header_bytes kind head ++ rest) (header_fields kind head)
header_kept kind head rest = (
  record { there = omega arith; kept = refl },
  (
    record { there = omega arith; kept = itself (version_of kind) _ (omega arith) },
    (
      record { there = omega arith; kept = itself head.points _ (omega arith) },
      (
        record { there = omega arith; kept = itself head.letters _ (omega arith) },
        tt,
      ),
    ),
  ),
)
