-- A header that is kept and its bytes.
use Rattle.std.proofs.Common.{◌≡◌, ℕ, ◌+◌, ◌*◌, ◌/◌, ◌%◌, ◌<◌, ◌≤◌, true, List, ◌∷◌, ◌++◌, length, get_or, drop, refl, ◌∙◌, arith}
use Rattle.std.proofs.lemmas.List.{drop_more}
use Rattle.std.proofs.lemmas.Bool.{eqb-true}
use Rattle.std.proofs.lemmas.Bool.Decides.{nat_tests}
use Rattle.fields.specs.Fields.{number_at, between, AllKept}
use Rattle.fields.proofs.Laid.{length-laid, kept_both}
use Rattle.times.specs.declared.codings.Kind.{Kind}
use Rattle.times.specs.declared.codings.Kind.TheVariants.{Whole, Fine}
use Rattle.times.specs.Coding.{version_of, word_bytes}
use Rattle.time_fields.proofs.Spelled.{Bytes}
use Rattle.heads.specs.Heads.{IsHead}
use Rattle.files.specs.Headers as headers
use Rattle.files.specs.Headers.{plan_mark, plan_starts_of, count_fields, figure_fields, kind_at, plan_fields_of, header_in}
use Rattle.files.specs.declared.headers.PlanHeader.{PlanHeader}
use Rattle.plan_records.specs.Records.{kind}
use Rattle.plan_contents.specs.Contents.{Contents, half_bytes, header_bytes}
use Rattle.plan_contents.specs.Readings.{header, tests_in, limits_in, contents_in}

only : (n x : ℕ) → between n n x ≡ true → x ≡ n
only n x h = grind (arith, nat_tests)

pub within : (least most x : ℕ) → between least most x ≡ true → (least ≤ x) × (x ≤ most)
within least most x h = (grind (arith, nat_tests), grind (arith, nat_tests))

inside : (least most x n : ℕ) → x ≡ n → least ≤ n → n ≤ most → between least most x ≡ true
inside least most x n e l m = grind (arith, nat_tests)

version_small : (kind : Kind) → version_of kind < 256
version_small Whole = omega arith
version_small Fine = omega arith

version_read : (kind : Kind) (n : ℕ) → n ≡ version_of kind → kind_at n ≡ kind
version_read Whole n e = rw e
version_read Fine n e = rw e

-- four bytes and the number that they say

abbrev said : ℕ → ℕ → ℕ → ℕ → ℕ
said a b c d = (((0 * 256 + a) * 256 + b) * 256 + c) * 256 + d

word_parts : (a b c d : ℕ) → a < 256 → b < 256 → c < 256 → d < 256 → (a ≡ said a b c d / 16777216 % 256) × (b ≡ said a b c d / 65536 % 256) × (c ≡ said a b c d / 256 % 256) × (d ≡ said a b c d % 256)
word_parts a b c d ha hb hc hd = (omega arith, omega arith, omega arith, omega arith)

word_said : (n : ℕ) → n ≤ 1000000 → said (n / 16777216 % 256) (n / 65536 % 256) (n / 256 % 256) (n % 256) ≡ n
word_said n l = omega arith

half_parts : (a b : ℕ) → a < 256 → b < 256 → (a ≡ ((0 * 256 + a) * 256 + b) / 256) × (b ≡ ((0 * 256 + a) * 256 + b) % 256)
half_parts a b ha hb = (omega arith, omega arith)

half_said : (n : ℕ) → (0 * 256 + n / 256) * 256 + n % 256 ≡ n
half_said n = omega arith

module _ (k : Kind) (file : List ℕ) (kept : AllKept file (plan_fields_of k)) where
  long : 17 ≤ length file
  long = omega (arith, kept.1.1.1.1.1.1.0.there)

  version : number_at file 3 2 ≡ version_of k
  version = only (version_of k) (number_at file 3 2) kept.1.0.kept

  pub kind_is : kind (header file) ≡ k
  kind_is = version_read k (number_at file 3 2) version

  start_spelled : Bytes file → file ≡ 0x44 ∷ 0x50 ∷ 0x4E ∷ 0 ∷ version_of k ∷ drop 5 file
  start_spelled small =
      let room = long in
      let mark = eqb-true plan_mark (number_at file 0 3) kept.0.kept in
      let read = version in
      let s0 = small 0 in
      let s1 = small 1 in
      let s2 = small 2 in
      let s4 = small 4 in
      let v = version_small k in
      let b0 : get_or file 0 0 ≡ 0x44 = omega arith in
      let b1 : get_or file 1 0 ≡ 0x50 = omega arith in
      let b2 : get_or file 2 0 ≡ 0x4E = omega arith in
      let b3 : get_or file 3 0 ≡ 0 = omega arith in
      let b4 : get_or file 4 0 ≡ version_of k = omega arith in
      let d0 = drop_more file 0 0 (omega arith) in
      let d1 = drop_more file 1 0 (omega arith) in
      let d2 = drop_more file 2 0 (omega arith) in
      let d3 = drop_more file 3 0 (omega arith) in
      let d4 = drop_more file 4 0 (omega arith) in
      cc

  counts_spelled : Bytes file → drop 5 file ≡ number_at file 5 1 ∷ number_at file 6 1 ∷ (half_bytes (number_at file 7 2) ++ drop 9 file)
  counts_spelled small =
      let room = long in
      let b5 : get_or file 5 0 ≡ number_at file 5 1 = omega arith in
      let b6 : get_or file 6 0 ≡ number_at file 6 1 = omega arith in
      let half = half_parts (get_or file 7 0) (get_or file 8 0) (small 7) (small 8) in
      let b7 : get_or file 7 0 ≡ number_at file 7 2 / 256 = half.0 in
      let b8 : get_or file 8 0 ≡ number_at file 7 2 % 256 = half.1 in
      let d5 = drop_more file 5 0 (omega arith) in
      let d6 = drop_more file 6 0 (omega arith) in
      let d7 = drop_more file 7 0 (omega arith) in
      let d8 = drop_more file 8 0 (omega arith) in
      cc

  word_spelled : Bytes file → (at : ℕ) → at + 4 ≤ length file → drop at file ≡ word_bytes (number_at file at 4) ++ drop (at + 4) file
  word_spelled small at room =
      let e0 : at + 0 ≡ at = omega arith in
      let e1 : at + 1 + 1 ≡ at + 2 = omega arith in
      let e2 : at + 2 + 1 ≡ at + 3 = omega arith in
      let e3 : at + 3 + 1 ≡ at + 4 = omega arith in
      let parts = word_parts (get_or file (at + 0) 0) (get_or file (at + 1) 0) (get_or file (at + 2) 0) (get_or file (at + 3) 0) (small (at + 0)) (small (at + 1)) (small (at + 2)) (small (at + 3)) in
      let b0 : get_or file (at + 0) 0 ≡ number_at file at 4 / 16777216 % 256 = parts.0 in
      let b1 : get_or file (at + 1) 0 ≡ number_at file at 4 / 65536 % 256 = parts.1 in
      let b2 : get_or file (at + 2) 0 ≡ number_at file at 4 / 256 % 256 = parts.2 in
      let b3 : get_or file (at + 3) 0 ≡ number_at file at 4 % 256 = parts.3 in
      let d0 = drop_more file at 0 (omega arith) in
      let d1 = drop_more file (at + 1) 0 (omega arith) in
      let d2 = drop_more file (at + 2) 0 (omega arith) in
      let d3 = drop_more file (at + 3) 0 (omega arith) in
      cc

  pub header_spelled : Bytes file → file ≡ header_bytes k (contents_in file k) ++ drop 17 file
  header_spelled small =
      let start = start_spelled small in
      let counts = counts_spelled small in
      let room = long in
      let round = word_spelled small 9 (omega arith) in
      let delay = word_spelled small 13 (omega arith) in
      let tests : length (tests_in file) ≡ number_at file 6 1 = length-laid _ (header file).tests in
      let limits : length (limits_in file k) ≡ number_at file 7 2 = length-laid _ (header file).limits in
      cc

-- what a header has of contents
pub record HeaderOf (k : Kind) (c : Contents) (h : PlanHeader) : Type 0 where
  pub of_kind : kind h ≡ k
  pub points : h.points ≡ c.head.points
  pub tests : h.tests ≡ length c.head.tests
  pub limits : h.limits ≡ length c.limits
  pub round : h.round ≡ c.head.round
  pub delay : h.delay ≡ c.head.delay

module _ (k : Kind) (c : Contents) (rest : List ℕ) (head : IsHead c.head) (few : length c.limits ≤ 256) where
  pub header_read : HeaderOf k c (header_in (header_bytes k c ++ rest))
  header_read = record {
    of_kind = version_read k _ (omega arith);
    points = omega arith;
    tests = omega arith;
    limits = half_said (length c.limits);
    round = word_said c.head.round head.figures.rounded;
    delay = word_said c.head.delay head.figures.delayed;
  }

  abbrev here : List ℕ
  here = header_bytes k c ++ rest

  starts_kept : AllKept here (plan_starts_of k)
  starts_kept =
      let v = version_of k in
      (record { there = omega arith; kept = refl }, (record { there = omega arith; kept = inside v v (number_at here 3 2) v (omega arith) (omega arith) (omega arith) }, tt))

  counts_kept : AllKept here (count_fields 5)
  counts_kept =
      let points = inside 1 48 (number_at here 5 1) c.head.points header_read.points head.counts.some head.counts.few in
      let tests = inside 0 6 (number_at here 6 1) (length c.head.tests) header_read.tests (omega arith) head.counts.lettered in
      let limits = inside 0 256 (number_at here 7 2) (length c.limits) header_read.limits (omega arith) few in
      (record { there = omega arith; kept = points }, (record { there = omega arith; kept = tests }, (record { there = omega arith; kept = limits }, tt)))

  figures_kept : AllKept here (figure_fields 9)
  figures_kept =
      let round = inside 0 1000000 (number_at here 9 4) c.head.round header_read.round (omega arith) head.figures.rounded in
      let delay = inside 0 1000000 (number_at here 13 4) c.head.delay header_read.delay (omega arith) head.figures.delayed in
      (record { there = omega arith; kept = round }, (record { there = omega arith; kept = delay }, tt))

  pub header_kept : AllKept here (plan_fields_of k)
  header_kept =
      kept_both here (plan_starts_of k) (count_fields 5 ++ figure_fields 9) starts_kept (kept_both here (count_fields 5) (figure_fields 9) counts_kept figures_kept)
