-- A header from its parts: mark and version, then counts, then figures.
use Rattle.std.proofs.Common.{◌≡◌, ℕ, ◌+◌, true, List, [], ◌++◌, sym, ap, ◌∙◌, subst, arith}
use Rattle.refusals.specs.Answers.{Answer, given, refused}
use Rattle.refusals.specs.declared.Refusal.{Refusal}
use Rattle.std.proofs.lemmas.Bool.Decides.{nat_tests}
use Rattle.fields.specs.Fields.{between}
use Rattle.fields.proofs.Readings.{kept_checked}
use Rattle.times.specs.Coding.{version_of}
use Rattle.times.specs.declared.codings.Kind.{Kind}
use Rattle.times.specs.declared.codings.Kind.TheVariants.{Whole, Fine}
use Rattle.files.specs.declared.headers.PlanHeader.{PlanHeader}
use Rattle.fields.specs.Fields.{Field, number_at, checked}
use Rattle.files.specs.Headers.{kind_at, table_mark, plan_mark, start, start_of, plan_starts, plan_starts_of, plan_header_of, table_starts, count_fields, counts_in, figure_fields, figures_in, same_count_fields, header_in, plan_header, table_header}
use Rattle.fields.proofs.Chains.{onward, halted, judged}

abbrev assembled : Kind → (ℕ × ℕ × ℕ) → (ℕ × ℕ) → PlanHeader
assembled v p q = record { version = v; points = p.0; tests = p.1; limits = p.2; round = q.0; delay = q.1 }

abbrev begin : List ℕ → Kind × ℕ
begin file = (kind_at (number_at file 3 2), 5)

abbrev rest : List Field
rest = count_fields 5 ++ figure_fields 9

pub start_stops : (file : List ℕ) (r : Refusal) → refused r ≡ start file plan_mark → refused r ≡ plan_header file
start_stops file r e = halted file plan_starts rest (begin file) (header_in file) r e

module _ (file : List ℕ) (s : Kind × ℕ) (e : given s ≡ start file plan_mark) where
  begun : (s ≡ begin file) × (plan_header file ≡ checked file rest (header_in file))
  begun = onward file plan_starts rest (begin file) s (header_in file) e

  place : s.1 ≡ 5
  place = ap (λ s. s.1) begun.0

  pub counts_stop : (r : Refusal) → refused r ≡ checked file (count_fields s.1) (counts_in file s.1) → refused r ≡ plan_header file
  counts_stop r h =
      let there = subst (λ at. refused r ≡ checked file (count_fields at) (counts_in file at)) place h in
      halted file (count_fields 5) (figure_fields 9) (counts_in file 5) (header_in file) r there ∙ sym begun.1

  module _ (p : ℕ × ℕ × ℕ) (h : given p ≡ checked file (count_fields s.1) (counts_in file s.1)) where
    counted : (p ≡ counts_in file 5) × (checked file rest (header_in file) ≡ checked file (figure_fields 9) (header_in file))
    counted =
        let there = subst (λ at. given p ≡ checked file (count_fields at) (counts_in file at)) place h in
        onward file (count_fields 5) (figure_fields 9) (counts_in file 5) p (header_in file) there

    pub figures_stop : (r : Refusal) → refused r ≡ checked file (figure_fields (s.1 + 4)) (figures_in file (s.1 + 4)) → refused r ≡ plan_header file
    figures_stop r k =
        let there = subst (λ at. refused r ≡ checked file (figure_fields (at + 4)) (figures_in file (at + 4))) place k in
        halted file (figure_fields 9) [] (figures_in file 9) (header_in file) r there ∙ sym counted.1 ∙ sym begun.1

    pub assembles : (q : ℕ × ℕ) → given q ≡ checked file (figure_fields (s.1 + 4)) (figures_in file (s.1 + 4)) → given (assembled s.0 p q) ≡ plan_header file
    assembles q k =
        let there = subst (λ at. given q ≡ checked file (figure_fields (at + 4)) (figures_in file (at + 4))) place k in
        let done = onward file (figure_fields 9) [] (figures_in file 9) q (header_in file) there in
        let version = ap (λ s. s.0) begun.0 in
        let same : assembled s.0 p q ≡ header_in file = cc (version, counted.0, done.0) in
        ap given same ∙ sym done.1 ∙ sym counted.1 ∙ sym begun.1

module _ (file : List ℕ) (plan : PlanHeader) where
  pub table_stops : (r : Refusal) → refused r ≡ start_of file table_mark plan.version → refused r ≡ table_header file plan
  table_stops r e = halted file (table_starts plan.version) (same_count_fields plan 5) 5 tt r e

  pub table_ends : (at : ℕ) (a : Answer (Unit {0})) → given at ≡ start_of file table_mark plan.version → a ≡ checked file (same_count_fields plan at) tt → a ≡ table_header file plan
  table_ends at a e h =
      let begun = onward file (table_starts plan.version) (same_count_fields plan 5) 5 at tt e in
      subst (λ at. a ≡ checked file (same_count_fields plan at) tt) begun.0 h ∙ sym begun.1

-- the same of one kind

version_known : (kind : Kind) (n : ℕ) → between (version_of kind) (version_of kind) n ≡ true → between 1 2 n ≡ true
version_known Whole n h = grind (arith, nat_tests)
version_known Fine n h = grind (arith, nat_tests)

module _ (file : List ℕ) (kind : Kind) where
  pub start_of_stops : (r : Refusal) → refused r ≡ start_of file plan_mark kind → refused r ≡ plan_header_of file kind
  start_of_stops r e = halted file (plan_starts_of kind) rest 5 (header_in file) r e

  -- a header whose mark and version pass as those of the kind pass as those of any
  pub as_any : (at : ℕ) → given at ≡ start_of file plan_mark kind → plan_header file ≡ plan_header_of file kind
  as_any at e =
      let begun = onward file (plan_starts_of kind) rest 5 at (header_in file) e in
      let kept = judged file (plan_starts_of kind) 5 (given at) e in
      let any = kept_checked file plan_starts (begin file) (kept.0, (record { there = kept.1.0.there; kept = version_known kind _ kept.1.0.kept }, tt)) in
      (onward file plan_starts rest (begin file) (begin file) (header_in file) (sym any)).1 ∙ sym begun.1
