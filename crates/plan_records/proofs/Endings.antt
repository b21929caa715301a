-- The records of a file laid end to end.
use Rattle.std.proofs.Common.{◌≡◌, ℕ, zero, suc, ◌+◌, ◌-◌, ◌≤◌, List, ◌++◌, length, take, drop, Some, None, Option, sym, refl, ap, ◌∙◌, subst, arith, take-add}
use Rattle.std.proofs.lemmas.List.{append-nil, take_all, drop-drop, length-drop}
use Rattle.std.proofs.lemmas.Bool.{leb-true}
use Rattle.refusals.specs.Answers.{Answer, given, refused}
use Rattle.fields.specs.Fields.{AllKept, checked}
use Rattle.fields.proofs.Chains.{passed, judged}
use Rattle.files.specs.declared.headers.PlanHeader.{PlanHeader}
use Rattle.plan_records.specs.Records.{Sort, a_name, a_test, a_limit, the_end, Part, name, test, limit, sort_of, fields_of, size_of, part_of, part_from, first_place}
use Rattle.plan_records.specs.Readers.{next_answer, after, bytes_of, given_bytes, read_on, records_read, RecordsAreTheFile}
use Rattle.plan_records.specs.declared.readers.Reader.{Reader}
use Rattle.plan_records.proofs.Recording.{record_inside}

never_none : {X Z : Type 0} (x : X) → None ≡ Some x → Z
never_none x e = let z : ◌≡◌ {A = ℕ} 0 1 = cc in absurd (omega arith)

module _ (header : PlanHeader) (file : List ℕ) (at : ℕ) where
  parted : (s : Sort) (p : Part) → Some p ≡ part_of header file s at → bytes_of p ≡ part_from file at (size_of header file s at)
  parted a_name p e = let f : p ≡ name (part_from file at (size_of header file a_name at)) = cc in ap bytes_of f
  parted a_test p e = let f : p ≡ test (part_from file at (size_of header file a_test at)) = cc in ap bytes_of f
  parted a_limit p e = let f : p ≡ limit (part_from file at (size_of header file a_limit at)) = cc in ap bytes_of f
  parted the_end p e = never_none p (sym e)

  ended : (s : Sort) (r : ℕ) → None ≡ part_of header file s at → AllKept file (fields_of header file s r at) → at ≡ length file
  ended a_name r e h = never_none _ e
  ended a_test r e h = never_none _ e
  ended a_limit r e h = never_none _ e
  ended the_end r e h = omega (arith, h.0.there, leb-true (length file) at h.0.kept)

-- a reader that has got somewhere, and the bytes that it has read
record Stands (file : List ℕ) (r : Reader) (so_far : List ℕ) : Type 0 where
  same : r.file.now ≡ file
  from : first_place ≤ r.place
  to : r.place ≤ length file
  read : so_far ≡ take (r.place - first_place) (drop first_place file)

module _ (file : List ℕ) (r : Reader) (so_far : List ℕ) (h : Stands file r so_far) where
  abbrev there : Sort
  there = sort_of r.header r.taken

  abbrev asked : {X : Type 0} → X → Answer X
  asked x = checked r.file.now (fields_of r.header r.file.now there r.taken r.place) x

  abbrev part : Option Part
  part = part_of r.header r.file.now there r.place

  kept : (o : Option Part) → given o ≡ next_answer r → (o ≡ part) × AllKept r.file.now (fields_of r.header r.file.now there r.taken r.place)
  kept o e =
      ((passed r.file.now (fields_of r.header r.file.now there r.taken r.place) part o (tt {0}) e).0, judged r.file.now (fields_of r.header r.file.now there r.taken r.place) part (given o) e)

  more : (a : Answer (Option Part)) → a ≡ next_answer r → Stands file (after r a) (so_far ++ given_bytes a)
  more (refused why) e = subst (Stands file r) (sym (append-nil so_far)) h
  more (given None) e = subst (Stands file r) (sym (append-nil so_far)) h
  more (given (Some p)) e =
      let k = kept (Some p) e in
      let size = size_of r.header r.file.now there r.place in
      let bytes = parted r.header r.file.now r.place there p k.0 ∙ ap (λ f. part_from f r.place size) h.same in
      let inside = record_inside r.header r.file.now there r.taken r.place k.1 in
      let long = ap length h.same in
      let from = h.from in
      let at : first_place + (r.place - first_place) ≡ r.place = omega arith in
      let here : take size (drop r.place file) ≡ take size (drop (r.place - first_place) (drop first_place file)) = ap (take size) (sym (drop-drop (r.place - first_place) first_place file ∙ ap (λ n. drop n file) at)) in
      let both = sym (take-add (r.place - first_place) size (drop first_place file)) in
      let sum : (r.place - first_place) + size ≡ (r.place + size) - first_place = omega arith in
      record { same = h.same; from = omega arith; to = omega (arith, inside, long); read = (cc (h.read, bytes, here)) ∙ both ∙ ap (λ n. take n (drop first_place file)) sum }

  whole : given None ≡ next_answer r → so_far ≡ drop first_place file
  whole e =
      let k = kept None e in
      let end = ended r.header r.file.now r.place there r.taken k.0 k.1 ∙ ap length h.same in
      h.read ∙ take_all (r.place - first_place) (drop first_place file) (omega (arith, length-drop first_place file, end))

module _ (r : Reader) (start : r.place ≡ first_place) (long : first_place ≤ length r.file.now) where
  stands : (n : ℕ) → Stands r.file.now (read_on r n) (records_read r n)
  stands zero =
      let none : r.place - first_place ≡ 0 = omega arith in
      record { same = refl; from = omega arith; to = omega arith; read = ap (λ n. take n (drop first_place r.file.now)) (sym none) }
  stands (suc n) = more r.file.now (read_on r n) (records_read r n) (stands n) (next_answer (read_on r n)) refl

  pub records_are_the_file : RecordsAreTheFile r
  records_are_the_file n e = whole r.file.now (read_on r n) (records_read r n) (stands n) (sym e)
