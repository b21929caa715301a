-- Plan files and their contents determine each other.
use Rattle.times.specs.declared.codings.Kind.{Kind}
use Rattle.std.proofs.Common.{◌≡◌, ℕ, ◌+◌, ◌≤◌, List, [], ◌∷◌, ◌++◌, length, take, drop, sym, ap, ◌∙◌, subst, arith}
use Rattle.std.proofs.lemmas.List.{take_at}
use Rattle.std.proofs.lemmas.Bool.{le-leb, le-ltb}
use Rattle.refusals.specs.Answers.{given}
use Rattle.fields.specs.Fields.{AllKept}
use Rattle.fields.specs.Laid.{passing}
use Rattle.fields.specs.Readings.{AllRead, end_field}
use Rattle.fields.proofs.Laid.{yes, length-laid, kept_both, kept_each}
use Rattle.fields.proofs.Readings.{kept_checked, read_says, read_is}
use Rattle.time_fields.proofs.Spelled.{Bytes}
use Rattle.plans.proofs.Memories.{none_from_limits}
use Rattle.files.specs.Headers.{plan_fields_of}
use Rattle.plan_records.specs.Names.{name_fields, name_place, names_fields, run_fields}
use Rattle.plan_records.specs.Records.{record_count, limit_in}
use Rattle.plan_contents.specs.Contents.{Contents, plan_in, IsNames, IsPlan, plan_bytes, plan_length}
use Rattle.plan_contents.specs.Readings.{header, place, body_fields, contents_in, read_plan, PlanSays}
use Rattle.plan_contents.specs.Writings.{write_plan, left_by}
use Rattle.plan_contents.specs.Trips.{IsFileOf, Rewritten, ReadExactly, WritesBack}
use Rattle.plan_contents.proofs.Places.{end_at}
use Rattle.plan_contents.proofs.Bodies.{body_parts}
use Rattle.plan_contents.proofs.Lengths.{length-plan}
use Rattle.plan_contents.proofs.Cutting.{is_plan, spelled}
use Rattle.plan_contents.proofs.Filing.{headed, bodied, count, long, same_contents}

-- a run of names keeps its fields
run_kept : (n : ℕ) (run : List ℕ) → IsNames n run → AllKept run (run_fields run n)
run_kept n run h =
    let full = h.full in
    kept_both run (names_fields run 0 n) (end_field run (name_place run 0 n) ∷ []) (kept_each run (λ i. name_fields run 0 i (name_place run 0 i)) n h.each) (record { there = omega arith; kept = le-leb (length run) (name_place run 0 n) (omega arith) }, tt)

-- a plan is written where there is room for its file
plan_written : (kind : Kind) (c : Contents) (room : ℕ) → IsPlan kind c → plan_length kind c ≤ room → write_plan kind c room ≡ given (plan_length kind c)
plan_written kind c room plan l =
    let names : passing c.names (run_fields c.names c.head.points) ≡ yes = kept_checked c.names (run_fields c.names c.head.points) tt (run_kept c.head.points c.names plan.names) in
    rw (none_from_limits (plan_in c) plan.limits, names, le-ltb room (plan_length kind c) l)

module _ (kind : Kind) (file : List ℕ) (room : ℕ) where
  -- every field is kept, and there is room for the limits
  abbrev pub Whole : Type 0
  Whole = AllRead file (plan_fields_of kind) (body_fields file) (header file).limits room

  pub whole_from : (c : Contents) → read_plan kind file room ≡ given c → Whole
  whole_from c e =
      subst (PlanSays kind file room) e (read_says file (plan_fields_of kind) (body_fields file) (header file).limits room (contents_in file kind))

  pub read_whole : Whole → read_plan kind file room ≡ given (contents_in file kind)
  read_whole = read_is file (plan_fields_of kind) (body_fields file) (header file).limits room (contents_in file kind)

  pub contents_kept : Bytes file → Whole → IsPlan kind (contents_in file kind)
  contents_kept small h = is_plan kind file h.header_kept h.body_kept small

  module _ (c : Contents) where
    given_same : (d : Contents) → given c ≡ given d → c ≡ d
    given_same d e = cc

    pub is_file_of : Bytes file → read_plan kind file room ≡ given c → IsFileOf kind room c file
    is_file_of small e =
        let h = whole_from c e in
        let same = given_same (contents_in file kind) (sym e ∙ read_whole h) in
        let count = length-laid (λ j. limit_in kind file (place file ((header file).points + (header file).tests + j))) (header file).limits in
        let room_for = h.room_for in
        subst (λ c. IsFileOf kind room c file) (sym same) (record { bytes = spelled kind file h.header_kept h.body_kept small; plan = contents_kept small h; room_for = omega arith })

    module _ (is : IsFileOf kind room c file) where
      pub file_is_read : read_plan kind file room ≡ given c
      file_is_read =
          let n = count kind c file is.bytes is.plan in
          let fits = is.room_for in
          read_whole (record { header_kept = headed kind c file is.bytes is.plan; room_for = omega arith; body_kept = bodied kind c file is.bytes is.plan }) ∙ ap given (same_contents kind c file is.bytes is.plan)

      rewritten : Rewritten kind file room c
      rewritten =
          let size = long kind c file is.bytes is.plan in
          let answer : (out : List ℕ) → length file ≤ length out → write_plan kind c (length out) ≡ given (length file) = λ out l. plan_written kind c (length out) is.plan (omega arith) ∙ ap given (sym size) in
          record { answer = answer; bytes = λ out l. ap (λ a. left_by kind c a out) (answer out l) ∙ ap (λ f. f ++ drop (length file) out) (sym is.bytes) }

module _ (kind : Kind) (file : List ℕ) (room : ℕ) (small : Bytes file) where
  pub read_exactly : ReadExactly kind file room
  read_exactly c = record { only = is_file_of kind file room c small; always = file_is_read kind file room c }

  pub writes_back : WritesBack kind file room
  writes_back c e = rewritten kind file room c (is_file_of kind file room c small e)

-- the front of an array that a file was written to
pub reads_back : (kind : Kind) (c : Contents) (after rest : List ℕ) (n : ℕ) → IsPlan kind c → after ≡ plan_bytes kind c ++ rest → n ≡ plan_length kind c → (room : ℕ) → length c.limits ≤ room → read_plan kind (take n after) room ≡ given c
reads_back kind c after rest n plan e q room l =
    let front = ap (take n) e ∙ take_at (plan_bytes kind c) rest n (length-plan kind c ∙ sym q) in
    file_is_read kind (take n after) room c (record { bytes = front; plan = plan; room_for = l })
