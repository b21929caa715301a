-- A file is read with times exactly when it is their file.
use Rattle.std.proofs.Common.{◌≡◌, ℕ, ◌+◌, ◌*◌, ◌^◌, ◌<◌, ◌≤◌, List, [], ◌∷◌, ◌++◌, length, get_or, take, drop, sym, ap, ◌∙◌, subst, mul_comm, arith}
use Rattle.std.specs.List.{flat_map, AllByRecursion}
use Rattle.std.proofs.lemmas.Nat.{mul-add-lt}
use Rattle.std.proofs.ByRecursion.{All-from_get_or}
use Rattle.std.proofs.lemmas.List.{same_lists, take_all, take_at, length-drop}
use Rattle.std.proofs.lemmas.Bool.{le-leb}
use Rattle.refusals.specs.Answers.{Answer, given, unless}
use Rattle.fields.specs.Fields.{Kept, AllKept}
use Rattle.fields.specs.Readings.{end_field}
use Rattle.fields.proofs.Laid.{yes, length-laid, get_or-laid, kept_left, kept_both, kept_at, kept_each}
use Rattle.times.specs.declared.codings.Kind.{Kind}
use Rattle.times.specs.Coding.{width_of, time_at, time_bytes}
use Rattle.times.specs.Moments.{Moment}
use Rattle.time_fields.specs.Kinds.{OfKind}
use Rattle.time_fields.proofs.Spelled.{Bytes, of_kind_at}
use Rattle.plans.specs.Memory.{allowed, memory_refusal, TimesKept}
use Rattle.plans.specs.Plans.{origin}
use Rattle.heads.specs.declared.Head.{Head}
use Rattle.plans.proofs.Memories.{none_from_times}
use Rattle.heads.proofs.Tests.{length-tests}
use Rattle.table_files.specs.Layouts.{table_size, time_place, table_length, header_fields, table_time, row_fields, time_fields, body_fields}
use Rattle.table_files.specs.Readings.{times_in, counted, read_table, IsRead}
use Rattle.table_files.specs.Writings.{bare, header_bytes, table_bytes}
use Rattle.table_files.specs.Trips.{IsTable, IsFileOf, Rewritten, ReadExactly, WritesBack, Checked, Ready}
use Rattle.table_files.proofs.Timed.{place_in}
use Rattle.table_files.proofs.Judging.{given_same, size_small, read_says, read_is, exact_length, refuses_exactly}
use Rattle.table_files.proofs.Putting.{length-table}
use Rattle.table_files.proofs.Outcomes.{full_size, goes}
use Rattle.table_files.proofs.Spelled.{times_there, coded_again}
use Rattle.table_files.proofs.Headed.{header_spelled, header_kept}

-- the number of a point in a row
number_in : (head : Head) (row x : ℕ) → row < 2 ^ head.letters → x < head.points → row * head.points + x < table_size head
number_in head row x h l =
    omega (arith, mul-add-lt row head.points x (2 ^ head.letters) h l, mul_comm (2 ^ head.letters) head.points)

module _ (kind : Kind) (head : Head) (file : List ℕ) where
  abbrev read_times : List Moment
  read_times = times_in kind file (table_size head)

  abbrev at : ℕ → Moment
  at i = time_at kind file (time_place kind i)

  times_kept : AllKept file (time_fields kind head file) → TimesKept (bare head) read_times
  times_kept h = record {
    full = length-laid at (table_size head) ∙ sym (ap (λ n. 2 ^ n * head.points) (length-tests head));
    each = λ row x r l.
        let there = subst (λ n. row < 2 ^ n) (length-tests head) r in
        let fields = kept_at file (row_fields kind head file) (2 ^ head.letters) row there h in
        let time = kept_at file (λ x. table_time kind head file row x ∷ []) head.points x l fields in
        let same = get_or-laid at (table_size head) (row * head.points + x) origin (number_in head row x there l) in
        ap (allowed x) same ∙ time.0.kept;
  }

  all_of_kind : Bytes file → table_length kind head ≤ length file → AllByRecursion (OfKind kind) read_times
  all_of_kind small room =
      All-from_get_or (OfKind kind) read_times origin (λ i h.
      let long = length-laid at (table_size head) in
      let l : i < table_size head = omega arith in
      let inside = place_in kind i (table_size head) l in
      subst (OfKind kind) (sym (get_or-laid at (table_size head) i origin l)) (of_kind_at kind file small (time_place kind i) (omega arith)))

  module _ (room : ℕ) (ts : List Moment) where
    read_parts : read_table kind head file room ≡ given ts → IsRead kind head file room (length ts) × (ts ≡ read_times)
    read_parts e =
        let is = read_says kind head file room (given (length ts)) (sym (ap counted e)) in
        (is, given_same ts read_times (sym e ∙ read_is kind head file room is.kept))

    pub is_file_of : Bytes file → read_table kind head file room ≡ given ts → IsFileOf kind head room ts file
    is_file_of small e =
        let p = read_parts e in
        let is = p.0 in
        let ends = exact_length kind head file room is.kept in
        let header = header_spelled kind head file small is.kept.header_kept in
        let again = coded_again kind file small (table_size head) (omega arith) in
        let short = length-drop 7 file in
        let rest : take (width_of kind * table_size head) (drop 7 file) ≡ drop 7 file = take_all _ _ (omega arith) in
        let bytes : file ≡ table_bytes kind head read_times = header ∙ ap (λ l. header_bytes kind head ++ l) (sym (again ∙ rest)) in
        let table : IsTable kind head read_times = record { kept = times_kept (kept_left file (time_fields kind head file) (end_field file (table_length kind head) ∷ []) is.kept.body_kept); of_kind = all_of_kind small (omega arith) } in
        subst (λ ts. IsFileOf kind head room ts file) (sym p.1) (record { bytes = bytes; table = table; room_for = is.kept.room_for })

    module _ (is : IsFileOf kind head room ts file) where
      size : length ts ≡ table_size head
      size = full_size head ts is.table.kept

      long : length file ≡ table_length kind head
      long = ap length is.bytes ∙ length-table kind head ts ∙ ap (time_place kind) size

      there : (i : ℕ) (d : Moment) → i < table_size head → at i ≡ get_or ts i d
      there i d h = times_there kind file ts 7 i d (ap (drop 7) is.bytes) is.table.of_kind (omega (arith, size))

      same_times : read_times ≡ ts
      same_times =
          let n = length-laid at (table_size head) in
          same_lists read_times ts (n ∙ sym size) (λ i d h. get_or-laid at (table_size head) i d (omega arith) ∙ there i d (omega arith))

      header_there : AllKept file (header_fields kind head)
      header_there = subst (λ f. AllKept f (header_fields kind head)) (sym is.bytes) (header_kept kind head (flat_map (time_bytes kind) ts))

      time_there : (row x : ℕ) → row < 2 ^ head.letters → x < head.points → Kept file (table_time kind head file row x)
      time_there row x r l =
          let i = row * head.points + x in
          let below = number_in head row x r l in
          let inside = place_in kind i (table_size head) below in
          let rows = subst (λ n. row < 2 ^ n) (sym (length-tests head)) r in
          record { there = omega (arith, inside, long); kept = ap (allowed x) (there i origin below) ∙ is.table.kept.each row x rows l }

      body_there : AllKept file (body_fields kind head file)
      body_there =
          let times = kept_each file (row_fields kind head file) (2 ^ head.letters) (λ row r. kept_each file (λ x. table_time kind head file row x ∷ []) head.points (λ x l. (time_there row x r l, tt))) in
          kept_both file (time_fields kind head file) (end_field file (table_length kind head) ∷ []) times (record { there = omega (arith, long); kept = le-leb (length file) (table_length kind head) (omega (arith, long)) }, tt)

      pub file_is_read : read_table kind head file room ≡ given ts
      file_is_read =
          read_is kind head file room (record { header_kept = header_there; room_for = is.room_for; body_kept = body_there }) ∙ ap given same_times

      pub rewritten : Rewritten kind head file room ts
      rewritten =
          let none = none_from_times (bare head) ts is.table.kept in
          let passes : yes ≡ unless (memory_refusal (bare head) ts) tt = ap (λ o. unless o tt) (sym none) in
          record {
            answer = λ out h. sym (goes kind head ts out passes is.table.kept (omega (arith, long))).answer ∙ ap given (sym long);
            bytes = λ out h. sym (goes kind head ts out passes is.table.kept (omega (arith, long))).left ∙ ap (λ n. table_bytes kind head ts ++ drop n out) (sym long) ∙ ap (λ f. f ++ drop (length file) out) (sym is.bytes);
          }

module _ (kind : Kind) (head : Head) (file : List ℕ) (room : ℕ) (small : Bytes file) where
  pub read_exactly : ReadExactly kind head file room
  read_exactly ts = record { only = is_file_of kind head file room ts small; always = file_is_read kind head file room ts }

  pub writes_back : WritesBack kind head file room
  writes_back ts e = rewritten kind head file room ts (is_file_of kind head file room ts small e)

-- of a file that is checked
module _ (kind : Kind) (head : Head) (file : List ℕ) (room : ℕ) where
  pub known : Bytes file → (a : Answer ℕ) → a ≡ counted (read_table kind head file room) → Checked kind head file room a
  known small a e = record {
    says = read_says kind head file room a e;
    refuses = refuses_exactly kind head file room;
    exact = read_exactly kind head file room small;
    back = writes_back kind head file room small;
  }

  pub ready : (n : ℕ) → given n ≡ counted (read_table kind head file room) → Ready kind head file room (given n)
  ready n e =
      let is = read_says kind head file room (given n) e in
      let size = is.size in
      let ends = exact_length kind head file room is.kept in
      let read = read_is kind head file room is.kept in
      (rw size (size_small head), rw size is.kept.room_for, rw (size, ends) (omega arith), rw size read)

-- the front of an array that a file was written to
pub reads_back : (kind : Kind) (head : Head) (ts : List Moment) (after rest : List ℕ) (n : ℕ) → IsTable kind head ts → after ≡ table_bytes kind head ts ++ rest → n ≡ table_length kind head → (room : ℕ) → table_size head ≤ room → read_table kind head (take n after) room ≡ given ts
reads_back kind head ts after rest n table e q room h =
    let size = full_size head ts table.kept in
    let long = length-table kind head ts ∙ ap (time_place kind) size ∙ sym q in
    let front = ap (take n) e ∙ take_at (table_bytes kind head ts) rest n long in
    file_is_read kind head (take n after) room ts (record { bytes = front; table = table; room_for = h })
