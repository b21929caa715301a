-- What writing a plan file gives.
use Rattle.times.specs.declared.codings.Kind.{Kind}
use Rattle.std.specs.Prelude.{◌≡◌, ℕ, ◌<◌, ◌≤◌, List, ◌++◌, length, drop}
use Rattle.refusals.specs.Answers.{Answer, given, refused, and_then, unless, refusal_at}
use Rattle.refusals.specs.declared.Refusal.{Refusal}
use Rattle.fields.specs.Fields.{AllKept, FirstRefused}
use Rattle.fields.specs.Laid.{passing}
use Rattle.refusals.specs.Rooms.{room_answer}
use Rattle.plans.specs.Memory.{many_refusal, limits_refusal, LimitsKept, LimitsRefused}
use Rattle.refusals.specs.Searches.{or_else}
use Rattle.plan_records.specs.Names.{run_fields}
use Rattle.plan_contents.specs.Contents.{Contents, plan_in, plan_bytes, plan_length}

module _ (kind : Kind) (c : Contents) where
  -- 4, 8 and 9 as in memory; then 1, 6 and 10 in the run of names; then 11 with the file's length
  abbrev pub write_plan : ℕ → Answer ℕ
  write_plan room =
      and_then (unless (or_else (many_refusal (plan_in c)) (limits_refusal (plan_in c))) (tt {0})) (λ _. and_then (passing c.names (run_fields c.names c.head.points)) (λ _. and_then (room_answer room (plan_length kind c)) (λ _. given (plan_length kind c))))

  -- the file, and what lay past it; or all as it was
  abbrev pub left_by : Answer ℕ → List ℕ → List ℕ
  left_by (given n) out = plan_bytes kind c ++ drop n out
  left_by (refused r) out = out

  -- what an array of bytes holds afterwards
  abbrev pub written : List ℕ → List ℕ
  written out = left_by (write_plan (length out)) out

  -- the same in words

  pub record IsWritten (room n : ℕ) : Type 0 where
    pub limits : LimitsKept (plan_in c)
    pub names : AllKept c.names (run_fields c.names c.head.points)
    pub room_for : plan_length kind c ≤ room
    pub size : n ≡ plan_length kind c

  -- what is named breaks its rule, and nothing before it does
  pub data WriteRefused (room : ℕ) : Refusal → Type 0 where
    in_memory : (r : Refusal) → LimitsRefused (plan_in c) r → WriteRefused room r
    in_names : (r : Refusal) → LimitsKept (plan_in c) → FirstRefused c.names (run_fields c.names c.head.points) r → WriteRefused room r
    no_room : LimitsKept (plan_in c) → AllKept c.names (run_fields c.names c.head.points) → room < plan_length kind c → WriteRefused room (refusal_at 11 (plan_length kind c))

  abbrev pub WriteSays : ℕ → Answer ℕ → Type 0
  WriteSays room (given n) = IsWritten room n
  WriteSays room (refused r) = WriteRefused room r

  -- a refusal is given exactly when what it names is the first
  pub record RefusedExactly (room : ℕ) (r : Refusal) : Type 0 where
    pub only : write_plan room ≡ refused r → WriteRefused room r
    pub always : WriteRefused room r → write_plan room ≡ refused r
