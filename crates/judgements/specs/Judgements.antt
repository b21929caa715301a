-- What a plan file and a table file come to.
use Rattle.std.specs.Prelude.{cond, List, ℕ, eqb, length}
use Rattle.refusals.specs.Answers.{Answer, given, refused}
use Rattle.refusals.specs.declared.Refusal.{Refusal}
use Rattle.times.specs.declared.codings.Kind.{Kind}
use Rattle.times.specs.Moments.{Moment}
use Rattle.rules.specs.Meanings.{Meaning, named_rule}
use Rattle.plans.specs.Plans.{Plan, limit_at}
use Rattle.offences.specs.Verdicts.{verdict}
use Rattle.files.specs.Headers.{plan_header}
use Rattle.files.specs.declared.headers.PlanHeader.{PlanHeader}
use Rattle.plan_contents.specs.Contents.{Contents, plan_in}
use Rattle.plan_contents.specs.Readings.{read_plan}
use Rattle.table_files.specs.Readings.{table_answer}

pub data Judgement : Type 0 where
  accepted : Judgement
  in_plan : Refusal → Judgement
  in_table : Refusal → Judgement
  -- a row, and a limit with its two points
  breaks : (row limit from to : ℕ) → Judgement
  -- two rows and a point
  ahead : (first second point : ℕ) → Judgement

-- the most limits and times that files can hold
abbrev pub most_limits : ℕ
most_limits = 256

abbrev pub most_times : ℕ
most_times = 3072

-- the rule that a plan names
abbrev pub rule_in : Contents → Meaning
rule_in c = named_rule c.head.round c.head.delay

abbrev pub table_in : Kind → Contents → List ℕ → Answer (List Moment)
table_in kind c table = table_answer kind c.head.points (length c.head.tests) table most_times

abbrev pub by_pair : Plan → Answer (Unit {0}) → Judgement
by_pair p (given u) = accepted
by_pair p (refused r) =
    cond (eqb r.number 12) (breaks r.first r.second (limit_at p r.second).from (limit_at p r.second).to) (ahead r.first r.second r.third)

abbrev pub by_table : Contents → Answer (List Moment) → Judgement
by_table c (given ts) = by_pair (plan_in c) (verdict (plan_in c) ts (rule_in c))
by_table c (refused r) = in_table r

abbrev pub by_plan : Kind → List ℕ → Answer Contents → Judgement
by_plan kind table (given c) = by_table c (table_in kind c table)
by_plan kind table (refused r) = in_plan r

-- in files that hold times of a kind: the plan file, then the table, then the pair under the plan's own rule
abbrev pub judgement_in : Kind → List ℕ → List ℕ → Judgement
judgement_in kind plan table = by_plan kind table (read_plan kind plan most_limits)

abbrev pub by_header : List ℕ → List ℕ → Answer PlanHeader → Judgement
by_header plan table (given h) = judgement_in h.version plan table
by_header plan table (refused r) = in_plan r

-- the kind of time follows from the plan's version
abbrev pub judgement : List ℕ → List ℕ → Judgement
judgement plan table = by_header plan table (plan_header plan)

-- the number of a judgement, which of the two files or the pair it speaks of, and its places
pub record Told : Type 0 where
  pub number : ℕ
  pub layer : ℕ
  pub first : ℕ
  pub second : ℕ
  pub third : ℕ

abbrev pub told_of : ℕ → Refusal → Told
told_of layer r = record { number = r.number; layer = layer; first = r.first; second = r.second; third = r.third }

abbrev pub told : Judgement → Told
told accepted = record { number = 0; layer = 0; first = 0; second = 0; third = 0 }
told (in_plan r) = told_of 1 r
told (in_table r) = told_of 2 r
told (breaks row limit from to) = record { number = 12; layer = 3; first = row; second = limit; third = 0 }
told (ahead first second point) = record { number = 13; layer = 3; first = first; second = second; third = point }
