-- What each judgement means.
use Rattle.std.specs.Prelude.{◌≡◌, ◌↔◌, List, ◌++◌, ℕ, ◌^◌, ◌<◌, length}
use Rattle.refusals.specs.Answers.{given}
use Rattle.refusals.specs.declared.Refusal.{Refusal}
use Rattle.fields.specs.Fields.{Field, FirstRefused}
use Rattle.times.specs.declared.codings.Kind.{Kind}
use Rattle.times.specs.Moments.{Moment}
use Rattle.plans.specs.Plans.{limit_at}
use Rattle.offences.specs.Verdicts.{limit_offence, early_offence}
use Rattle.verdicts.specs.Meanings.{Accepted, Refused}
use Rattle.files.specs.Headers.{plan_fields}
use Rattle.plan_contents.specs.Contents.{Contents, plan_in}
use Rattle.plan_contents.specs.Readings.{body_fields, read_plan}
use Rattle.table_files.specs.Layouts.{header_fields_for, body_for}
use Rattle.judgements.specs.Judgements.{Judgement, accepted, in_plan, in_table, breaks, ahead, most_limits, rule_in, table_in, Told}

-- the fields of a plan file, and those of a table file for it
abbrev pub all_plan_fields : List ℕ → List Field
all_plan_fields plan = plan_fields ++ body_fields plan

abbrev pub all_table_fields : Kind → Contents → List ℕ → List Field
all_table_fields kind c table =
    header_fields_for kind c.head.points (length c.head.tests) ++ body_for kind c.head.points (length c.head.tests) table

-- a plan file that is read
pub record PlanRead (plan : List ℕ) : Type 0 where
  pub kind : Kind
  pub contents : Contents
  pub read : read_plan kind plan most_limits ≡ given contents

-- both files are read
pub record BothRead (plan table : List ℕ) : Type 0 where
  pub plan_read : PlanRead plan
  pub times : List Moment
  pub read : table_in plan_read.kind plan_read.contents table ≡ given times

module _ (plan table : List ℕ) where
  -- rows keep their limits, and steps react only to what is seen, under the plan's own rule
  abbrev pub PairAccepted : BothRead plan table → Type 0
  PairAccepted b = let c = b.plan_read.contents in Accepted (plan_in c) b.times (rule_in c)

  -- the refusal names an offence, and nothing before that in the order is one
  abbrev pub PairRefused : BothRead plan table → Refusal → Type 0
  PairRefused b r = let c = b.plan_read.contents in Refused (plan_in c) b.times (rule_in c) r

  -- a refusal of a file names the first field that ends early or breaks its rule
  abbrev pub Says : Judgement → Type 0
  Says accepted = (b : BothRead plan table) × PairAccepted b
  Says (in_plan r) = FirstRefused plan (all_plan_fields plan) r
  Says (in_table r) = (p : PlanRead plan) × FirstRefused table (all_table_fields p.kind p.contents table) r
  Says (breaks row j from to) =
      (b : BothRead plan table) × PairRefused b (limit_offence row j) × (from ≡ (limit_at (plan_in b.plan_read.contents) j).from) × (to ≡ (limit_at (plan_in b.plan_read.contents) j).to)
  Says (ahead a b x) = (r : BothRead plan table) × PairRefused r (early_offence a b x)

  -- accepted exactly when both files are read and the pair is accepted; and what any judgement says
  pub record Meant (j : Judgement) : Type 0 where
    pub accepts : (j ≡ accepted) ↔ ((b : BothRead plan table) × PairAccepted b)
    pub says : Says j

-- each part of a judgement fits the bytes that tell it
pub record Fits (t : Told) : Type 0 where
  pub number : t.number < 2 ^ 16
  pub layer : t.layer < 2 ^ 16
  pub first : t.first < 2 ^ 32
  pub second : t.second < 2 ^ 32
  pub third : t.third < 2 ^ 32
