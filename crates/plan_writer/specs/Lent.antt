-- What is lent to be written, as the contents of a plan file.
use Rattle.std.specs.Prelude.{ℕ, List, map}
use Rattle.refusals.specs.Answers.{Answer, and_then, unless}
use Rattle.refusals.specs.Searches.{or_else}
use Rattle.fields.specs.Laid.{passing}
use Rattle.times.specs.Moments.{Moment}
use Rattle.heads.specs.Heads.{outline_of}
use Rattle.plans.specs.Memory.{many_refusal, limits_refusal}
use Rattle.plans.specs.Views.{limit_of}
use Rattle.heads.specs.declared.Head.{Head}
use Rattle.plans.specs.declared.limits.Limit.{Limit}
use Rattle.plan_records.specs.Names.{run_fields}
use Rattle.plan_contents.specs.Contents.{Contents, contents, plan_in}
use Rattle.plan_writer.specs.declared.sources.Source.{Source}

abbrev pub contents_of : {X : Type 0} → (X → Moment) → Head → List (Limit X) → List ℕ → Contents
contents_of of head limits names = contents (outline_of head) (map (limit_of of) limits) names

-- the same of what is about to be written
abbrev pub contents_in : {X : Type 0} → (X → Moment) → Source X → Contents
contents_in of s = contents_of of s.head.now s.limits.now s.names.now

-- whether memory takes the limits and the run is one of names, or the first refusal
abbrev pub lent_answer : Contents → Answer (Unit {0})
lent_answer c =
    and_then (unless (or_else (many_refusal (plan_in c)) (limits_refusal (plan_in c))) (tt {0})) (λ _. passing c.names (run_fields c.names c.head.points))
