-- What the headers of two files say together.
use Rattle.std.specs.Prelude.{ℕ, List, [], ◌∷◌, ◌++◌, codes, decimal, Ok, Err, Result}
use Rattle.refusals.specs.Answers.{Answer, given, refused}
use Rattle.refusals.specs.declared.Refusal.{Refusal}
use Rattle.fields.specs.Fields.{AllKept, FirstRefused}
use Rattle.files.specs.Headers.{header_refusal, plan_fields, table_fields, header_in, plan_header, table_header}
use Rattle.files.specs.declared.headers.PlanHeader.{PlanHeader}
use Rattle.judge.specs.declared.interim.HeadersFault.{HeadersFault}
use Rattle.judge.specs.declared.interim.HeadersFault.TheVariants.{Plan, Table}

pub data Agreement : Type 0 where
  agree : Agreement
  in_plan : Refusal → Agreement
  in_table : Refusal → Agreement

-- the number and place of each answer, and the file it speaks of
abbrev pub agreement_of : Result (Unit {0}) HeadersFault → Agreement
agreement_of (Ok _) = agree
agreement_of (Err (Plan fault)) = in_plan (header_refusal fault)
agreement_of (Err (Table fault)) = in_table (header_refusal fault)

abbrev pub by_table : Answer (Unit {0}) → Agreement
by_table (given _) = agree
by_table (refused r) = in_table r

abbrev pub by_plan : List ℕ → Answer PlanHeader → Agreement
by_plan table (given header) = by_table (table_header table header)
by_plan table (refused r) = in_plan r

-- the plan's header decides first, then the table's beside it
abbrev pub headers_agreement : List ℕ → List ℕ → Agreement
headers_agreement plan table = by_plan table (plan_header plan)

-- what each answer means
abbrev pub Judged : List ℕ → List ℕ → Agreement → Type 0
Judged plan table agree = AllKept plan plan_fields × AllKept table (table_fields (header_in plan))
Judged plan table (in_plan r) = FirstRefused plan plan_fields r
Judged plan table (in_table r) = AllKept plan plan_fields × FirstRefused table (table_fields (header_in plan)) r

abbrev pub refused_line : Refusal → List ℕ → List ℕ
refused_line r file =
    codes "headers refused " ++ (decimal r.number ++ (file ++ (decimal r.first ++ (10 ∷ []))))

abbrev pub line_of : Agreement → List ℕ
line_of agree = codes "headers agree" ++ (10 ∷ [])
line_of (in_plan r) = refused_line r (codes " plan ")
line_of (in_table r) = refused_line r (codes " table ")
