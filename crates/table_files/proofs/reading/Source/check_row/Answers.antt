use Rattle.std.proofs.Common.{rules, [], ◌∷◌}
use Rattle.times.specs.Coding.{time_refusal}
use Rattle.table_files.specs.Layouts.{table_time}
use Rattle.table_files.proofs.Passings.{each_laid}
use Rattle.table_files.proofs.reading.Source.check_row.Goals as goal

pub returns : goal.returns
returns g c =
    let file = c.args.self.now.file.now in
    rw c.points.ensures at (each_laid _ _ (search rules) time_refusal file (λ x. table_time g.T.Time.kind c.args.self.now.head.now file c.args.row x ∷ []) c.points.result (λ i a h k. search rules) _ (search rules) c.try_for_each.ensures.runs)
