-- How long plan files are.
use Rattle.std.proofs.Common.{◌≡◌, ◌*◌, List, [], ◌∷◌, ◌++◌, length, ◌∙◌, arith}
use Rattle.std.specs.List.{flat_map}
use Rattle.std.proofs.lemmas.List.{length-append}
use Rattle.times.specs.declared.codings.Kind.{Kind}
use Rattle.times.specs.Moments.{Moment}
use Rattle.time_fields.proofs.Widths.{length-time_bytes}
use Rattle.plans.specs.declared.limits.Limit.{Limit}
use Rattle.plan_contents.specs.Contents.{Contents, limit_bytes, header_bytes, plan_bytes, plan_length}
use Rattle.plan_contents.proofs.Places.{limit_size, limit_size_more}

module _ (kind : Kind) where
  pub length-limit_bytes : (l : Limit Moment) → length (limit_bytes kind l) ≡ limit_size kind
  length-limit_bytes l = omega (arith, length-time_bytes kind l.bound)

  pub length-limits : (ls : List (Limit Moment)) → length (flat_map (limit_bytes kind) ls) ≡ limit_size kind * length ls
  length-limits [] = let none : 0 ≡ limit_size kind * 0 = omega arith in none
  length-limits (l ∷ ls) =
      length-append (limit_bytes kind l) _ ∙ omega (arith, length-limit_bytes l, length-limits ls, limit_size_more kind (length ls))

  pub length-plan : (c : Contents) → length (plan_bytes kind c) ≡ plan_length kind c
  length-plan c =
      let limits = flat_map (limit_bytes kind) c.limits in
      length-append (header_bytes kind c) _ ∙ omega (arith, length-append c.names (c.head.tests ++ limits), length-append c.head.tests limits, length-limits c.limits)
