-- Records at a place.
use Rattle.std.proofs.Common.{ℕ, ◌+◌, ◌≤◌, List, length, arith}
use Rattle.fields.specs.Fields.{AllKept}
use Rattle.files.specs.declared.headers.PlanHeader.{PlanHeader}
use Rattle.plan_records.specs.Records.{Sort, a_name, a_test, a_limit, the_end, fields_of, size_of}

module _ (header : PlanHeader) (file : List ℕ) where
  -- a record whose fields are kept lies in the file
  pub record_inside : (s : Sort) (r at : ℕ) → AllKept file (fields_of header file s r at) → at + size_of header file s at ≤ length file
  record_inside a_name r at h = omega (arith, h.1.0.there)
  record_inside a_test r at h = omega (arith, h.0.there)
  record_inside a_limit r at h = omega (arith, h.1.0.there)
  record_inside the_end r at h = omega (arith, h.0.there)
