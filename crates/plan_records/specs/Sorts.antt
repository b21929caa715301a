-- What the code's own list of sorts means.
use Rattle.std.specs.Prelude.{Some, None, Option}
use Rattle.plan_records.specs.Records as r
use Rattle.plan_records.specs.declared.sizes.Sort.{Sort}
use Rattle.plan_records.specs.declared.sizes.Sort.TheVariants.{Name, Test, Limit}

abbrev pub meant : Option Sort → r.Sort
meant (Some Name) = r.a_name
meant (Some Test) = r.a_test
meant (Some Limit) = r.a_limit
meant None = r.the_end
