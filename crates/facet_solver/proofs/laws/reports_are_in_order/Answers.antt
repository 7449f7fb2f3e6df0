use Rattle.std.proofs.Common.{not}
use Rattle.std.specs.Cmp.Lexicographic.{slice_cmp}
use Rattle.std.specs.FinMap as finite
use Rattle.std.specs.List.{flat_map, list_all}
use Rattle.std.specs.Ordering.{nat_cmp}
use Rattle.std.proofs.lemmas.List.Kept.{IsStrictlySortedBy-filter}
use Rattle.facet_solver.specs.solver.Failure.{in_byte_order, is_met}
use Rattle.facet_solver.specs.Resolutions.{has_field_named}
use Rattle.facet_solver.specs.solver.Report.{resolution_field_names}
use Rattle.facet_solver.proofs.ByteOrder.{sorted-in_byte_order}
use Rattle.facet_solver.proofs.FieldCategories.{fields-stored}
use Rattle.facet_solver.proofs.StoredOrder.{stored_rise}
use Rattle.facet_solver.proofs.laws.reports_are_in_order.Goals as goal

pub returns-clause-disambiguating : goal.returns-clause-disambiguating
returns-clause-disambiguating c = λ resolutions.
    let names = flat_map resolution_field_names resolutions in
    IsStrictlySortedBy-filter (slice_cmp nat_cmp) (λ name. not (list_all (has_field_named name) resolutions)) (in_byte_order names) (sorted-in_byte_order names)

pub returns-clause-missing : goal.returns-clause-missing
returns-clause-missing c = λ build root choice seen r is.
    stored_rise (λ f. not (is_met seen f)) (finite.entries r.fields) (fields-stored build root choice r is) (finite.entries_sorted r.fields)
