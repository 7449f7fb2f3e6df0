use Rattle.std.proofs.Common.{sym, subst}
use Rattle.facet_solver.specs.build.NestedNames.{AreRising}
use Rattle.facet_solver.proofs.NestedNames.{no_names_rise}
use Rattle.facet_solver.proofs.build.nested.by_name.FieldsByName.empty.Goals as goal

pub invariant_of-result : goal.invariant_of-result
invariant_of-result c = record { rise = subst AreRising (sym c.new.ensures.items) no_names_rise }
