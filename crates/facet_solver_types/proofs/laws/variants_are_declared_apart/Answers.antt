use Rattle.facet_solver_types.proofs.ApartNames.{is_named, one_variant}
use Rattle.facet_solver_types.proofs.laws.variants_are_declared_apart.Goals as goal

pub returns : goal.returns
returns c = record { named = is_named; apart = one_variant }
