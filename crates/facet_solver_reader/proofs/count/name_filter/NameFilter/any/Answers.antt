use Rattle.std.proofs.Common.{ap, nat_eq}
use Rattle.std.proofs.lemmas.Nat.Bits.{bit_at_ones}
use Rattle.facet_solver_reader.specs.NameFilters.{bit_of}
use Rattle.facet_solver_reader.proofs.NameFilters.{bit_of_below}
use Rattle.facet_solver_reader.proofs.count.name_filter.NameFilter.any.Goals as goal

pub returns : goal.returns
returns c = λ x. ap (λ b. nat_eq b 1) (bit_at_ones 64 (bit_of x) (bit_of_below x))
