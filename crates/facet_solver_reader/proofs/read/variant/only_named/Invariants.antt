use Rattle.std.proofs.Common.{map}
use Rattle.facet_solver_reader.specs.Views.{named_view}
use Rattle.facet_solver_reader.proofs.OnlyNamed.{IsFoundAmong}
use Rattle.facet_solver_reader.proofs.read.variant.only_named.Given as goal

-- which of the variants before this one alone has the name, if one has it
abbrev pub invariant-loop-k : goal.invariant-loop-k
invariant-loop-k l = IsFoundAmong (map named_view l.variants) l.name l.found l.k
