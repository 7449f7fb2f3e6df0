use Rattle.facet_solver_shape.specs.Pointers.{NeverEnds}
use Rattle.facet_solver_shape.proofs.Catalogues.{FaultlessBelow}
use Rattle.facet_solver_shape.proofs.shape.catalogue.Shapes.new.Given as goal

-- no shape before this index has a fault, and from the index that is kept there is an end
abbrev pub invariant-loop-index : goal.invariant-loop-index
invariant-loop-index l = record {
  faultless : FaultlessBelow l.shapes.items l.index;
  known : ¬ NeverEnds l.shapes.items l.ending;
}
