use Rattle.facet_solver_reader.specs.Blaming.{AreTakenLists}
use Rattle.facet_solver_reader.proofs.why.several.split_in_list.Given as goal

-- the lists that are marked so far are taken
abbrev pub invariant-loop-part : goal.invariant-loop-part
invariant-loop-part l = AreTakenLists l.tables l.nodes l.tallied.object l.chosen
