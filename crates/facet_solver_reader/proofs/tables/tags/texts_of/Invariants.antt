use Rattle.facet_solver_reader.specs.Nodes.{entries}
use Rattle.facet_solver_reader.proofs.TagTexts.{HoldsUpto}
use Rattle.facet_solver_reader.proofs.tables.tags.texts_of.Given as goal

-- the names of the variants so far are there
abbrev pub invariant-loop-k : goal.invariant-loop-k
invariant-loop-k l = HoldsUpto (entries l.texts.items) l.variants l.k
