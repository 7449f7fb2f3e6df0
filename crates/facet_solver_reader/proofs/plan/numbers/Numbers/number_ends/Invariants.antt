use Rattle.facet_solver_reader.proofs.PlanNumbers.{EndsUpto}
use Rattle.facet_solver_reader.proofs.plan.numbers.Numbers.number_ends.Given as goal

-- the shapes before this one that have ends have numbers, and so has what their variants are read as
abbrev pub invariant-loop-index : goal.invariant-loop-index
invariant-loop-index l = EndsUpto l.tables l.initial.self l.self l.index
