use Rattle.std.proofs.Common.{map, take}
use Rattle.std.specs.List.{All}
use Rattle.facet_solver_reader.specs.Known.{Chooses, IsKnown, rest}
use Rattle.facet_solver_reader.specs.Parts.{ListId}
use Rattle.facet_solver_reader.specs.Tables.{rules_at}
use Rattle.facet_solver_reader.specs.Views.{list_view}
use Rattle.facet_solver_reader.proofs.count.selection.knows_rest.Given as goal

-- no branch before this one knows it
abbrev pub invariant-loop-branch : goal.invariant-loop-branch
invariant-loop-branch l =
    All (λ (id : ListId). IsKnown (Chooses (rules_at l.tables).lists id) rest → ⊥)
    (take l.branch-index (map list_view l.branch-items))
