use Rattle.std.specs.List.{All}
use Rattle.facet_solver_reader.specs.Nodes.{members_in, value_of}
use Rattle.facet_solver_reader.specs.Tables.{rules_at}
use Rattle.facet_solver_reader.specs.Why.{IsWithoutTag}
use Rattle.facet_solver_reader.proofs.why.tag.none_by_tag.Given as goal

-- the object lacks the tag for each branch so far
abbrev pub invariant-loop-branch : goal.invariant-loop-branch
invariant-loop-branch l =
    All (IsWithoutTag (rules_at l.tables) (members_in (value_of l.nodes l.object.node)) l.tag)
    l.wanting.items
