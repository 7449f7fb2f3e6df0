use Rattle.std.proofs.Common.{take}
use Rattle.facet_solver_reader.specs.Documents.{members, members_view}
use Rattle.facet_solver_reader.specs.Nodes.{IsAppended, numbered}
use Rattle.facet_solver_reader.proofs.nodes.numbering.push_names.Given as goal

-- the names so far are added
abbrev pub invariant-loop-index : goal.invariant-loop-index
invariant-loop-index l = IsAppended l.initial.by_name.items l.by_name.items (take l.index (numbered l.first (members (members_view l.members))))
