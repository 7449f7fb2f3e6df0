use Rattle.std.proofs.Common.{◌≡◌, map, take}
use Rattle.facet_solver_reader.specs.Documents.{view}
use Rattle.facet_solver_witnesses.specs.Trees.{tree}
use Rattle.facet_solver_witnesses.proofs.Trees.{own_member, seen_member}
use Rattle.facet_solver_witnesses.proofs.value.Value.+document.Given as goal

-- the documents of the items before this one
abbrev pub invariant-loop-item : goal.invariant-loop-item
invariant-loop-item l = map view l.documents.items ≡ map tree (take l.item-index l.item-items)

-- those of the members before this one
abbrev pub invariant-loop-member : goal.invariant-loop-member
invariant-loop-member l =
    map seen_member l.documents.items ≡ map own_member (take l.member-index l.member-items)
