use Rattle.std.proofs.Common.{◌≡◌, ◌++◌, map}
use Rattle.serde_json.specs.View.{members_view}
use Rattle.facet_solver.specs.Names.{names_of}
use Rattle.facet_solver_program.specs.Document.{member_view, members_below}
use Rattle.facet_solver_program.proofs.document.+document.Given as goal

-- what is listed, and then what the rest of the object gives, is what was listed first with all of
-- the object
abbrev pub invariant-add_members-loop-name : goal.invariant-add_members-loop-name
invariant-add_members-loop-name l =
    map member_view l.members.items ++ members_below (names_of l.path) (members_view l.name-iterator)
    ≡ map member_view l.fn.members.items ++ members_below (names_of l.path) (members_view l.object.entries)
