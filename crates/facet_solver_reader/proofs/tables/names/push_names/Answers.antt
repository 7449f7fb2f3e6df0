use Rattle.std.proofs.Common.{ap, sym, ◌∙◌, subst, ◌++◌, List, Bor}
use Rattle.facet_solver_shape.specs.Names.{Name, names_of}
use Rattle.facet_solver_reader.specs.declared.part.Part.{Part}
use Rattle.facet_solver_reader.specs.Placing.{AreNamesAdded, PartHasBranchNamesIn}
use Rattle.facet_solver_reader.specs.Views.{part_view}
use Rattle.facet_solver_reader.proofs.PartNames.{member_added, selection_added}
use Rattle.facet_solver_reader.proofs.tables.names.push_names.Goals as goal

pub returns-in_ok-push-in-Member : goal.returns-in_ok-push-in-Member
returns-in_ok-push-in-Member c = λ o named.
    subst (λ (p : Part). AreNamesAdded o (part_view p) (names_of c.args.names.now.items) (names_of c.push.new.self.items)) (sym c.in-Member.is)
    (member_added o c.in-Member.member c.args.names.now.items c.push.new.self.items c.in_ok-push-in-Member.ensures.items)

pub returns-in_ok-extend_from_slice-in-Selection : goal.returns-in_ok-extend_from_slice-in-Selection
returns-in_ok-extend_from_slice-in-Selection c = λ o named.
    let s = c.in-Selection.selection in
    subst (λ (p : Part). AreNamesAdded o (part_view p) (names_of c.args.names.now.items) (names_of c.extend_from_slice.new.self.items)) (sym c.in-Selection.is)
    (selection_added o s c.args.names.now.items s.names.items c.extend_from_slice.new.self.items
    (c.in_ok-extend_from_slice-in-Selection.ensures.items ∙ ap (λ (ns : List (Bor Name)). c.args.names.now.items ++ ns) c.deref.ensures.value)
    (subst (PartHasBranchNamesIn o) c.in-Selection.is named).those)
