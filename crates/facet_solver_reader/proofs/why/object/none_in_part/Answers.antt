use Rattle.std.proofs.Common.{ap, length, subst}
use Rattle.facet_solver_reader.specs.SelectionNames.{PartHasBranchNames}
use Rattle.facet_solver_reader.specs.Tables.{PartIsBefore, PartIsServed, rules_at}
use Rattle.facet_solver_reader.specs.Views.{part_view}
use Rattle.facet_solver_reader.proofs.Blaming.{listed_of_below, part_before, part_served}
use Rattle.facet_solver_reader.proofs.why.object.none_in_part.Goals as goal

pub none_in_selection-requires-clause-served : goal.none_in_selection-requires-clause-served
none_in_selection-requires-clause-served c =
    let t = c.args.tables.now in
    let tables = c.requires.sound.tables in
    let l = c.args.list.now in
    subst (PartIsServed t) (ap part_view c.in-Selection.is)
    (part_served t tables l (part_view c.args.part.now)
    (listed_of_below t tables c.args.asked.now.object l c.requires.below) c.requires.part)

pub none_in_selection-requires-clause-before : goal.none_in_selection-requires-clause-before
none_in_selection-requires-clause-before c =
    let t = c.args.tables.now in
    let a = c.args.asked.now in
    subst (PartIsBefore t a.object.list.now.below.items (length a.counts.items))
    (ap part_view c.in-Selection.is)
    (part_before t c.requires.sound.tables c.args.nodes.now a.object c.requires.asked.object
    c.args.list.now (part_view c.args.part.now) (length a.counts.items) c.requires.below
    c.requires.part c.requires.asked.each)

pub none_taken-requires-clause-served : goal.none_taken-requires-clause-served
none_taken-requires-clause-served c =
    let t = c.args.tables.now in
    let tables = c.requires.sound.tables in
    let l = c.args.list.now in
    subst (PartIsServed t) (ap part_view c.in-CatchAll.is)
    (part_served t tables l (part_view c.args.part.now)
    (listed_of_below t tables c.args.asked.now.object l c.requires.below) c.requires.part)

pub none_in_selection-requires-clause-named : goal.none_in_selection-requires-clause-named
none_in_selection-requires-clause-named c =
    subst (PartHasBranchNames (rules_at c.args.tables.now).lists) c.in-Selection.is c.requires.named
