use Rattle.std.proofs.Common.{◌≡◌, refl, Some, length, slice_get}
use Rattle.std.proofs.lemmas.Option.{slice_get_read}
use Rattle.facet_solver_reader.specs.declared.plan.PlannedPart.TheVariants as parts
use Rattle.facet_solver_checker.specs.Forks.{AreBranchesApart, IsSelectionApart}
use Rattle.facet_solver_checker.proofs.BranchesTold.{selection_told}
use Rattle.facet_solver_checker.proofs.SettledPlaces.{told_if}
use Rattle.facet_solver_checker.proofs.forks.selection_apart.Goals as goal

pub returns : goal.returns
returns c =
    let plan = c.args.tables.now.plan.now in
    let apart = c.args.tables.now.apart.now in
    let l = c.in-Some.list.now in
    let p = c.in-Some-Selection.selection in
    let a = c.in-Some-get.first.now in
    let b = c.in-Some-get-2.second.now in
    let lists = c.deref.result.now in
    let read_list = slice_get_read lists (length lists) c.args.at.0 l refl
    c.in-Some.ensures.lookup.3.0 c.in-Some.ensures.lookup.1 in
    let list_is : slice_get plan.lists.items c.args.at.0 ≡ Some l = cc in
    let ps = c.deref-2.result.now in
    let read_part = slice_get_read ps (length ps) c.args.at.1 c.in-Some-Selection.field-0.now refl
    c.in-Some-Selection.ensures.lookup.3.0 c.in-Some-Selection.ensures.lookup.1 in
    let part_is : slice_get l.parts.items c.args.at.1 ≡ Some (parts.Selection p) = cc in
    let firsts = c.deref-3.result.now in
    let read_first = slice_get_read firsts (length firsts) c.args.ways.0 a refl
    c.in-Some-get.ensures.lookup.3.0 c.in-Some-get.ensures.lookup.1 in
    let first_is : slice_get p.branches.items c.args.ways.0 ≡ Some a = cc in
    let seconds = c.deref-4.result.now in
    let read_second = slice_get_read seconds (length seconds) c.args.ways.1 b refl
    c.in-Some-get-2.ensures.lookup.3.0 c.in-Some-get-2.ensures.lookup.1 in
    let second_is : slice_get p.branches.items c.args.ways.1 ≡ Some b = cc in
    told_if (AreBranchesApart plan apart c.args.at.0 c.must_touch-must_touch.result (a, b))
    (IsSelectionApart plan apart c.args.at c.args.ways)
    (selection_told plan apart c.args.at c.args.ways l p a b list_is part_is first_is second_is
    c.must_touch-must_touch.result c.args.tables.now.touched.now.flags.items c.requires.touched
    c.must_touch-must_touch.ensures)
    c.parts_apart.result c.parts_apart.ensures
