use Rattle.std.proofs.Common.{◌≡◌, ◌<◌, List, ap, get_or, inl, length, map, subst, sym}
use Rattle.std.specs.List.{All}
use Rattle.facet_solver_reader.specs.Blaming.{IsTakenBranch, IsTakenPart}
use Rattle.facet_solver_reader.specs.declared.read_error.Branch.{Branch}
use Rattle.facet_solver_reader.specs.SelectionNames.{PartHasBranchNames}
use Rattle.facet_solver_reader.specs.Tables.{PartIsBefore, PartIsServed, rules_at}
use Rattle.facet_solver_reader.specs.Views.{part_view, parts_view}
use Rattle.facet_solver_reader.proofs.Blaming.{listed_of_below, part_before, part_served}
use Rattle.facet_solver_reader.proofs.CountingObjects.{seen_read}
use Rattle.facet_solver_reader.proofs.NamedParts.{part_named}
use Rattle.facet_solver_reader.proofs.why.several.split_in_list.Goals as goal
use Rattle.facet_solver_reader.proofs.why.several.split_in_list.Goals.{in-Selection+in_ok-branches+else-len-gt1, in-Some, in_default-first, in_default}

pub branches_of-requires-clause-served : goal.branches_of-requires-clause-served
branches_of-requires-clause-served c =
    let t = c.args.tables.now in
    let o = c.args.tallied.now.object in
    let l = c.args.list.now in
    let ps = parts_view l.parts.items in
    let i = c.loop-part.part-index in
    let at = seen_read part_view c.deref-part-items.result.now ps i c.part-item.result
    (ap (map part_view) c.deref-part-items.ensures.value) c.loop-part-test.true c.part-item.is in
    subst (PartIsServed t) (ap part_view c.in-Selection.is)
    (part_served t c.requires.tables l (part_view c.part-item.result)
    (listed_of_below t c.requires.tables o l c.requires.below) (i, at))

pub branches_of-requires-clause-before : goal.branches_of-requires-clause-before
branches_of-requires-clause-before c =
    let t = c.args.tables.now in
    let a = c.args.tallied.now in
    let o = a.object in
    let l = c.args.list.now in
    let ps = parts_view l.parts.items in
    let i = c.loop-part.part-index in
    let at = seen_read part_view c.deref-part-items.result.now ps i c.part-item.result
    (ap (map part_view) c.deref-part-items.ensures.value) c.loop-part-test.true c.part-item.is in
    subst (PartIsBefore t o.list.now.below.items (length a.counts.items))
    (ap part_view c.in-Selection.is)
    (part_before t c.requires.tables c.args.nodes.now o c.requires.tallied.object l
    (part_view c.part-item.result) (length a.counts.items) c.requires.below (i, at)
    c.requires.tallied.each)

pub branches_of-requires-clause-named : goal.branches_of-requires-clause-named
branches_of-requires-clause-named c =
    subst (PartHasBranchNames (rules_at c.args.tables.now).lists) c.in-Selection.is
    (part_named c.args.tables.now c.requires.tables c.args.list.now
    (listed_of_below c.args.tables.now c.requires.tables c.args.tallied.now.object c.args.list.now
    c.requires.below)
    c.deref-part-items.result.now c.deref-part-items.ensures.value c.loop-part.part-index
    c.part-item.result c.loop-part-test.true c.part-item.is)

pub branches_of-requires-clause-part : goal.branches_of-requires-clause-part
branches_of-requires-clause-part c =
    let t = c.args.tables.now in
    let o = c.args.tallied.now.object in
    let l = c.args.list.now in
    let i = c.loop-part.part-index in
    let at = seen_read part_view c.deref-part-items.result.now (parts_view l.parts.items) i
    c.part-item.result (ap (map part_view) c.deref-part-items.ensures.value) c.loop-part-test.true
    c.part-item.is in
    subst (IsTakenPart t c.args.nodes.now o) (ap part_view c.in-Selection.is)
    (record {
      list = l;
      listed = listed_of_below t c.requires.tables o l c.requires.below;
      taken = c.requires.taken;
      part = (i, at);
    })

-- what holds of each element of a list holds of the first
first_of_all : (P : Branch → Type 0) (xs seen : List Branch) (x : Branch) → seen ≡ xs → All P xs
    → 0 < length seen → x ≡ get_or seen 0 x → P x
first_of_all P xs seen x same all some is =
    subst P (sym is) (subst (All P) (sym same) all 0 x some)

pub choose-requires : goal.choose-requires
choose-requires c =
    let t = c.args.tables.now in
    let o = c.args.tallied.now.object in
    let item = c.in-Some.ensures.item in
    let taken = first_of_all (IsTakenBranch t c.args.nodes.now o) c.in_ok-branches.branches.items
    c.deref.result.now c.in-Some.branch.now c.deref.ensures.value c.in_ok-branches.ensures item.3.0
    item.1 in
    record { served = taken.served }

pub loop-part-preserved : goal.loop-part-preserved
loop-part-preserved c =
    let t = c.args.tables.now in
    let o = c.args.tallied.now.object in
    elim c.match-part.branch [
      | in-Selection+in_ok-branches+else-len-gt1 w ↦
          elim w.match-first.branch [
            | in-Some w' ↦
                let item = w'.in-Some.ensures.item in
                let taken = first_of_all (IsTakenBranch t c.args.nodes.now o)
                w.in_ok-branches.branches.items w.deref.result.now w'.in-Some.branch.now
                w.deref.ensures.value w.in_ok-branches.ensures item.3.0 item.1 in
                rw w.chosen-is
                (rw w'.chosen-is
                (w'.choose.ensures c.args.nodes.now taken.taken c.loop-part.invariant))
            | in_default-first w' ↦ rw w.chosen-is (rw w'.chosen-is c.loop-part.invariant)
          ]
      | in_default w ↦ rw w.chosen-is c.loop-part.invariant
    ]

pub returns-then-len-gt1-clause-branches : goal.returns-then-len-gt1-clause-branches
returns-then-len-gt1-clause-branches c =
    λ k d within.
    let b = c.in_ok-branches.ensures k d within in (b.called, inl b.reads)
