use Rattle.std.proofs.Common.{◌≡◌, IfSome, inr, refl, subst, sym, true, false}
use Rattle.facet_solver_shape.specs.Names.{Name}
use Rattle.facet_solver_reader.specs.Branches.{HasKnown}
use Rattle.facet_solver_reader.specs.Known.{named, rest}
use Rattle.facet_solver_reader.specs.Nodes.{members_in, value_of}
use Rattle.facet_solver_reader.specs.Passed.{IsOther}
use Rattle.facet_solver_reader.specs.Reading.{object_view}
use Rattle.facet_solver_reader.specs.Tables.{rules_at}
use Rattle.facet_solver_reader.specs.Views.{list_view, selection_view}
use Rattle.facet_solver_reader.proofs.CountingObjects.{fits_by_rest, itself, known_by_list}
use Rattle.facet_solver_reader.proofs.CountingObjects.{misfits_by_rest, not_false, not_true}
use Rattle.facet_solver_reader.proofs.KnownNames.{all_known_by, misfit_by, misfits_of, where_none}
use Rattle.facet_solver_reader.proofs.Touching.{fits_iff}
use Rattle.facet_solver_reader.proofs.count.selection.fits_next.Goals as goal

pub refuses-requires : goal.refuses-requires
refuses-requires c =
    let of = c.requires.listed in
    (c.requires.tables.lists of.index c.args.list.now of.listed).sorted

pub other_member-requires-clause-list_sorted : goal.other_member-requires-clause-list_sorted
other_member-requires-clause-list_sorted c =
    let of = c.requires.listed in
    (c.requires.tables.lists of.index c.args.list.now of.listed).sorted

pub returns-then-refuses-clause-no : goal.returns-then-refuses-clause-no
returns-then-refuses-clause-no c = λ _.
    let t = c.args.tables.now in
    let rules = rules_at t in
    let object = object_view c.args.nodes.now c.args.object.now in
    let s = selection_view c.args.selection.now in
    let list = c.args.list.now in
    let w = c.refuses.ensures c.if-refuses.true in
    let x = named w.0.now in
    let knows = known_by_list t c.requires.tables (list_view list.id) list
    (itself t c.requires.tables list c.requires.listed) x false (sym w.2) in
    misfits_of rules object s (list_view list.id) x (
      subst (λ o. IfSome o (λ name. HasKnown rules object s (named name.now))) w.1
          c.requires.passed,
      λ k. let is : false ≡ true = knows.1 k in absurd (cc),
    )

pub returns-in-Some-clause-no : goal.returns-in-Some-clause-no
returns-in-Some-clause-no c = λ _.
    misfits_of (rules_at c.args.tables.now) (object_view c.args.nodes.now c.args.object.now)
    (selection_view c.args.selection.now) (list_view c.args.list.now.id)
    (named c.in-Some.name.now)
    (misfit_by c.args.tables.now c.requires.tables c.args.selection.now c.requires.named
    c.args.list.now c.requires.listed (object_view c.args.nodes.now c.args.object.now)
    c.in-Some.name.now c.in-Some.ensures)

pub returns-in-Some-clause-passed : goal.returns-in-Some-clause-passed
returns-in-Some-clause-passed c =
    (c.in-Some.ensures.0, (c.requires.named.known c.in-Some.name.now).0 c.in-Some.ensures.1)

pub returns-then-list-clause-yes : goal.returns-then-list-clause-yes
returns-then-list-clause-yes c =
    let t = c.args.tables.now in
    let s = selection_view c.args.selection.now in
    let list = c.args.list.now in
    let id = list_view list.id in
    let ms = members_in (value_of c.args.nodes.now c.args.object.now.node) in
    let each = all_known_by t c.requires.tables c.args.selection.now c.requires.named list
    c.requires.listed ms
    (where_none c.other_member.result
    ((x : Name) → IsOther c.args.selection.now list ms x → ⊥)
    (λ name. IsOther c.args.selection.now list ms name.now)
    c.in_default.not-Some c.other_member.ensures) in
    let knows_rest = known_by_list t c.requires.tables id list
    (itself t c.requires.tables list c.requires.listed) rest list.takes_rest refl in
    λ p.
    (fits_iff (rules_at t) (object_view c.args.nodes.now c.args.object.now) s id).1
    (each, λ has known. knows_rest.0 c.if-list.true)

pub returns-else-list-clause-yes : goal.returns-else-list-clause-yes
returns-else-list-clause-yes c =
    let t = c.args.tables.now in
    let s = selection_view c.args.selection.now in
    let list = c.args.list.now in
    let ms = members_in (value_of c.args.nodes.now c.args.object.now.node) in
    let each = all_known_by t c.requires.tables c.args.selection.now c.requires.named list
    c.requires.listed ms
    (where_none c.other_member.result
    ((x : Name) → IsOther c.args.selection.now list ms x → ⊥)
    (λ name. IsOther c.args.selection.now list ms name.now)
    c.in_default.not-Some c.other_member.ensures) in
    λ p.
    fits_by_rest t c.args.nodes.now c.args.object.now c.requires.object s
    c.touches_rest.result c.touches_rest.ensures (list_view list.id) each
    (inr (not_true c.touches_rest.result p))

pub returns-else-list-clause-no : goal.returns-else-list-clause-no
returns-else-list-clause-no c =
    let t = c.args.tables.now in
    let s = selection_view c.args.selection.now in
    let list = c.args.list.now in
    let id = list_view list.id in
    let knows_rest = known_by_list t c.requires.tables id list
    (itself t c.requires.tables list c.requires.listed) rest list.takes_rest refl in
    λ p.
    misfits_by_rest t c.args.nodes.now c.args.object.now c.requires.object s
    c.touches_rest.result c.touches_rest.ensures id
    (λ k.
    let is : list.takes_rest ≡ true = knows_rest.1 k in
    let isnt : list.takes_rest ≡ false = c.if-list.false in
    absurd (cc))
    (not_false c.touches_rest.result p)
