use Rattle.std.proofs.Common.{◌≡◌, refl, sym, subst, ◌∙◌, arith, Some, slice_get}
use Rattle.std.proofs.lemmas.Option.{same_Some, slice_get_read, slice_get_within}
use Rattle.facet_solver_reader.specs.declared.tables.every.Listed.{Listed}
use Rattle.facet_solver_reader.specs.OrderedLists.{ComesIn}
use Rattle.facet_solver_reader.specs.Parts.{ListId}
use Rattle.facet_solver_reader.specs.Views.{list_view}
use Rattle.facet_solver_reader.proofs.LeftLists.{goes_on, ordered_all}
use Rattle.facet_solver_reader.proofs.tables.order.in_order.Goals as goal

pub place_all-requires-clause-under_way : goal.place_all-requires-clause-under_way
place_all-requires-clause-under_way c = c.in_ok-ordered.ensures c.args.every.now c.args.marks.now

pub index-requires : goal.index-requires
index-requires c =
    let every = c.args.every.now in
    let left = c.in-Some.ensures in
    let within = slice_get_within every.lists.items c.in-Some.number left.list left.is_there in
    omega (arith, within, every.lists.ok.0)

pub returns-in-Some-clause-err : goal.returns-in-Some-clause-err
returns-in-Some-clause-err c = λ n.
    let every = c.args.every.now in
    let left = c.in-Some.ensures in
    let within = slice_get_within every.lists.items c.in-Some.number left.list left.is_there in
    let there : slice_get every.lists.items c.in-Some.number ≡ Some c.index.result.now = slice_get_read every.lists.items _ c.in-Some.number c.index.result.now refl within c.index.ensures in
    subst (λ (l : Listed). (last : ListId) × ComesIn n c.args.types.now (list_view l.id) last) (same_Some left.list c.index.result.now (sym left.is_there ∙ there))
    (goes_on c.args.types.now every c.args.marks.now c.place_all.new.self c.requires.listed c.requires.closed c.in_default.ensures.stuck n c.in-Some.number left)

pub returns-clause-ok : goal.returns-clause-ok
returns-clause-ok c =
    ordered_all c.args.types.now c.args.every.now c.args.marks.now c.place_all.new.self c.requires.listed c.in_default.ensures.under_way c.in_default-first_left.ensures

pub returns-in-Some-clause-about : goal.returns-in-Some-clause-about
returns-in-Some-clause-about c =
    let every = c.args.every.now in
    let left = c.in-Some.ensures in
    let within = slice_get_within every.lists.items c.in-Some.number left.list left.is_there in
    let there : slice_get every.lists.items c.in-Some.number ≡ Some c.index.result.now = slice_get_read every.lists.items _ c.in-Some.number c.index.result.now refl within c.index.ensures in
    record { number = c.in-Some.number; list = c.index.result.now; is_there = there; same = refl; marked = left.marked }
