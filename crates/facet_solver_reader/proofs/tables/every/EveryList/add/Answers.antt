use Rattle.std.proofs.Common.{◌≡◌, ◌∙◌, Some, false, ap, length, refl, subst, sym}
use Rattle.std.specs.Option.{option_map}
use Rattle.facet_solver_reader.specs.declared.tables.every.Listed.{Listed}
use Rattle.facet_solver_reader.specs.Slots.{IsSet}
use Rattle.facet_solver_reader.specs.Types.{parts_of}
use Rattle.facet_solver_reader.specs.Views.{list_view, parts_view}
use Rattle.facet_solver_reader.proofs.Added.{one_added}
use Rattle.facet_solver_reader.proofs.tables.every.EveryList.add.Goals as goal

pub returns-in_ok-push : goal.returns-in_ok-push
returns-in_ok-push c =
    let shapes = c.args.types.now in
    let old = c.args.self.now in
    let id = list_view c.args.id.now in
    let said = c.in_ok-parts.ensures in
    let here = c.in-Some.is in
    let parts : parts_of shapes id ≡ Some (parts_view c.in-Some.parts.items) =
    sym said ∙ ap (option_map (λ ps. parts_view ps.items)) here in
    let number : c.len-number.result ≡ length old.lists.items =
    c.len-number.ensures ∙ old.lists.ok.0 in
    let list : Listed =
    record { id = c.args.id.now; parts = c.in-Some.parts; has_choice = false } in
    one_added shapes old _ id list
    c.requires.listed c.requires.free c.requires.known c.in_ok-push.ensures.items refl refl parts
    (subst (λ n. IsSet old.numbers id n c.set.new.self) number c.set.ensures)
