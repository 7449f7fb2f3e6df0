use Rattle.std.proofs.Common.{◌≡◌, sym, ap, ◌∙◌, map, true, Some, slice_get}
use Rattle.std.specs.Option.{option_map}
use Rattle.std.proofs.lemmas.List.Folds.{list_any-from_Any}
use Rattle.std.proofs.lemmas.Option.{slice_get-get_or, slice_get-map}
use Rattle.facet_solver_reader.specs.declared.part.ListId.{ListId}
use Rattle.facet_solver_reader.specs.Known.{named}
use Rattle.facet_solver_reader.specs.Placing.{list_knows}
use Rattle.facet_solver_reader.specs.Views.{list_view}
use Rattle.facet_solver_reader.proofs.Quantifiers.{any_at}
use Rattle.facet_solver_reader.proofs.tables.names.some_has_name.Goals as goal

pub returns-then-list_has_name : goal.returns-then-list_has_name
returns-then-list_has_name c =
    let knows = list_knows c.args.ordered.now (named c.args.name.now) in
    let ids = c.args.lists.now in
    let i = c.loop-list.list-index in
    let id = c.list-item.result in
    let at : slice_get (map list_view ids) i ≡ Some (list_view id) =
    slice_get-map list_view ids i ∙ ap (option_map list_view) (slice_get-get_or ids i id c.loop-list-test.true)
    ∙ ap (λ (b : ListId). Some (list_view b)) (sym c.list-item.is) in
    sym (list_any-from_Any knows (map list_view ids)
    (any_at (λ b. knows b ≡ true) (map list_view ids) i (list_view id) at (sym c.list_has_name.ensures ∙ c.if-list_has_name.true)))
