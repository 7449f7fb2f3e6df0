use Rattle.std.proofs.Common.{◌≡◌, sym, ap, ◌∙◌, rules, tests}
use Rattle.std.specs.List.{list_any}
use Rattle.std.proofs.lemmas.Iterator.{YieldsList-from_slice}
use Rattle.std.proofs.lemmas.Iterator.Search.{any_from_yields_List}
use Rattle.facet_solver_shape.proofs.Lists.{list_any-map}
use Rattle.facet_solver_reader.specs.declared.part.ListId.{ListId}
use Rattle.facet_solver_reader.specs.declared.part.Part.{Part}
use Rattle.facet_solver_reader.specs.Known.{Key, rest}
use Rattle.facet_solver_reader.specs.Placing.{list_knows, part_knows}
use Rattle.facet_solver_reader.specs.Views.{list_view, part_view}
use Rattle.facet_solver_reader.proofs.tables.names.part_takes_rest.Goals as goal

pub returns-in-Selection : goal.returns-in-Selection
returns-in-Selection c =
    let o = c.args.ordered.now in
    let x : Key = rest in
    let branches = c.in-Selection.selection.branches.items in
    let asked : c.any.result ≡ list_any (λ (b : ListId). list_knows o x (list_view b)) branches =
    any_from_yields_List (λ (b : ListId). list_knows o x (list_view b)) _ _ c.any.result c.any.ensures.ran (YieldsList-from_slice branches cc) (λ b r q k. search (rules, tests)) in
    asked
    ∙ sym (list_any-map (list_knows o x) list_view branches)
    ∙ ap (λ (p : Part). part_knows o x (part_view p)) (sym c.in-Selection.is)
