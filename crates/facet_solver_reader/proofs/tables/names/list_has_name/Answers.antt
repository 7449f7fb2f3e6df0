use Rattle.std.proofs.Common.{◌≡◌, ap, ◌∙◌, rules, tests, Bor, Option, false, bytes_eq}
use Rattle.std.specs.List.{list_any}
use Rattle.std.specs.Option.{option_map_or}
use Rattle.std.proofs.lemmas.Iterator.{YieldsList-from_slice}
use Rattle.std.proofs.lemmas.Iterator.Search.{any_from_yields_List}
use Rattle.facet_solver_shape.specs.Names.{Name}
use Rattle.facet_solver_reader.specs.declared.tables.List.{List as ListEntry}
use Rattle.facet_solver_reader.specs.Known.{named}
use Rattle.facet_solver_reader.specs.Tables.{knows}
use Rattle.facet_solver_reader.proofs.tables.names.list_has_name.Goals as goal

pub returns-in-Some : goal.returns-in-Some
returns-in-Some c =
    let x = c.args.name.now in
    let names = c.in-Some.list.now.names.items in
    let asked : c.any.result ≡ list_any (λ (n : Bor Name). bytes_eq n.now x) names =
    any_from_yields_List (λ (n : Bor Name). bytes_eq n.now x) _ _ c.any.result c.any.ensures.ran (YieldsList-from_slice names cc) (λ b r q k. search (rules, tests)) in
    asked
    ∙ ap (λ (l : Option ListEntry). option_map_or (λ (e : ListEntry). knows e (named x)) l false) c.in-Some.ensures
