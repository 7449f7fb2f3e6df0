use Rattle.std.proofs.Common.{◌∙◌, Bor, bytes_eq}
use Rattle.facet_solver_shape.specs.Names.{Name}
use Rattle.facet_solver_shape.proofs.Lists.{list_any-map}
use Rattle.facet_solver_shape.proofs.RepeatedNames.{found_by_halving}
use Rattle.facet_solver_reader.proofs.nodes.by_name.is_among.Goals as goal

pub returns-else-names-le-FEW_NAMES : goal.returns-else-names-le-FEW_NAMES
returns-else-names-le-FEW_NAMES c =
    let x = c.args.name.now in
    let names = c.args.names.now in
    c.is_ok.ensures.value
    ∙ found_by_halving names x c.binary_search.result c.requires c.binary_search.ensures.bound
    c.binary_search.ensures.position
    ∙ list_any-map (λ y. bytes_eq y x) (λ (n : Bor Name). n.now) names
