use Rattle.std.proofs.Common.{◌≡◌, ◌-◌, length, arith, rules, tests}
use Rattle.std.proofs.lemmas.Iterator.{YieldsList-from_range}
use Rattle.std.proofs.lemmas.Iterator.Search.{all_from_yields_List}
use Rattle.std.proofs.lemmas.List.{length-map}
use Rattle.facet_solver_types.specs.Links.{links_view}
use Rattle.facet_solver_types.specs.Ranks.{are_below, rank}
use Rattle.facet_solver_types.specs.Walks.{links_at}
use Rattle.facet_solver_types.proofs.catalogue.ranks.fall.Goals as goal

pub returns : goal.returns
returns c =
    let links = links_view c.args.links.now in
    let ranks = c.args.ranks.now in
    let count = length c.args.links.now in
    let seen = length-map c.args.links.now (λ l. l.items) in
    let all : count - 0 ≡ length links = omega arith in
    all_from_yields_List (λ place. are_below ranks (rank ranks place) (links_at links place)) _ _
    c.all.result c.all.ensures.ran (YieldsList-from_range 0 count (length links) (search rules) all)
    (λ x b q k. search (rules, tests))
