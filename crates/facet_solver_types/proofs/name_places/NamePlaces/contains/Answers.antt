use Rattle.std.proofs.Common.{◌≡◌, ◌∙◌, ap, arith, length, ltb}
use Rattle.facet_solver_shape.specs.Names.{names_of}
use Rattle.facet_solver_types.specs.Links.{place_in}
use Rattle.facet_solver_types.proofs.NamesBefore.{has_by_place}
use Rattle.facet_solver_types.proofs.name_places.NamePlaces.contains.Goals as goal

pub returns : goal.returns
returns c =
    let names = c.args.self.now.names.items in
    let name = c.args.name.now in
    let long : c.len.result ≡ length names = omega (arith, c.len.ensures, c.args.self.now.names.ok.0) in
    ap (λ n. ltb n c.len.result) c.place_in.ensures
    ∙ ap (ltb (place_in (names_of names) name)) long
    ∙ has_by_place names name
