use Rattle.std.proofs.Common.{◌∙◌, ap, map, sym}
use Rattle.std.specs.FinSet as set
use Rattle.std.specs.Ordering.{nat_cmp}
use Rattle.std.specs.Cmp.Lexicographic.{slice_cmp}
use Rattle.facet_solver_shape.specs.Names.{names_of}
use Rattle.facet_solver_shape.proofs.Keys.{path_cmp_total, path_cmp_same}
use Rattle.facet_solver_shape.proofs.Viewed.{contains_viewed, slice_cmp-map}
use Rattle.facet_solver.proofs.key_path.is_found.Goals as goal

pub returns : goal.returns
returns c =
    c.contains.ensures
    ∙ sym (contains_viewed path_cmp_total path_cmp_same (λ p. map (λ n. n.now) p.items) (λ x y. slice_cmp-map (slice_cmp nat_cmp) (λ n. n.now) x.items y.items) c.args.known.now c.known_paths.result.now.keys)
    ∙ ap (λ s. set.contains s (names_of c.args.known.now.items)) c.known_paths.ensures
