use Rattle.std.proofs.Common.{◌≡◌, Bor}
use Rattle.std.proofs.lemmas.List.Filters.{FiltersInPlace}
use Rattle.facet_solver_shape.specs.Names.{names_of}
use Rattle.facet_solver_shape.specs.Resolved.{Resolved}
use Rattle.facet_solver.specs.KeyPath.{has_key_at}
use Rattle.facet_solver.proofs.probing.retain_with_key.Given as goal

-- those so far that have the key at the path stand in front
abbrev pub invariant-loop-index : goal.invariant-loop-index
invariant-loop-index l = record {
  path : l.search.path.now ≡ l.path;
  key : l.search.key.now ≡ l.key;
  kept : FiltersInPlace (λ (r : Bor Resolved). has_key_at (names_of l.path) l.key r.now) l.initial.resolutions.items l.resolutions.items l.kept l.index;
}
