use Rattle.std.proofs.Common.{◌∙◌, ap}
use Rattle.std.specs.FinSet.{union}
use Rattle.facet_solver_shape.proofs.Keys.{path_cmp_total, path_cmp_same}
use Rattle.facet_solver_shape.proofs.Resolved.{union-empty}
use Rattle.facet_solver_shape.proofs.resolution.tables.key_path_set.KeyPathSet.joined.Goals as goal

pub returns : goal.returns
returns c =
    c.in_ok-put_all-2.ensures
    ∙ ap (λ s. union s c.args.other.now) (c.in_ok-put_all.ensures ∙ ap (λ s. union s c.args.self.now) c.new-made.ensures ∙ union-empty path_cmp_total path_cmp_same c.args.self.now)
