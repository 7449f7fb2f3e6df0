use Rattle.std.proofs.Common.{◌∙◌, ap, refl}
use Rattle.std.specs.FinSet.{remove}
use Rattle.std.proofs.lemmas.Cmp.{nat_list_cmp_total}
use Rattle.facet_solver_shape.specs.Resolved.{names_view}
use Rattle.facet_solver_shape.proofs.Keys.{name_cmp_same}
use Rattle.facet_solver_shape.proofs.Viewed.{viewed_set-remove_key}
use Rattle.facet_solver_shape.proofs.resolution.tables.name_set.NameSet.remove.Goals as goal

pub returns : goal.returns
returns c =
    ap names_view c.remove.ensures.keys
    ∙ viewed_set-remove_key nat_list_cmp_total name_cmp_same (λ n. n.now) (λ x y. refl) c.args.name c.self.inside.names.keys c.self.invariant
    ∙ ap (λ s. remove s c.args.name.now) c.self.view_is
