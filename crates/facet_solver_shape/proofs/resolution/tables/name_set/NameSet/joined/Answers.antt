use Rattle.std.proofs.Common.{◌∙◌, ap}
use Rattle.std.specs.FinSet.{union}
use Rattle.std.proofs.lemmas.Cmp.{nat_list_cmp_total}
use Rattle.facet_solver_shape.proofs.Keys.{name_cmp_same}
use Rattle.facet_solver_shape.proofs.Resolved.{union-empty}
use Rattle.facet_solver_shape.proofs.resolution.tables.name_set.NameSet.joined.Goals as goal

pub returns : goal.returns
returns c =
    c.in_ok-put_all-2.ensures
    ∙ ap (λ s. union s c.args.other.now) (c.in_ok-put_all.ensures ∙ ap (λ s. union s c.args.self.now) c.new-made.ensures ∙ union-empty nat_list_cmp_total name_cmp_same c.args.self.now)
