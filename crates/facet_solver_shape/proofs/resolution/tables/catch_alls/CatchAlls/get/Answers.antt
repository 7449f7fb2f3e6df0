use Rattle.std.proofs.Common.{sym, ◌∙◌, ap}
use Rattle.std.specs.FinMap.{get, from_entries}
use Rattle.facet_solver_shape.specs.Keys.{category_cmp}
use Rattle.facet_solver_shape.proofs.Keys.{category_cmp_total, category_cmp_same, category_cmp_agrees}
use Rattle.facet_solver_shape.proofs.Fields.{entries_again}
use Rattle.facet_solver_shape.proofs.Viewed.{get_viewed}
use Rattle.facet_solver_shape.proofs.resolution.tables.catch_alls.CatchAlls.get.Goals as goal

pub returns : goal.returns
returns c =
    let entries = c.self.inside.entries.entries in
    c.get.ensures.value
    ∙ sym (get_viewed category_cmp_total category_cmp_same (λ k. k) category_cmp_agrees c.args.category entries)
    ∙ ap (λ es. get {R = category_cmp} (from_entries es) c.args.category) (entries_again entries)
    ∙ ap (λ m. get m c.args.category) c.self.view_is
