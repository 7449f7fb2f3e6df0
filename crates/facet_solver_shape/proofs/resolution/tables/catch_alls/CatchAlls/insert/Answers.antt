use Rattle.std.proofs.Common.{◌∙◌, ap, sym}
use Rattle.std.specs.FinMap.{insert, from_entries}
use Rattle.facet_solver_shape.proofs.Fields.{entries_again}
use Rattle.facet_solver_shape.specs.Keys.{category_cmp}
use Rattle.facet_solver_shape.proofs.Keys.{category_cmp_total, category_cmp_same, category_cmp_agrees}
use Rattle.facet_solver_shape.proofs.Viewed.{viewed-insert_entry}
use Rattle.facet_solver_shape.proofs.resolution.tables.catch_alls.CatchAlls.insert.Goals as goal

pub returns-clause-ok : goal.returns-clause-ok
returns-clause-ok c =
    let entries = c.self.inside.entries.entries in
    ap (from_entries {R = category_cmp}) (c.in_ok-insert.ensures.entries ∙ sym (entries_again _))
    ∙ viewed-insert_entry category_cmp_total category_cmp_same (λ k. k) category_cmp_agrees c.args.category c.args.info entries
    ∙ ap (λ es. insert {R = category_cmp} (from_entries es) c.args.category c.args.info) (entries_again entries)
    ∙ ap (λ m. insert m c.args.category c.args.info) c.self.view_is
