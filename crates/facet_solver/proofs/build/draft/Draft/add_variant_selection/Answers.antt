use Rattle.std.proofs.Common.{ap, ◌∙◌}
use Rattle.facet_solver_shape.specs.Resolved.{Resolved, Selection, with_selection}
use Rattle.facet_solver.specs.build.Draft.{with_names}
use Rattle.facet_solver.proofs.Draft.{named-selection}
use Rattle.facet_solver.proofs.NestedTable.{on_ok}
use Rattle.facet_solver.proofs.build.draft.Draft.add_variant_selection.Goals as goal

pub returns : goal.returns
returns c =
    let r = c.self.inside.resolution in
    let s : Selection = record { path = c.args.path; enum_name = c.args.enum_name.now; variant_name = c.args.variant_name.now } in
    record {
      ok = on_ok c.add_variant_selection.result
          (λ added. ap with_names added ∙ named-selection r s ∙ ap (λ (v : Resolved). with_selection v s) c.self.view_is)
          c.add_variant_selection.ensures.ok;
    }
