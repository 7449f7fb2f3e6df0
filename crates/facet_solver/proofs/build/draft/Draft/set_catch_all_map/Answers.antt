use Rattle.std.proofs.Common.{ap, ◌∙◌}
use Rattle.facet_solver_shape.specs.Resolved.{Resolved, with_catch_all}
use Rattle.facet_solver.specs.build.Draft.{with_names}
use Rattle.facet_solver.proofs.Draft.{named-catch_all}
use Rattle.facet_solver.proofs.NestedTable.{on_ok}
use Rattle.facet_solver.proofs.build.draft.Draft.set_catch_all_map.Goals as goal

pub returns : goal.returns
returns c =
    let r = c.self.inside.resolution in
    record {
      ok = on_ok c.set_catch_all_map.result
          (λ added. ap with_names added ∙ named-catch_all r c.args.category c.args.info ∙ ap (λ (v : Resolved). with_catch_all v c.args.category c.args.info) c.self.view_is)
          c.set_catch_all_map.ensures.ok;
    }
