use Rattle.std.proofs.Common.{ap, ◌∙◌}
use Rattle.facet_solver_shape.specs.Names.{names_of}
use Rattle.facet_solver_shape.specs.Resolved.{Resolved, with_key_path}
use Rattle.facet_solver.specs.build.Draft.{with_names}
use Rattle.facet_solver.proofs.Draft.{named-path}
use Rattle.facet_solver.proofs.NestedTable.{on_ok}
use Rattle.facet_solver.proofs.build.draft.Draft.add_key_path.Goals as goal

pub returns : goal.returns
returns c =
    let r = c.self.inside.resolution in
    let p = names_of c.args.path.items in
    record {
      ok = on_ok c.add_key_path.result
          (λ added. ap with_names added ∙ named-path r p ∙ ap (λ (v : Resolved). with_key_path v p) c.self.view_is)
          c.add_key_path.ensures.ok;
    }
