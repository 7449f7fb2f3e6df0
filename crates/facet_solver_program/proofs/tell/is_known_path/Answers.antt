use Rattle.std.proofs.Common.{ap, ◌∙◌, List}
use Rattle.std.specs.List.{list_any}
use Rattle.facet_solver.specs.KeyPath.{has_key_path}
use Rattle.facet_solver.specs.Names.{names_of}
use Rattle.facet_solver.specs.schema.ResolutionHandle.{resolution_of}
use Rattle.facet_solver.specs.Resolutions.{passes}
use Rattle.facet_solver.specs.declared.schema.handle.ResolutionHandle.{ResolutionHandle}
use Rattle.facet_solver_program.proofs.Telling.{any_of_handles}
use Rattle.facet_solver_program.proofs.tell.is_known_path.Goals as goal

pub returns : goal.returns
returns c =
    let has = has_key_path (names_of c.args.path.now) in
    let schema = c.args.solver.now.schema in
    c.any_has_path.ensures
    ∙ ap (λ (handles : List ResolutionHandle). list_any (λ h. has (resolution_of h)) handles) c.deref.ensures.value
    ∙ any_of_handles schema has c.in_ok-candidates.candidates.items c.in_ok-candidates.ensures.handles
    ∙ ap (list_any (passes has schema.resolutions)) c.in_ok-candidates.ensures.indices
