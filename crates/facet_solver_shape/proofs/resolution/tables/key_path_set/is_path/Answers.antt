use Rattle.std.proofs.Common.{◌∙◌, ap}
use Rattle.facet_solver_shape.specs.Paths.{key_path_eq}
use Rattle.facet_solver_shape.specs.Names.{names_of}
use Rattle.facet_solver_shape.proofs.Resolved.{names_agree}
use Rattle.facet_solver_shape.proofs.resolution.tables.key_path_set.is_path.Goals as goal

pub returns : goal.returns
returns c =
    c.eq.ensures
    ∙ names_agree c.args.path.now c.as_slice.result.now
    ∙ ap (λ xs. key_path_eq (names_of c.args.path.now) (names_of xs)) c.as_slice.ensures.value
