use Rattle.std.proofs.Common.{map, sym, ◌∙◌, ap}
use Rattle.std.proofs.Output.{has_written_of_eq}
use Rattle.facet_solver_shape.specs.Paths.{segment_of, path_text}
use Rattle.facet_solver_shape.proofs.Paths.{text_of_segments}
use Rattle.facet_solver_shape.proofs.resolution.path.FieldPathDisplay.fmt.Goals as goal

-- the first segment, and the others with dots
pub returns-in-Some-clause-writes : goal.returns-in-Some-clause-writes
returns-in-Some-clause-writes g c plain ok =
    has_written_of_eq _ _ _ _ _
    (text_of_segments c.in-Some.first.now c.in-Some.rest.now
    ∙ ap (λ ss. path_text (map segment_of ss)) (sym c.in-Some.ensures.cases.0 ∙ c.deref.ensures.value)
    ∙ ap path_text c.self.view_is)
    (c.write-in-Some.ensures.writes plain ok)
