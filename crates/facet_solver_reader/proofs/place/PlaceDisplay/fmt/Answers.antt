use Rattle.std.proofs.Common.{map, sym, ◌∙◌, ap}
use Rattle.std.proofs.Output.{has_written_of_eq}
use Rattle.facet_solver_reader.specs.Places.{step_of, place_text}
use Rattle.facet_solver_reader.proofs.Places.{text_of_segments}
use Rattle.facet_solver_reader.proofs.place.PlaceDisplay.fmt.Goals as goal

-- the first segment, and the others with dots
pub returns-in-Some-clause-writes : goal.returns-in-Some-clause-writes
returns-in-Some-clause-writes g c plain ok =
    has_written_of_eq _ _ _ _ _
    (text_of_segments c.in-Some.first.now c.in-Some.rest.now
    ∙ ap (λ ss. place_text (map step_of ss)) (sym c.in-Some.ensures.cases.0 ∙ c.deref.ensures.value)
    ∙ ap place_text c.self.view_is)
    (c.write-in-Some.ensures.writes plain ok)
