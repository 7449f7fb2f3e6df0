-- What the steps so far tell; the others are still to come.
use Rattle.std.proofs.Common.{◌≡◌, ◌++◌, length, map}
use Rattle.std.specs.Vec.Iter.{into_iter_items, into_iter_len}
use Rattle.facet_solver_shape.specs.Resolved.{selection_view}
use Rattle.facet_solver_reader.specs.Found as spec
use Rattle.facet_solver_reader.specs.Planned.{step_view}
use Rattle.facet_solver_reader.specs.Told.{paths_view, place_view}
use Rattle.facet_solver_reader.proofs.read.found.Found.of.Given as goal

abbrev pub invariant-loop-step : goal.invariant-loop-step
invariant-loop-step l = record {
  all : l.yielded ++ into_iter_items l.step-iterator ≡ into_iter_items l.initial.step-iterator;
  len : into_iter_len l.step-iterator ≡ length (into_iter_items l.step-iterator);
  selections : map selection_view l.found.selections.items
      ≡ spec.selections_in l.shapes (map step_view l.yielded);
  absent : paths_view l.found.absent ≡ spec.absences_in (map step_view l.yielded);
  fields : map place_view l.found.fields.items ≡ spec.places_in (map step_view l.yielded);
}
