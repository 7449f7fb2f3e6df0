use Rattle.std.proofs.Common.{◌≡◌, ◌-◌, length, map}
use Rattle.facet_solver_shape.specs.Paths.{segment_of}
use Rattle.facet_solver_reader.specs.LookUps.{goes_on_from}
use Rattle.facet_solver_reader.proofs.LookUps.{begins}
use Rattle.facet_solver_reader.proofs.reading.look_up.goes_on_from.Given as goal

-- one of the beginnings prints as the text if one from here on does
abbrev pub invariant-loop-count : goal.invariant-loop-count
invariant-loop-count l =
    goes_on_from l.fn.text (map segment_of l.fn.path)
    ≡ begins l.fn.path l.fn.text l.count (length l.fn.path - l.count)
