use Rattle.std.proofs.Common.{◌≡◌, drop, map}
use Rattle.facet_solver_shape.specs.Names.{name_eq}
use Rattle.facet_solver_shape.specs.Paths.{segment_of}
use Rattle.facet_solver_reader.specs.PathTexts.{is_text_of}
use Rattle.facet_solver_reader.proofs.PathTexts.{dotted}
use Rattle.facet_solver_reader.proofs.reading.path_text.is_text_of.Given as goal

-- the segments from here on print as what is left
abbrev pub invariant-loop-segment : goal.invariant-loop-segment
invariant-loop-segment l =
    is_text_of (map segment_of l.fn.path) l.fn.text
    ≡ name_eq (dotted (drop l.segment-index l.rest)) l.left
