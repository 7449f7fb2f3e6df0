use Rattle.std.proofs.Common.{ap, sym, take, map, ◌∙◌, List}
use Rattle.std.proofs.lemmas.List.{take-map}
use Rattle.facet_solver_shape.specs.Paths.{segment_of}
use Rattle.facet_solver_shape.specs.declared.resolution.path.PathSegment.{PathSegment}
use Rattle.facet_solver.specs.build.Place.{Path}
use Rattle.facet_solver.proofs.build.place.Place.cut.Goals as goal

pub returns : goal.returns
returns c =
    ap (λ (segments : List PathSegment). map segment_of segments) c.truncate.ensures.items
    ∙ sym (take-map segment_of c.args.depth c.self.inside.segments.items)
    ∙ ap (λ (place : Path). take c.args.depth place) c.self.view_is
