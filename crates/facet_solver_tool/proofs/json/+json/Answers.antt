-- What stands in an object nests less deep than it does.
use Rattle.std.proofs.Common.{◌∙◌, ap, arith}
use denote.Param.Weighed.{most}
use Rattle.facet_solver_reader.specs.declared.reading.ReadingKind.TheViews.{size-Reading}
use Rattle.facet_solver_reader.specs.declared.reading.ReadingKind.TheViews.{size-ReadingKind}
use Rattle.facet_solver_reader.specs.declared.reading.ReadingKind.TheViews.{sized-Object}
use Rattle.facet_solver_tool.proofs.json.+json.Goals as goal

pub write_kind-write_fields-requires : goal.write_kind-write_fields-requires
write_kind-write_fields-requires g t c κs within =
    let size = ap size-ReadingKind c.in-Object.is
    ∙ sized-Object c.in-Object.object c.in-Object.values c.in-Object.taken in
    let same = ap (most (λ x. size-Reading x)) c.deref-in-Object.ensures.value in
    (grind (arith, size, same), within)

pub write_kind-write_entries-requires-in-Object : goal.write_kind-write_entries-requires-in-Object
write_kind-write_entries-requires-in-Object g t c κs within =
    let size = ap size-ReadingKind c.in-Object.is
    ∙ sized-Object c.in-Object.object c.in-Object.values c.in-Object.taken in
    let same = ap (most (λ x. size-Reading x)) c.deref-in-Object-3.ensures.value in
    (grind (arith, size, same), within)
