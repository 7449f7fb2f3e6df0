use Rattle.std.proofs.Common.{◌≡◌, take}
use Rattle.facet_solver_shape.specs.Names.{names_of}
use Rattle.facet_solver_types.specs.Named.{names_view}
use Rattle.facet_solver_types.specs.NamedTexts.{texts}
use Rattle.facet_solver_types.proofs.typing.named.texts.Given as goal

-- those so far
abbrev pub invariant-loop-one : goal.invariant-loop-one
invariant-loop-one l = names_of l.found.items ≡ texts (names_view (take l.one-index l.names))
