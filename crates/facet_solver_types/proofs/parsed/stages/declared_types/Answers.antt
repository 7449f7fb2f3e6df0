use Rattle.std.proofs.Common.{ap, option_map, subst}
use Rattle.facet_solver_types.specs.GivenTypes.{GivesTypes}
use Rattle.facet_solver_types.specs.ParsedTexts.{declared_types}
use Rattle.facet_solver_types.specs.Scopes.{str_view}
use Rattle.facet_solver_types.specs.Understood.{declarations_view}
use Rattle.facet_solver_types.proofs.parsed.stages.declared_types.Goals as goal

pub returns : goal.returns
returns c =
    subst (λ found. GivesTypes (declared_types c.args.base (option_map str_view c.args.root) found) c.types_among.result)
    (ap declarations_view c.new-named.ensures)
    c.types_among.ensures
