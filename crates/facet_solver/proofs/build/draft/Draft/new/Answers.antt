use Rattle.std.proofs.Common.{ap, ◌∙◌}
use Rattle.facet_solver.specs.build.Draft.{with_names}
use Rattle.facet_solver.proofs.Draft.{named-nothing}
use Rattle.facet_solver.proofs.build.draft.Draft.new.Goals as goal

pub returns : goal.returns
returns c = ap with_names c.new.ensures ∙ named-nothing
