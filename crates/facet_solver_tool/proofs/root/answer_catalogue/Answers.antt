use Rattle.std.proofs.Common.{ap}
use Rattle.facet_solver_tool.specs.declared.status.Status.TheVariants.{Answered}
use Rattle.facet_solver_tool.specs.Answer.{says}
use Rattle.facet_solver_tool.proofs.root.answer_catalogue.Goals as goal

pub returns : goal.returns
returns c = record {
  shapes = c.shapes.result.now;
  same = c.shapes.ensures;
  told = ap (says Answered) c.in_ok-catalogue.ensures;
}
