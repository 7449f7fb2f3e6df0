-- What is asked.
use Rattle.std.specs.Prelude.{Option, None, option_map}
use Rattle.facet_solver_shape.specs.Names.{Name}
use Rattle.facet_solver_tool.specs.declared.question.Form.TheVariants.{Json}
use Rattle.facet_solver_tool.specs.declared.question.LinesQuestion as lines_question
use Rattle.facet_solver_tool.specs.declared.question.Question as question
use Rattle.facet_solver_tool.specs.declared.question.Task.{Task}
use Rattle.facet_solver_tool.specs.declared.question.Task.TheVariants.{Read}

-- a question: what is asked, the path of the file of types, the name of the root, if one is named,
-- and the path of the file of accepted ambiguities, if one is
pub record Question : Type 0 where
  pub task : Task
  pub types : Name
  pub root : Option Name
  pub accepted : Option Name

-- what is seen of one
abbrev pub question_view : question.Question → Question
question_view q = record {
  task = q.task;
  types = q.types.now;
  root = option_map (λ name. name.now) q.root;
  accepted = option_map (λ name. name.now) q.accepted;
}

-- what is seen of a question about each line: the question that is asked about one
abbrev pub lines_view : lines_question.LinesQuestion → Question
lines_view q = record {
  task = Read (record { unknown = q.unknown; form = Json });
  types = q.types.now;
  root = option_map (λ name. name.now) q.root;
  accepted = None;
}
