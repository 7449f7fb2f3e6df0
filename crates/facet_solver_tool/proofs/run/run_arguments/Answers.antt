use Rattle.std.proofs.Common.{inl, inr, refl}
use Rattle.facet_solver_shape.specs.Names.{names_of}
use Rattle.facet_solver_tool.specs.Answer.{refused}
use Rattle.facet_solver_tool.proofs.Runs.{ends_run}
use Rattle.facet_solver_tool.proofs.run.run_arguments.Goals as goal

pub returns-in-Ok : goal.returns-in-Ok
returns-in-Ok g c = λ written. ends_run (names_of c.deref.result.now) _ (c.run_words.ensures written)

pub returns-in-Err : goal.returns-in-Err
returns-in-Err g c = λ written. inl (refused, inr refl, c.tell.ensures written)
