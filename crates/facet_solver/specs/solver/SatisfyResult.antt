-- What a solver answers to the shapes that a value fits.
use Rattle.std.specs.Prelude.{⊤}
use Rattle.facet_solver.specs.declared.solver.satisfy_result.SatisfyResult.{SatisfyResult}
use Rattle.facet_solver.specs.declared.solver.satisfy_result.SatisfyResult.TheVariants.{Continue, Solved, NoMatch}
use Rattle.facet_solver.specs.schema.Schema.{SchemaView}
use Rattle.facet_solver.specs.schema.ResolutionHandle.{index_of, IsHandleOf}
use Rattle.facet_solver.specs.set.IndexSet.{HowMany, no_index, one_index, several_indices, how_many}
use Rattle.facet_solver.specs.solver.State.{State}

-- several candidates are left, one, or none
abbrev pub satisfy_result_view : SatisfyResult → HowMany
satisfy_result_view Continue = several_indices
satisfy_result_view (Solved handle) = one_index (index_of handle)
satisfy_result_view NoMatch = no_index

-- the handle of an answer is one of the schema
abbrev pub IsSatisfyResultOf : SchemaView → SatisfyResult → Type 0
IsSatisfyResultOf schema Continue = ⊤
IsSatisfyResultOf schema (Solved handle) = IsHandleOf schema handle
IsSatisfyResultOf schema NoMatch = ⊤

-- the answer, by how many candidates are left
abbrev pub satisfy_result : State → HowMany
satisfy_result s = how_many s.candidates
