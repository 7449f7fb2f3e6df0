use Rattle.std.proofs.Common.{◌≡◌, ℕ, ◌∷◌, [], Some, Result, Ok, Err, IfErr, IfOk, IsOk, length, slice_get, ap, sym, ◌∙◌}
use Rattle.std.proofs.lemmas.Option.{none-some}
use Rattle.facet_solver_shape.specs.Names.{Name}
use Rattle.facet_solver.specs.solver.Found.{GivesOrNames}
use Rattle.facet_solver.specs.set.IndexSet.{HowMany, how_many, no_index, one_index, several_indices}
use Rattle.facet_solver.specs.error.ErrorView.{AmbiguityView, ambiguous}
use Rattle.facet_solver.specs.schema.ResolutionHandle.{index_of}
use Rattle.facet_solver.specs.solver.State.{State}
use Rattle.facet_solver.specs.solver.Told.{EndsWithOrNames}
use Rattle.facet_solver.specs.solver.Report.{IsReportOn, ambiguity_of, report_by, viable}
use Rattle.facet_solver.specs.declared.error.SolverError.{SolverError}
use Rattle.facet_solver.specs.declared.error.SolverError.TheVariants.{NoMatch, Ambiguous, OutOfMemory}
use Rattle.facet_solver.specs.declared.schema.handle.ResolutionHandle.{ResolutionHandle}
use Rattle.facet_solver.proofs.Reported.{none_viable}
use Rattle.facet_solver.proofs.solver.Solver.finish.Goals as goal

-- a report that several match is that of the state
same_report : (s : State) (v : AmbiguityView) (h : HowMany) → Some (ambiguous v) ≡ report_by h s → v ≡ ambiguity_of s
same_report s v no_index e = cc
same_report s v (one_index i) e = cc
same_report s v several_indices e = cc

module _ (s : State) (index : ℕ) (text : Name) (ends : EndsWithOrNames s index text) where
  -- so an answer that is the only viable candidate, or the report, comes to it
  gives_or_names : (answer : Result ResolutionHandle SolverError) → (length (viable s) ≡ 1 → IsOk answer) → IfOk answer (λ handle. viable s ≡ index_of handle ∷ []) → IfErr answer (IsReportOn s)
      → GivesOrNames s index text answer
  gives_or_names (Ok handle) one only report =
      let same : index_of handle ∷ [] ≡ index ∷ [] = sym only ∙ ends.alone (ap length only) in cc
  gives_or_names (Err (NoMatch input_fields missing detailed unknown closest failures)) one only report =
      absurd (none-some index (ap (λ is. slice_get is ends.place) (sym (none_viable s _ report)) ∙ ends.at_place))
  gives_or_names (Err (Ambiguous candidates fields)) one only report = record {
    place = ends.place;
    at_place = ends.at_place;
    described = ap (λ (v : AmbiguityView). slice_get v.candidates ends.place) (same_report s _ (how_many (viable s)) report) ∙ ends.described;
  }
  gives_or_names (Err OutOfMemory) one only report = λ alone. cc (one alone)

pub returns-clause-found : goal.returns-clause-found
returns-clause-found c = λ index text ends.
    gives_or_names c.args.self index text ends c.verdict.result (c.verdict.ensures.one.1) c.verdict.ensures.index c.verdict.ensures.refused
