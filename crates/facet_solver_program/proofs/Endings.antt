-- The end of a step is the end of the one before it, where that goes on.
use Rattle.std.proofs.Common.{◌≡◌, ◌∙◌, ◌<◌, ◌≤◌, ℕ, Bool, false, [], Some, ap, length, nat_lt, subst, sym, arith}
use Rattle.serde_json.specs.Data.{Members}
use Rattle.facet_solver.specs.build.Build.{Build, Catalogue}
use Rattle.facet_solver.specs.Catalogues.{IsChecked}
use Rattle.facet_solver.specs.build.Count.{count_of_root}
use Rattle.facet_solver.specs.build.Choice.{IsChoiceDuplicate, IsRefusal}
use Rattle.facet_solver.specs.error.ErrorView.{error_view}
use Rattle.facet_solver.specs.schema.Schema.{IsBuilt, SchemaView}
use Rattle.facet_solver.specs.solver.State.{State, new_solver}
use Rattle.facet_solver.specs.solver.Report.{IsReportOn, report_of}
use Rattle.facet_solver.specs.declared.DuplicateFieldError.{DuplicateFieldError}
use Rattle.facet_solver.specs.declared.SchemaError.{SchemaError}
use Rattle.facet_solver.specs.declared.SchemaError.TheVariants.{DuplicateField}
use Rattle.facet_solver.specs.declared.error.SolverError.{SolverError}
use Rattle.facet_solver.specs.declared.error.SolverError.TheVariants.{NoMatch, Ambiguous, OutOfMemory}
use Rattle.facet_solver_program.specs.Document.{members_below}
use Rattle.facet_solver_program.specs.Tell.{tell}
use Rattle.facet_solver_program.specs.Answer.{Ending, bad_input, bad_catalogue, too_many_resolutions, duplicate_field, resolved, reported, build, IsEndOfDocument, IsEndOfRoot, IsEndOfShapes, IsReport, IsVerdict}
use Rattle.facet_solver_program.specs.Input.{Input}

-- the end of a document is that of a root that has few enough resolutions
pub end_of_root : (b : Build) (root : ℕ) (document : Members) (schema : SchemaView) (ending : Ending)
    → count_of_root b root ≤ 4096 → IsBuilt b root schema → IsEndOfDocument schema document ending
    → IsEndOfRoot b root document ending
end_of_root b root document schema bad_input few built end = absurd end
end_of_root b root document schema (bad_catalogue fault) few built end = absurd end
end_of_root b root document schema too_many_resolutions few built end = absurd end
end_of_root b root document schema (duplicate_field duplicate) few built end = absurd end
end_of_root b root document schema (resolved index resolution) few built end = (few, schema, built, end)
end_of_root b root document schema (reported report) few built end = (few, schema, built, end)

-- the end of a root is that of checked shapes that have it
pub end_of_shapes : (shapes : Catalogue) (input : Input) (ending : Ending)
    → IsChecked shapes → input.root < length shapes
    → IsEndOfRoot (build shapes input.builder) input.root input.document ending
    → IsEndOfShapes shapes input ending
end_of_shapes shapes input bad_input checked within end = absurd end.3
end_of_shapes shapes input (bad_catalogue fault) checked within end = absurd end.3
end_of_shapes shapes input too_many_resolutions checked within end = (checked, within, end)
end_of_shapes shapes input (duplicate_field duplicate) checked within end = (checked, within, end)
end_of_shapes shapes input (resolved index resolution) checked within end = (checked, within, end)
end_of_shapes shapes input (reported report) checked within end = (checked, within, end)

-- the verdict on a new solver that was told a document is the end of that
pub end_of_document : (schema : SchemaView) (document : Members) (cat : Catalogue) (first last : State) (ending : Ending)
    → first ≡ new_solver schema → cat ≡ schema.build.catalogue → last ≡ tell cat (members_below [] document) first
    → IsVerdict last ending → IsEndOfDocument schema document ending
end_of_document schema document cat first last ending start same told verdict =
    let members = members_below [] document in
    subst (λ s. IsVerdict s ending)
    (told ∙ ap (λ c. tell c members first) same ∙ ap (λ s. tell schema.build.catalogue members s) start)
    verdict

-- an error that reports is the report
pub is_report : (s : State) (e : SolverError) → IsReport e → IsReportOn s e → report_of s ≡ Some (error_view e)
is_report s (NoMatch _ _ _ _ _ _) reports is = sym is
is_report s (Ambiguous _ _) reports is = sym is
is_report s OutOfMemory reports is = absurd reports

-- a refusal as duplicate names a duplicate key of a choice
pub is_choice_duplicate : (b : Build) (root : ℕ) (e : SchemaError) (duplicate : DuplicateFieldError) → e ≡ DuplicateField duplicate
    → IsRefusal b root e → IsChoiceDuplicate b root duplicate.field_name.now duplicate.first_path duplicate.second_path
is_choice_duplicate b root e duplicate same refused = subst (IsRefusal b root) same refused

-- a count that is not above the limit
pub not_too_many : (count : ℕ) (many : Bool) → many ≡ nat_lt 4096 count → many ≡ false → count ≤ 4096
not_too_many count many is not_many = grind arith
