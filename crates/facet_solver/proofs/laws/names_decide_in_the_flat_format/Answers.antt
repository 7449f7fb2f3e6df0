use Rattle.std.proofs.Common.{◌≡◌, ℕ, List, [], ◌∷◌, subst, sym}
use Rattle.std.specs.FinMap as finite
use Rattle.std.specs.List.{AllByRecursion, AllZip}
use Rattle.std.proofs.lemmas.List.Elements.{All-from_recursion, recursion_from_All}
use Rattle.facet_solver_shape.specs.Fields.{IsStored}
use Rattle.facet_solver_shape.specs.Resolved.{AreRequiredNames, Resolved}
use Rattle.facet_solver.specs.build.Build.{Build}
use Rattle.facet_solver.specs.solver.ByName.{is_viable_by_name, missing_by_name}
use Rattle.facet_solver.specs.build.Choice.{IsResolution}
use Rattle.facet_solver.specs.solver.Failure.{missing}
use Rattle.facet_solver.specs.schema.Schema.{IsOwnBuild, SchemaView}
use Rattle.facet_solver.specs.solver.Report.{is_viable}
use Rattle.facet_solver.specs.declared.build.format.Format.TheVariants.{Flat}
use Rattle.facet_solver.proofs.ByName.{IsFlat, missing_alike, unknown_alike, viable_alike}
use Rattle.facet_solver.proofs.FieldCategories.{fields-stored, flat_fields}
use Rattle.facet_solver.proofs.Outcome.{required_names}
use Rattle.facet_solver.proofs.laws.names_decide_in_the_flat_format.Goals as goal

-- what a resolution of the flat format is
record IsOfNames (r : Resolved) : Type 0 where
  stored : AllByRecursion IsStored (finite.entries r.fields)
  flat : AllByRecursion IsFlat (finite.values r.fields)
  are : AreRequiredNames r.fields r.required_names

module _ (build : Build) (root : ℕ) (is_flat : build.format ≡ Flat) where
  of_names : (choice : List ℕ) (r : Resolved) → IsResolution build root choice r → IsOfNames r
  of_names choice r is = record {
    stored = fields-stored build root choice r is;
    flat = recursion_from_All IsFlat (finite.values r.fields) (flat_fields build root choice r is_flat is);
    are = subst (λ (q : Resolved). AreRequiredNames q.fields q.required_names) (sym is.put_together) (required_names is.emissions is.no_duplicates);
  }

  each : (P : Resolved → Type 0) → ((r : Resolved) → IsOfNames r → P r) → (choices : List (List ℕ)) (rs : List Resolved)
      → AllZip (IsResolution build root) choices rs → AllByRecursion P rs
  each P holds [] [] zipped = tt
  each P holds [] (r ∷ rs) zipped = absurd zipped
  each P holds (c ∷ choices) [] zipped = absurd zipped
  each P holds (c ∷ choices) (r ∷ rs) zipped = (holds r (of_names c r zipped.0), each P holds choices rs zipped.1)

each_of : (P : Resolved → Type 0) (schema : SchemaView) → IsOwnBuild schema → schema.build.format ≡ Flat → ((r : Resolved) → IsOfNames r → P r) → AllByRecursion P schema.resolutions
each_of P schema own is_flat holds =
    each schema.build schema.root is_flat P holds own.enumerates.choices schema.resolutions own.enumerates.resolved

pub returns-clause-viable : goal.returns-clause-viable
returns-clause-viable c = λ schema seen own is_flat.
    All-from_recursion (λ (r : Resolved). is_viable seen r ≡ is_viable_by_name seen r) schema.resolutions
    (each_of (λ (r : Resolved). is_viable seen r ≡ is_viable_by_name seen r) schema own is_flat (λ r h. viable_alike r h.stored h.flat h.are seen))

pub returns-clause-missing : goal.returns-clause-missing
returns-clause-missing c = λ schema seen own is_flat.
    All-from_recursion (λ (r : Resolved). missing seen r ≡ missing_by_name seen r) schema.resolutions
    (each_of (λ (r : Resolved). missing seen r ≡ missing_by_name seen r) schema own is_flat (λ r h. missing_alike r h.stored h.flat h.are seen))

pub returns-clause-unknown : goal.returns-clause-unknown
returns-clause-unknown c = λ schema seen own is_flat.
    unknown_alike seen schema.resolutions (each_of (λ (r : Resolved). AllByRecursion IsFlat (finite.values r.fields)) schema own is_flat (λ r h. h.flat))
