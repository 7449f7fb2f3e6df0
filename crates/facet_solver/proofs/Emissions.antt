-- What a field or a selector emits, by parts.
use Rattle.facet_solver.specs.build.Build.{Build}
use Rattle.std.proofs.Common.{◌≡◌, [], ◌∷◌, ◌++◌, string_bytes, refl, sym, ap}
use Rattle.facet_solver_shape.specs.declared.shape.Field.{Field}
use Rattle.facet_solver_shape.specs.Names.{Name, effective_name}
use Rattle.facet_solver_shape.specs.Representation.{Repr, flattened, externally_tagged, internally_tagged, adjacently_tagged}
use Rattle.facet_solver.specs.build.Nested.{no_paths, named, nested_paths, content_paths}
use Rattle.facet_solver.specs.build.Place.{Chosen, Path}
use Rattle.facet_solver.specs.build.Emissions.{a_field, some_key_paths, a_catch_all, field_and_paths, regular_field, catch_all_field, selector_field, emit_regular, emit_catch_all, emit_selector_by}
use Rattle.facet_solver_shape.specs.declared.role.Target.{Target}

module _ (build : Build) (f : Field) (place : Path) where
  -- a regular field, and then the key paths of its name and behind it
  pub regular-part : emit_regular build f place
      ≡ a_field (regular_field build f place) ∷ some_key_paths (named (effective_name f) (nested_paths build.catalogue f.shape)) ∷ []
  unfolding emit_regular regular_field field_and_paths
  regular-part = refl

  -- under its effective name
  pub regular-name : (regular_field build f place).name ≡ effective_name f
  unfolding regular_field
  regular-name = refl

  pub catch_all-part : (target : Target) → emit_catch_all build f target place ≡ a_catch_all (catch_all_field build f target place) ∷ []
  unfolding emit_catch_all
  catch_all-part target = refl

-- a selector by the representation
module _ (repr : Repr) (build : Build) (chosen : Chosen) (place : Path) where
  pub selector-flattened : flattened ≡ repr → emit_selector_by repr build chosen place ≡ []
  unfolding emit_selector_by
  selector-flattened e = ap (λ (repr : Repr). emit_selector_by repr build chosen place) (sym e)

  pub selector-internal : (tag : Name) → internally_tagged tag ≡ repr → emit_selector_by repr build chosen place ≡ field_and_paths (selector_field build tag chosen place) no_paths
  unfolding emit_selector_by
  selector-internal tag e = ap (λ (repr : Repr). emit_selector_by repr build chosen place) (sym e)

  pub selector-adjacent : (tag content : Name) → adjacently_tagged tag content ≡ repr → emit_selector_by repr build chosen place
      ≡ field_and_paths (selector_field build tag chosen place) no_paths ++ some_key_paths (named content (content_paths build.catalogue chosen.variant)) ∷ []
  unfolding emit_selector_by
  selector-adjacent tag content e = ap (λ (repr : Repr). emit_selector_by repr build chosen place) (sym e)

-- a selector has the name that it is given
pub selector-name : (build : Build) (chosen : Chosen) (place : Path) (name : Name) → (selector_field build name chosen place).name ≡ name
unfolding selector_field
selector-name build chosen place name = refl

-- the selector of a variant whose name holds the content, and then the key paths of the name and
-- behind it
pub selector-external : (build : Build) (chosen : Chosen) (place : Path) (name : Name) → name ≡ string_bytes chosen.variant.name → emit_selector_by externally_tagged build chosen place
    ≡ a_field (selector_field build name chosen place) ∷ some_key_paths (named name (content_paths build.catalogue chosen.variant)) ∷ []
unfolding emit_selector_by selector_field field_and_paths
selector-external build chosen place name same =
    ap (λ (name : Name). a_field (selector_field build name chosen place) ∷ some_key_paths (named name (content_paths build.catalogue chosen.variant)) ∷ []) (sym same)
