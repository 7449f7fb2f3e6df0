-- The walk of a list of fields: what one choice emits. It takes the indices of the choice, one for
-- each enum and for each field that may be absent, and hands on those that it leaves.
use Rattle.std.specs.Prelude.{◌<◌, ⊤, Bool, true, false, ℕ, zero, suc, List, [], ◌∷◌, ◌++◌, if◌then◌else◌, Option, Some, None, slice_get, length}
use Rattle.facet_solver_shape.specs.declared.shape.Shape.{Shape}
use Rattle.facet_solver_shape.specs.declared.shape.Field.{Field}
use Rattle.facet_solver_shape.specs.declared.shape.Variant.{Variant}
use Rattle.facet_solver_shape.specs.declared.shape.ShapeKind.{ShapeKind}
use Rattle.facet_solver_shape.specs.declared.shape.ShapeKind.TheVariants.{Struct, Enum}
use Rattle.facet_solver.specs.build.Build.{Build, repr_for, Catalogue}
use Rattle.facet_solver_shape.specs.Representation.{is_walked}
use Rattle.facet_solver.specs.build.Content.{content_of}
use Rattle.facet_solver_shape.specs.Roles.{Role, regular, block, alternatives, catch_all, leaf, role_of, may_be_absent}
use Rattle.facet_solver.specs.build.Place.{Path, Chosen, choosing, at_root, at_root_variant, field_path, variant_path}
use Rattle.facet_solver.specs.build.Emissions.{Emission, emit_plain, emit_variant, selection_of}

-- what a walk emits and the indices that it leaves, or nothing
abbrev pub Walked : Type 0
Walked = Option (List Emission × List ℕ)

-- what takes indices and walks by them
abbrev pub Walking : Type 0
Walking = List ℕ → Walked

-- how fields at a place are walked
abbrev pub Walk : Type 0
Walk = List Field → Path → Walking

-- emissions before what is walked
abbrev pub put_before : List Emission → Walked → Walked
put_before es None = None
put_before es (Some w) = Some (es ++ w.0, w.1)

-- one part and then another, on the indices that the first leaves
abbrev pub and_then : Walked → Walking → Walked
and_then None next = None
and_then (Some w) next = put_before w.0 (next w.1)

-- emissions that take no index
abbrev pub emit : List Emission → Walking
emit es ns = Some (es, ns)

-- a variant that may be absent
abbrev pub at_chosen : Option Variant → (Variant → Walked) → Walked
at_chosen None go = None
at_chosen (Some v) go = go v

-- a choice among variants: the next index is the variant's
abbrev pub choose : List Variant → List ℕ → (Variant → Walking) → Walked
choose vs [] go = None
choose vs (k ∷ ns) go = at_chosen (slice_get vs k) (λ v. go v ns)

-- the content of a variant, by the walk of what is below it
abbrev pub walk_content_step : Walk → Catalogue → Variant → Path → Walking
walk_content_step below cat v place ns =
    below (content_of cat v).fields (place ++ (content_of cat v).path) ns

-- a flattened enum at a chosen variant: the selection, the selector, and the content where it
-- stands at this level
abbrev pub walk_variant_step : Walk → Build → Chosen → Path → Walking
walk_variant_step below build chosen place ns =
    put_before (emit_variant build chosen place)
    (if is_walked (repr_for build chosen.shape)
    then walk_content_step below build.catalogue chosen.variant (variant_path place chosen) ns
    else emit [] ns)

-- what may be absent: the next index is 0 where it is, and 1 where it is present
abbrev pub walk_optional : Bool → Walking → Walking
walk_optional false walk ns = walk ns
walk_optional true walk [] = None
walk_optional true walk (zero ∷ ns) = emit [] ns
walk_optional true walk (suc zero ∷ ns) = walk ns
walk_optional true walk (suc (suc k) ∷ ns) = None

-- one field that is present, by its role
abbrev pub walk_present : Walk → Build → Field → Path → Role → Walking
walk_present below build f place (block target fs) = below fs (field_path place f)
walk_present below build f place (alternatives target s vs) =
    λ ns. choose vs ns (λ v rest. walk_variant_step below build (choosing f target s v) place rest)
walk_present below build f place regular = emit (emit_plain build f place regular)
walk_present below build f place (catch_all target) =
    emit (emit_plain build f place (catch_all target))
walk_present below build f place (leaf target) = emit (emit_plain build f place (leaf target))

-- one field, by its role
abbrev pub walk_role : Walk → Build → Field → Path → Role → Walking
walk_role below build f place role =
    walk_optional (may_be_absent role) (walk_present below build f place role)

-- fields in order, each with the indices that the one before it left; `below` walks the fields of
-- what is flattened into them
unfoldable pub walk_fields_step : Walk → Build → Walk
walk_fields_step below build [] place ns = Some ([], ns)
walk_fields_step below build (f ∷ fs) place ns =
    and_then (walk_role below build f place (role_of build.catalogue f) ns)
    (λ rest. walk_fields_step below build fs place rest)

-- the walk down to n levels of what is flattened
unfoldable pub walk_within : ℕ → Build → Walk
walk_within zero build fs place ns = None
walk_within (suc n) build fs place ns = walk_fields_step (walk_within n build) build fs place ns

-- the walk of a list of fields. No level of a checked catalogue lies deeper than its length
unfoldable pub walk_fields : Build → Walk
walk_fields build = walk_within (suc (length build.catalogue)) build

-- the walk of one field
unfoldable pub walk_field : Build → Field → Path → Walking
walk_field build f place ns =
    walk_role (walk_fields build) build f place (role_of build.catalogue f) ns

-- the walk of one field that is present
unfoldable pub walk_present_field : Build → Field → Path → Walking
walk_present_field build f place ns =
    walk_present (walk_fields build) build f place (role_of build.catalogue f) ns

-- the walk of a flattened enum at a chosen variant
unfoldable pub walk_variant : Build → Chosen → Path → Walking
walk_variant build chosen place ns = walk_variant_step (walk_fields build) build chosen place ns

-- the walk of a variant's content
unfoldable pub walk_content : Build → Variant → Path → Walking
walk_content build v place ns = walk_content_step (walk_fields build) build.catalogue v place ns

-- a root enum at a chosen variant, whatever its representation
unfoldable pub walk_root_variant : Build → Shape → Variant → Walking
walk_root_variant build s v ns =
    put_before (selection_of s v [] ∷ []) (walk_content build v (at_root_variant v) ns)

-- the walk of a root by its kind: a struct's fields, a choice among an enum's variants, else
-- nothing is emitted
abbrev pub walk_root_kind : Build → Shape → ShapeKind → Walking
walk_root_kind build s (Struct kind fields) ns = walk_fields build fields.items at_root ns
walk_root_kind build s (Enum variants) ns =
    choose variants.items ns (λ v rest. walk_root_variant build s v rest)
walk_root_kind build s _ ns = emit [] ns

-- the walk of a root that may be absent
abbrev pub walk_root_shape : Build → Option Shape → Walking
walk_root_shape build None ns = None
walk_root_shape build (Some s) ns = walk_root_kind build s s.kind ns

-- the walk of a root
unfoldable pub walk_root : Build → ℕ → Walking
walk_root build root ns = walk_root_shape build (slice_get build.catalogue root) ns

-- an index is left, and it is a variant's
abbrev pub HasChoice : List Variant → List ℕ → Type 0
HasChoice vs [] = ⊥
HasChoice vs (k ∷ ns) = k < length vs

-- where something may be absent, an index is left, and it is 0 or 1
abbrev pub HasPresence : Bool → List ℕ → Type 0
HasPresence false ns = ⊤
HasPresence true [] = ⊥
HasPresence true (k ∷ ns) = k < 2
