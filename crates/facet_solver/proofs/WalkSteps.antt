-- The walk, the choices and the count of fields are made of those of what is flattened into them.
use Rattle.facet_solver.specs.build.Build.{Build, repr_for}
use Rattle.std.proofs.Common.{◌⊎◌, inl, inr, ◌≡◌, ℕ, zero, suc, ◌<◌, List, [], ◌∷◌, ◌++◌, map, Option, Some, None, Bool, true, false, refl, ap, ◌∙◌, slice_get, length, arith, ◌*◌}
use Rattle.std.specs.Prelude.{if◌then◌else◌}
use Rattle.facet_solver_shape.specs.declared.shape.Shape.{Shape}
use Rattle.facet_solver_shape.specs.declared.shape.Field.{Field}
use Rattle.facet_solver_shape.specs.declared.shape.Variant.{Variant}
use Rattle.facet_solver_shape.specs.Catalogues.{FieldsBelow, VariantsBelow, NamesEarlier}
use Rattle.facet_solver.specs.build.Content.{content_of}
use Rattle.facet_solver.specs.build.Place.{choosing, field_path, variant_path, Path}
use Rattle.facet_solver.specs.build.Emissions.{IsPlain, emit_variant}
use Rattle.facet_solver.specs.build.Walk.{Walked, Walk, put_before, and_then, emit, choose, at_chosen, walk_variant_step, walk_content_step, walk_present, walk_optional, walk_role, walk_fields_step, walk_within, walk_fields, Walking}
use Rattle.facet_solver_shape.specs.Representation.{is_walked}
use Rattle.facet_solver_shape.specs.Roles.{Role, regular, block, alternatives, catch_all, leaf, role_of, target_of, role_of_target, may_be_absent}
use Rattle.facet_solver.specs.build.Listing.{Choices, product, indexed, choices_of_variant, choices_of_present, choices_of_optional, choices_of_role, choices_of_fields_step, choices_within, choices_of_fields}
use Rattle.facet_solver.proofs.Roles.{RoleBelow, role_of-below, content_of-below, IsLocal, one_step, role_of_target-below, same_levels}
use Rattle.std.proofs.lemmas.Option.{slice_get_within}
use Rattle.facet_solver.specs.build.Count.{Count, count_role, count_fields_step, count_within, count_fields}
use Rattle.facet_solver.proofs.Count.{count_role-same, count-local, count-step}

-- ---- on a checked catalogue the walk and the choices of a list of fields are their own steps
module _ (build : Build) (checked : NamesEarlier build.catalogue) where
  indexed-same : (k limit : ℕ) (g h : Variant → Choices) (vs : List Variant) → VariantsBelow limit vs → ((v : Variant) → FieldsBelow limit v.fields.items → g v ≡ h v) → indexed k g vs ≡ indexed k h vs
  unfolding indexed
  indexed-same k limit g h [] b x = refl
  indexed-same k limit g h (v ∷ vs) b x =
      ap (λ (cs : Choices). map (λ c. k ∷ c) cs ++ indexed (suc k) g vs) (x v b.0)
      ∙ ap (λ (cs : Choices). map (λ c. k ∷ c) (h v) ++ cs) (indexed-same (suc k) limit g h vs b.1 x)

  choices_of_variant-same : (walked : Bool) (g h : List Field → Choices) (limit : ℕ) (v : Variant) → FieldsBelow limit v.fields.items → ((gs : List Field) → FieldsBelow limit gs → g gs ≡ h gs) → choices_of_variant g build.catalogue walked v ≡ choices_of_variant h build.catalogue walked v
  choices_of_variant-same true g h limit v b x = x (content_of build.catalogue v).fields (content_of-below build.catalogue checked limit v b)
  choices_of_variant-same false g h limit v b x = refl

  choices_of_present-same : (g h : List Field → Choices) (limit : ℕ) (r : Role) → RoleBelow limit r → ((gs : List Field) → FieldsBelow limit gs → g gs ≡ h gs) → choices_of_present g build r ≡ choices_of_present h build r
  choices_of_present-same g h limit regular b x = refl
  choices_of_present-same g h limit (block target fs) b x = x fs b
  choices_of_present-same g h limit (alternatives target s vs) b x = indexed-same 0 limit _ _ vs b (λ v below. choices_of_variant-same (is_walked (repr_for build s)) g h limit v below x)
  choices_of_present-same g h limit (catch_all target) b x = refl
  choices_of_present-same g h limit (leaf target) b x = refl

  choices_of_role-same : (g h : List Field → Choices) (limit : ℕ) (r : Role) → RoleBelow limit r → ((gs : List Field) → FieldsBelow limit gs → g gs ≡ h gs) → choices_of_role g build r ≡ choices_of_role h build r
  choices_of_role-same g h limit r b x = ap (choices_of_optional (may_be_absent r)) (choices_of_present-same g h limit r b x)

  choices-local : IsLocal (λ below fs. choices_of_fields_step below build fs)
  unfolding choices_of_fields_step
  choices-local g h limit [] b x = refl
  choices-local g h limit (f ∷ fs) b x =
      ap (λ (cs : Choices). product cs (choices_of_fields_step g build fs)) (choices_of_role-same g h f.shape (role_of build.catalogue f) (role_of-below build.catalogue checked f) (λ gs below. x f.shape gs b.0 below))
      ∙ ap (λ (cs : Choices). product (choices_of_role h build (role_of build.catalogue f)) cs) (choices-local g h limit fs b.1 x)

  choices-step : (n : ℕ) (fs : List Field) → choices_within (suc n) build fs ≡ choices_of_fields_step (choices_within n build) build fs
  unfolding choices_within
  choices-step n fs = refl

  -- the choices of fields, by those of what is flattened into them
  pub choices_of_fields-step : (fs : List Field) → FieldsBelow (length build.catalogue) fs → choices_of_fields build fs ≡ choices_of_fields_step (choices_of_fields build) build fs
  unfolding choices_of_fields
  choices_of_fields-step fs b = one_step (λ below gs. choices_of_fields_step below build gs) (λ n gs. choices_within n build gs) choices-step choices-local (length build.catalogue) fs b

  -- the same of the walk
  content-same : (walked : Bool) (g h : Walk) (limit : ℕ) (v : Variant) (place : Path) (ns : List ℕ) → FieldsBelow limit v.fields.items → ((gs : List Field) → FieldsBelow limit gs → g gs ≡ h gs)
      → (if walked then walk_content_step g build.catalogue v place ns else emit [] ns) ≡ (if walked then walk_content_step h build.catalogue v place ns else emit [] ns)
  content-same true g h limit v place ns b x =
      ap (λ (w : Path → Walking). w (place ++ (content_of build.catalogue v).path) ns)
      (x (content_of build.catalogue v).fields (content_of-below build.catalogue checked limit v b))
  content-same false g h limit v place ns b x = refl

  choose-same : (limit : ℕ) (vs : List Variant) (ns : List ℕ) (g h : Variant → List ℕ → Walked) → VariantsBelow limit vs → ((v : Variant) (ns : List ℕ) → FieldsBelow limit v.fields.items → g v ns ≡ h v ns) → choose vs ns g ≡ choose vs ns h
  choose-same limit vs [] g h b x = refl
  choose-same limit vs (k ∷ ns) g h b x = go vs k b
    where
      go : (vs : List Variant) (k : ℕ) → VariantsBelow limit vs → at_chosen (slice_get vs k) (λ v. g v ns) ≡ at_chosen (slice_get vs k) (λ v. h v ns)
      go [] k b = refl
      go (v ∷ vs) zero b = x v ns b.0
      go (v ∷ vs) (suc k) b = go vs k b.1

  walk_present-same : (g h : Walk) (limit : ℕ) (f : Field) (place : Path) (r : Role) (ns : List ℕ) → RoleBelow limit r → ((gs : List Field) → FieldsBelow limit gs → g gs ≡ h gs) → walk_present g build f place r ns ≡ walk_present h build f place r ns
  walk_present-same g h limit f place regular ns b x = refl
  walk_present-same g h limit f place (block target fs) ns b x = ap (λ (w : Path → Walking). w (field_path place f) ns) (x fs b)
  walk_present-same g h limit f place (alternatives target s vs) ns b x =
      choose-same limit vs ns
      (λ v rest. walk_variant_step g build (choosing f target s v) place rest)
      (λ v rest. walk_variant_step h build (choosing f target s v) place rest) b
      (λ v rest below.
      ap (put_before (emit_variant build (choosing f target s v) place))
      (content-same (is_walked (repr_for build s)) g h limit v (variant_path place (choosing f target s v)) rest below x))
  walk_present-same g h limit f place (catch_all target) ns b x = refl
  walk_present-same g h limit f place (leaf target) ns b x = refl

  pub walk_role-same : (g h : Walk) (limit : ℕ) (f : Field) (place : Path) (r : Role) (ns : List ℕ) → RoleBelow limit r → ((gs : List Field) → FieldsBelow limit gs → g gs ≡ h gs) → walk_role g build f place r ns ≡ walk_role h build f place r ns
  walk_role-same g h limit f place r ns b x =
      ap (λ (w : Walking). walk_optional (may_be_absent r) w ns) (λ i ms. walk_present-same g h limit f place r ms b x i)

  walk-local_at : (g h : Walk) (limit : ℕ) (fs : List Field) (place : Path) (ns : List ℕ) → FieldsBelow limit fs → ((m : ℕ) (gs : List Field) → m < limit → FieldsBelow m gs → g gs ≡ h gs) → walk_fields_step g build fs place ns ≡ walk_fields_step h build fs place ns
  unfolding walk_fields_step
  walk-local_at g h limit [] place ns b x = refl
  walk-local_at g h limit (f ∷ fs) place ns b x =
      ap (λ (w : Walked). and_then w (λ rest. walk_fields_step g build fs place rest)) (walk_role-same g h f.shape f place (role_of build.catalogue f) ns (role_of-below build.catalogue checked f) (λ gs below. x f.shape gs b.0 below))
      ∙ ap (and_then (walk_role h build f place (role_of build.catalogue f) ns)) (λ i rest. walk-local_at g h limit fs place rest b.1 x i)

  pub walk-local : IsLocal (λ below fs. walk_fields_step below build fs)
  walk-local g h limit fs b x = λ i place ns. walk-local_at g h limit fs place ns b x i

  pub walk-step : (n : ℕ) (fs : List Field) → (λ place ns. walk_within (suc n) build fs place ns) ≡ walk_fields_step (walk_within n build) build fs
  unfolding walk_within
  walk-step n fs = refl

-- ---- on a checked catalogue the walk and the count of any fields are their own steps, whatever
-- the fields refer to
module _ (build : Build) (checked : NamesEarlier build.catalogue) where
  -- a role has nothing below it, or what is below it stands before some shape
  Within : Role → Type 0
  Within r = IsPlain r ⊎ ((m : ℕ) × (m < length build.catalogue) × RoleBelow m r)

  role_of-within : (f : Field) → Within (role_of build.catalogue f)
  unfolding Within
  role_of-within f = by_flag f.flattened
    where
      by_target : (o : Option Shape) → slice_get build.catalogue (target_of build.catalogue f).shape ≡ o → Within (role_of_target (target_of build.catalogue f) o)
      by_target None e = inl tt
      by_target (Some s) e = inr ((target_of build.catalogue f).shape, slice_get_within build.catalogue (target_of build.catalogue f).shape s e, role_of_target-below build.catalogue checked (target_of build.catalogue f) (Some s) e)

      by_flag : (b : Bool) → Within (if b then role_of_target (target_of build.catalogue f) (slice_get build.catalogue (target_of build.catalogue f).shape) else regular)
      by_flag true = by_target (slice_get build.catalogue (target_of build.catalogue f).shape) refl
      by_flag false = inl tt

  walk_plain-same : (g h : Walk) (f : Field) (place : Path) (r : Role) (ns : List ℕ) → IsPlain r → walk_role g build f place r ns ≡ walk_role h build f place r ns
  walk_plain-same g h f place regular ns k = refl
  walk_plain-same g h f place (block target fs) ns k = absurd k
  walk_plain-same g h f place (alternatives target s vs) ns k = absurd k
  walk_plain-same g h f place (catch_all target) ns k = refl
  walk_plain-same g h f place (leaf target) ns k = refl

  -- walks that agree on what stands before the shapes agree
  walk_fields-same : (g h : Walk) → ((m : ℕ) (gs : List Field) → m < length build.catalogue → FieldsBelow m gs → g gs ≡ h gs) → (fs : List Field) (place : Path) (ns : List ℕ) → walk_fields_step g build fs place ns ≡ walk_fields_step h build fs place ns
  unfolding walk_fields_step Within
  walk_fields-same g h x [] place ns = refl
  walk_fields-same g h x (f ∷ fs) place ns =
      ap (λ (w : Walked). and_then w (λ rest. walk_fields_step g build fs place rest)) (here (role_of-within f))
      ∙ ap (and_then (walk_role h build f place (role_of build.catalogue f) ns)) (λ i rest. walk_fields-same g h x fs place rest i)
    where
      here : Within (role_of build.catalogue f) → walk_role g build f place (role_of build.catalogue f) ns ≡ walk_role h build f place (role_of build.catalogue f) ns
      here (inl plain) = walk_plain-same g h f place (role_of build.catalogue f) ns plain
      here (inr k) = walk_role-same build checked g h k.0 f place (role_of build.catalogue f) ns k.2 (λ gs below. x k.0 gs k.1 below)

  pub walk-is_step : (fs : List Field) (place : Path) (ns : List ℕ) → walk_fields build fs place ns ≡ walk_fields_step (walk_fields build) build fs place ns
  unfolding walk_fields walk_within
  walk-is_step fs place ns =
      walk_fields-same (walk_within (length build.catalogue) build) (walk_within (suc (length build.catalogue)) build)
      (λ m gs lt below. same_levels (λ below gs. walk_fields_step below build gs) (λ n gs. walk_within n build gs) (walk-step build checked) (walk-local build checked) (length build.catalogue) (suc (length build.catalogue)) m gs lt (omega arith) below)
      fs place ns

  count_plain-same : (g h : Count) (r : Role) → IsPlain r → count_role g build r ≡ count_role h build r
  count_plain-same g h regular k = refl
  count_plain-same g h (block target fs) k = absurd k
  count_plain-same g h (alternatives target s vs) k = absurd k
  count_plain-same g h (catch_all target) k = refl
  count_plain-same g h (leaf target) k = refl

  count_fields-same : (g h : Count) → ((m : ℕ) (gs : List Field) → m < length build.catalogue → FieldsBelow m gs → g gs ≡ h gs) → (fs : List Field) → count_fields_step g build fs ≡ count_fields_step h build fs
  unfolding count_fields_step Within
  count_fields-same g h x [] = refl
  count_fields-same g h x (f ∷ fs) =
      ap (λ (n : ℕ). n * count_fields_step g build fs) (here (role_of-within f))
      ∙ ap (λ (n : ℕ). count_role h build (role_of build.catalogue f) * n) (count_fields-same g h x fs)
    where
      here : Within (role_of build.catalogue f) → count_role g build (role_of build.catalogue f) ≡ count_role h build (role_of build.catalogue f)
      here (inl plain) = count_plain-same g h (role_of build.catalogue f) plain
      here (inr k) = count_role-same build checked g h k.0 (role_of build.catalogue f) k.2 (λ gs below. x k.0 gs k.1 below)

  pub count-is_step : (fs : List Field) → count_fields build fs ≡ count_fields_step (count_fields build) build fs
  unfolding count_fields count_within
  count-is_step fs =
      count_fields-same (count_within (length build.catalogue) build) (count_within (suc (length build.catalogue)) build)
      (λ m gs lt below. same_levels (λ below gs. count_fields_step below build gs) (λ n gs. count_within n build gs) (count-step build checked) (count-local build checked) (length build.catalogue) (suc (length build.catalogue)) m gs lt (omega arith) below)
      fs
