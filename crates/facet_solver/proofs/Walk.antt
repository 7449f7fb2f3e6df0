-- The walk part by part, and what each part makes of a resolution.
use Rattle.facet_solver.specs.build.Build.{Build, repr_for}
use Rattle.std.proofs.Common.{◌≡◌, ℕ, zero, suc, ◌<◌, List, [], ◌∷◌, ◌++◌, Option, Some, None, slice_get, Bool, true, false, sym, refl, ap, ◌∙◌, subst, length, append-nil, arith, IsSome}
use Rattle.std.specs.Prelude.{if◌then◌else◌, Result, IsErrAnd, slice_index, Vec}
use Rattle.std.specs.Borrow.{Bor}
use Rattle.std.proofs.lemmas.Result.{err_from_is_err_and}
use Rattle.facet_solver_shape.specs.declared.resolution.error.SchemaError as schema
use Rattle.facet_solver_shape.specs.declared.resolution.error.SchemaError.TheVariants.{DuplicateField, OutOfMemory}
use Rattle.facet_solver_shape.specs.Catalogues.{FieldsBelow, VariantsBelow, NamesEarlier}
use Rattle.facet_solver_shape.specs.Resolved.{Resolved}
use Rattle.facet_solver.specs.build.Outcome.{ErrorOf, StopsBy, Walks, duplicate_view, Outcome, resolved, take_all, effect, take_in}
use Rattle.facet_solver_shape.specs.Roles.{Role, regular, block, alternatives, catch_all, leaf, role_of, may_be_absent}
use Rattle.facet_solver_shape.specs.Representation.{is_walked}
use Rattle.facet_solver.specs.build.Content.{content_of, newtype_fields, content_or}
use Rattle.facet_solver.specs.build.Emissions.{IsPlain, Emission, emit_variant, emit_plain, selection_of}
use Rattle.facet_solver.specs.build.Place.{Path, Chosen, choosing, field_path, variant_path, at_root, at_root_variant}
use Rattle.facet_solver.specs.build.Walk.{Walked, put_before, and_then, emit, choose, at_chosen, walk_fields, walk_field, walk_present_field, walk_present, walk_optional, walk_variant, walk_content, walk_content_step, walk_fields_step, HasChoice, HasPresence, Walking, walk_root, walk_root_shape, walk_root_kind, walk_root_variant}
use Rattle.facet_solver_shape.specs.declared.shape.Shape.{Shape}
use Rattle.facet_solver_shape.specs.declared.shape.Field.{Field}
use Rattle.facet_solver_shape.specs.declared.shape.Variant.{Variant}
use Rattle.facet_solver.proofs.Outcome.{take_all-nil, effect-put_before, effect-and_then-stopped, effect-stopped, put_before-some, take_all-one}
use Rattle.facet_solver.proofs.WalkSteps.{walk-is_step}
use Rattle.facet_solver_shape.specs.declared.role.Target.{Target}
use Rattle.std.specs.declared.alloc.Global.{Global}
use Rattle.facet_solver_shape.specs.declared.shape.StructKind.{StructKind}
use Rattle.facet_solver_shape.specs.declared.shape.ShapeKind.{ShapeKind}
use Rattle.facet_solver_shape.specs.declared.shape.ShapeKind.TheVariants.{Struct, Enum}

-- ---- the walk part by part, and what each part makes of a resolution
-- what was walked has an effect, and the other way round
pub effect-some : (r : Resolved) (w : Walked) → IsSome w → IsSome (effect r w)
effect-some r None h = absurd (cc)
effect-some r (Some w) h = refl

pub some-effect : (r : Resolved) (w : Walked) → IsSome (effect r w) → IsSome w
some-effect r None h = absurd (cc)
some-effect r (Some w) h = refl

-- the first of two parts was walked
pub first-some : (w : Walked) (go : List ℕ → Walked) → IsSome (and_then w go) → IsSome w
first-some None go h = absurd (cc)
first-some (Some w) go h = refl

-- errors that stop a part stop the whole
pub stops-emit : (r : Resolved) (es : List Emission) (ns : List ℕ) (err : schema.SchemaError) → ErrorOf (take_all r es) err → StopsBy (effect r (Some (es, ns))) err
stops-emit r es ns (DuplicateField d) h = (ns, ap (λ (o : Outcome). Some (o, ns)) h)
stops-emit r es ns OutOfMemory h = tt

pub stops-put_before : (r : Resolved) (es : List Emission) (w : Walked) (err : schema.SchemaError) → IsSome (put_before es w) → ErrorOf (take_all r es) err → StopsBy (effect r (put_before es w)) err
stops-put_before r es w (DuplicateField d) k h = effect-stopped r (duplicate_view d) es w h (put_before-some es w k)
stops-put_before r es w OutOfMemory k h = tt

pub stops-and_then : (r : Resolved) (w : Walked) (go : List ℕ → Walked) (err : schema.SchemaError) → IsSome (and_then w go) → StopsBy (effect r w) err → StopsBy (effect r (and_then w go)) err
stops-and_then r w go (DuplicateField d) k h = effect-and_then-stopped r (duplicate_view d) w h.0 go h.1 k
stops-and_then r w go OutOfMemory k h = tt

-- emissions alone
pub emit-done : (r t : Resolved) (w : Walked) (es : List Emission) (ns : List ℕ) → w ≡ Some (es, ns) → take_all r es ≡ resolved t → effect r w ≡ Some (resolved t, ns)
emit-done r t w es ns e h = ap (effect r) e ∙ ap (λ (o : Outcome). Some (o, ns)) h

-- the exit of a `?`
pub walks-exit : (result : Result (Bor (List ℕ)) schema.SchemaError) (new : Resolved) (e : Option (Outcome × List ℕ)) (err : schema.SchemaError) → IsErrAnd result (λ x. x ≡ err) → StopsBy e err → Walks e result new
walks-exit result new e err h k =
    let p = err_from_is_err_and result h in
    rw (p.1, p.2) k

pub walks-same : (result : Result (Bor (List ℕ)) schema.SchemaError) (new : Resolved) (e f : Option (Outcome × List ℕ)) → e ≡ f → Walks f result new → Walks e result new
walks-same result new e f h k = subst (λ (x : Option (Outcome × List ℕ)). Walks x result new) (sym h) k

-- where something may be absent that was walked, an index says whether it is
pub has_presence : (b : Bool) (w : Walking) (ns : List ℕ) → IsSome (walk_optional b w ns) → HasPresence b ns
has_presence false w ns h = tt
has_presence true w [] h = absurd (cc)
has_presence true w (zero ∷ ns) h = omega arith
has_presence true w (suc zero ∷ ns) h = omega arith
has_presence true w (suc (suc k) ∷ ns) h = absurd (cc)

-- the walk of a field that is present, by its role
module _ (build : Build) (f : Field) (place : Path) (ns : List ℕ) where
  pub at-block : (target : Target) (fs : List Field) → block target fs ≡ role_of build.catalogue f → walk_present_field build f place ns ≡ walk_fields build fs (field_path place f) ns
  unfolding walk_present_field
  at-block target fs e = ap (λ (r : Role). walk_present (walk_fields build) build f place r ns) (sym e)

  pub at-alternatives : (target : Target) (s : Shape) (vs : List Variant) → alternatives target s vs ≡ role_of build.catalogue f
      → walk_present_field build f place ns ≡ choose vs ns (λ v rest. walk_variant build (choosing f target s v) place rest)
  unfolding walk_present_field walk_variant
  at-alternatives target s vs e = ap (λ (r : Role). walk_present (walk_fields build) build f place r ns) (sym e)

  pub at-plain : (r : Role) → r ≡ role_of build.catalogue f → IsPlain r → walk_present_field build f place ns ≡ Some (emit_plain build f place r, ns)
  unfolding walk_present_field
  at-plain r e h = ap (λ (r : Role). walk_present (walk_fields build) build f place r ns) (sym e) ∙ go r h
    where
      go : (r : Role) → IsPlain r → walk_present (walk_fields build) build f place r ns ≡ Some (emit_plain build f place r, ns)
      go regular h = refl
      go (block target fs) h = absurd h
      go (alternatives target s vs) h = absurd h
      go (catch_all target) h = refl
      go (leaf target) h = refl

-- what is told of a field's presence: whether it is present, and the indices that are left
abbrev pub IsPresence : Bool → List ℕ → Bool → List ℕ → Type 0
IsPresence may_be_absent ns is_present rest = (w : Walking) → walk_optional may_be_absent w ns ≡ (if is_present then w rest else emit [] rest)

-- the walk of a field whose presence is told
module _ (build : Build) (f : Field) (place : Path) (ns : List ℕ) (b : Bool) (is : b ≡ may_be_absent (role_of build.catalogue f)) where
  pub by_presence : walk_field build f place ns ≡ walk_optional b (walk_present_field build f place) ns
  unfolding walk_field walk_present_field
  by_presence = ap (λ (b : Bool). walk_optional b (walk_present (walk_fields build) build f place (role_of build.catalogue f)) ns) (sym is)

  module _ (is_present : Bool) (rest : List ℕ) (told : IsPresence b ns is_present rest) where
    pub when-present : is_present ≡ true → walk_field build f place ns ≡ walk_present_field build f place rest
    when-present e =
        by_presence ∙ told (walk_present_field build f place)
        ∙ ap (λ (b : Bool). if b then walk_present_field build f place rest else emit [] rest) e

    pub when-absent : is_present ≡ false → walk_field build f place ns ≡ Some ([], rest)
    when-absent e =
        by_presence ∙ told (walk_present_field build f place)
        ∙ ap (λ (b : Bool). if b then walk_present_field build f place rest else emit [] rest) e

-- a choice that was walked has its index
pub has_choice : (vs : List Variant) (ns : List ℕ) (go : Variant → List ℕ → Walked) → IsSome (choose vs ns go) → HasChoice vs ns
has_choice vs [] go h = absurd (cc)
has_choice vs (k ∷ ns) go h = below vs k h
  where
    below : (vs : List Variant) (k : ℕ) → IsSome (at_chosen (slice_get vs k) (λ v. go v ns)) → k < length vs
    below [] k h = absurd (cc)
    below (v ∷ vs) zero h = omega arith
    below (v ∷ vs) (suc k) h = let i = below vs k h in omega arith

pub choose-is : (vs : List Variant) (ns : List ℕ) (go : Variant → List ℕ → Walked) (v : Variant) (rest : List ℕ) → slice_get vs (slice_index ns 0) ≡ Some v → ns ≡ slice_index ns 0 ∷ rest → choose vs ns go ≡ go v rest
choose-is vs ns go v rest e h =
    ap (λ (ms : List ℕ). choose vs ms go) h ∙ ap (λ (o : Option Variant). at_chosen o (λ v. go v rest)) e

pub VariantsBelow-get : (limit : ℕ) (vs : List Variant) (k : ℕ) (v : Variant) → slice_get vs k ≡ Some v → VariantsBelow limit vs → FieldsBelow limit v.fields.items
VariantsBelow-get limit [] k v e b = absurd (cc)
VariantsBelow-get limit (w ∷ vs) zero v e b = let same : w ≡ v = cc in let P : Variant → Type 0 = λ v. FieldsBelow limit v.fields.items in subst P same b.0
VariantsBelow-get limit (w ∷ vs) (suc k) v e b = VariantsBelow-get limit vs k v e b.1

-- the walk of a chosen variant
module _ (build : Build) (chosen : Chosen) (place : Path) (ns : List ℕ) where
  by_flag : Bool → Walked
  by_flag walked =
      put_before (emit_variant build chosen place)
      (if walked then walk_content_step (walk_fields build) build.catalogue chosen.variant (variant_path place chosen) ns else emit [] ns)

  pub chosen-walked : is_walked (repr_for build chosen.shape) ≡ true
      → walk_variant build chosen place ns ≡ put_before (emit_variant build chosen place) (walk_content build chosen.variant (variant_path place chosen) ns)
  unfolding walk_variant walk_content by_flag
  chosen-walked e = ap by_flag e

  pub chosen-alone : is_walked (repr_for build chosen.shape) ≡ false → walk_variant build chosen place ns ≡ put_before (emit_variant build chosen place) (Some ([], ns))
  unfolding walk_variant by_flag
  chosen-alone e = ap by_flag e

  -- in both cases the emissions come first
  pub chosen-announced : (w : Walked) × (walk_variant build chosen place ns ≡ put_before (emit_variant build chosen place) w)
  unfolding walk_variant
  chosen-announced = (_, refl)

-- the walk of a content
module _ (build : Build) (v : Variant) (place : Path) (ns : List ℕ) where
  by_content : Option (List Field) → Walked
  by_content o = walk_fields build (content_or v o).fields (place ++ (content_or v o).path) ns

  content-is : walk_content build v place ns ≡ walk_fields build (content_of build.catalogue v).fields (place ++ (content_of build.catalogue v).path) ns
  unfolding walk_content
  content-is = refl

  -- that of a variant with no fields is nothing
  pub content-nothing : NamesEarlier build.catalogue → v.fields.items ≡ [] → walk_content build v place ns ≡ Some ([], ns)
  unfolding walk_fields_step by_content
  content-nothing checked empty =
      content-is
      ∙ ap by_content (ap (newtype_fields build.catalogue) empty)
      ∙ ap (λ (path : Path). walk_fields build v.fields.items path ns) (append-nil place)
      ∙ ap (λ (fs : List Field). walk_fields build fs place ns) empty
      ∙ walk-is_step build checked [] place ns

  -- it is that of its fields, where they stand
  pub content-at : (fs : List Field) (inside : Path) → fs ≡ (content_of build.catalogue v).fields → inside ≡ place ++ (content_of build.catalogue v).path → walk_content build v place ns ≡ walk_fields build fs inside ns
  content-at fs inside e h =
      content-is
      ∙ ap (λ (gs : List Field). walk_fields build gs (place ++ (content_of build.catalogue v).path) ns) (sym e)
      ∙ ap (λ (p : Path). walk_fields build fs p ns) (sym h)

-- a chosen variant, as the code goes through it
module _ (build : Build) (chosen : Chosen) (place : Path) (ns : List ℕ) where
  module _ (r t : Resolved) (done : take_all r (emit_variant build chosen place) ≡ resolved t) where
    pub then-inside : (inside : Path) → inside ≡ variant_path place chosen → is_walked (repr_for build chosen.shape) ≡ true
        → effect r (walk_variant build chosen place ns) ≡ effect t (walk_content build chosen.variant inside ns)
    then-inside inside is_inside walked =
        ap (effect r) (chosen-walked build chosen place ns walked)
        ∙ effect-put_before r t _ _ done
        ∙ ap (λ (place : Path). effect t (walk_content build chosen.variant place ns)) (sym is_inside)

    pub then-alone : is_walked (repr_for build chosen.shape) ≡ false → effect r (walk_variant build chosen place ns) ≡ Some (resolved t, ns)
    then-alone alone =
        ap (effect r) (chosen-alone build chosen place ns alone)
        ∙ effect-put_before r t (emit_variant build chosen place) (Some ([], ns)) done
        ∙ ap (λ (o : Outcome). Some (o, ns)) (take_all-nil t)

    pub then-nothing : NamesEarlier build.catalogue → chosen.variant.fields.items ≡ [] → effect r (walk_variant build chosen place ns) ≡ Some (resolved t, ns)
    then-nothing checked empty = go (is_walked (repr_for build chosen.shape)) refl
      where
        go : (b : Bool) → is_walked (repr_for build chosen.shape) ≡ b → effect r (walk_variant build chosen place ns) ≡ Some (resolved t, ns)
        go true walked =
            then-inside (variant_path place chosen) refl walked
            ∙ ap (effect t) (content-nothing build chosen.variant (variant_path place chosen) ns checked empty)
            ∙ ap (λ (o : Outcome). Some (o, ns)) (take_all-nil t)
        go false alone = then-alone alone

  pub stops-chosen : (r : Resolved) (err : schema.SchemaError) → IsSome (walk_variant build chosen place ns) → ErrorOf (take_all r (emit_variant build chosen place)) err → StopsBy (effect r (walk_variant build chosen place ns)) err
  stops-chosen r err h k =
      let a = chosen-announced build chosen place ns in
      subst (λ (w : Walked). StopsBy (effect r w) err) (sym a.1)
      (stops-put_before r _ a.0 err (subst (λ (w : Walked). IsSome w) a.1 h) k)

-- ---- the walk of a root by its kind
module _ (build : Build) (root : ℕ) (ns : List ℕ) (s : Shape) (is : slice_get build.catalogue root ≡ Some s) where
  by_kind : walk_root build root ns ≡ walk_root_kind build s s.kind ns
  unfolding walk_root
  by_kind = ap (λ (o : Option Shape). walk_root_shape build o ns) is

  pub root-fields : (kind : StructKind) (fs : Vec Field Global) → s.kind ≡ Struct kind fs → walk_root build root ns ≡ walk_fields build fs.items at_root ns
  root-fields kind fs e = by_kind ∙ ap (λ (k : ShapeKind). walk_root_kind build s k ns) e

  pub root-variants : (vs : Vec Variant Global) → s.kind ≡ Enum vs → walk_root build root ns ≡ choose vs.items ns (λ v rest. walk_root_variant build s v rest)
  root-variants vs e = by_kind ∙ ap (λ (k : ShapeKind). walk_root_kind build s k ns) e

  pub root-nothing : ((kind : StructKind) (fs : Vec Field Global) → s.kind ≡ Struct kind fs → ⊥) → ((vs : Vec Variant Global) → s.kind ≡ Enum vs → ⊥) → walk_root build root ns ≡ Some ([], ns)
  root-nothing no_struct no_enum = by_kind ∙ go s.kind refl
    where
      go : (k : ShapeKind) → s.kind ≡ k → walk_root_kind build s k ns ≡ Some ([], ns)
      go (Struct kind fs) e = absurd (no_struct kind fs e)
      go (Enum vs) e = absurd (no_enum vs e)
      go _ e = refl

module _ (build : Build) (s : Shape) (v : Variant) (ns : List ℕ) (inside : Path) (is_inside : inside ≡ at_root_variant v) where
  root_parts : walk_root_variant build s v ns ≡ put_before (selection_of s v [] ∷ []) (walk_content build v inside ns)
  unfolding walk_root_variant
  root_parts = ap (λ (place : Path). put_before (selection_of s v [] ∷ []) (walk_content build v place ns)) (sym is_inside)

  pub selected : (r t : Resolved) (p : Path) → p ≡ [] → take_in r (selection_of s v p) ≡ resolved t → effect r (walk_root_variant build s v ns) ≡ effect t (walk_content build v inside ns)
  selected r t p e h =
      ap (effect r) root_parts
      ∙ effect-put_before r t (selection_of s v [] ∷ []) _ (take_all-one r (selection_of s v []) ∙ ap (λ (q : Path). take_in r (selection_of s v q)) (sym e) ∙ h)

  pub selected-some : IsSome (walk_root_variant build s v ns) → IsSome (walk_content build v inside ns)
  selected-some some = put_before-some (selection_of s v [] ∷ []) _ (subst (λ (w : Walked). IsSome w) root_parts some)

module _ (build : Build) (s : Shape) (v : Variant) (ns : List ℕ) where
  pub selected-stops : (r : Resolved) (p : Path) (err : schema.SchemaError) → p ≡ [] → IsSome (walk_root_variant build s v ns) → ErrorOf (take_in r (selection_of s v p)) err → StopsBy (effect r (walk_root_variant build s v ns)) err
  selected-stops r p err e some h =
      let parts = root_parts build s v ns (at_root_variant v) refl in
      subst (λ (w : Walked). StopsBy (effect r w) err) (sym parts)
      (stops-put_before r (selection_of s v [] ∷ []) _ err (subst (λ (w : Walked). IsSome w) parts some)
      (subst (λ (o : Outcome). ErrorOf o err) (ap (λ (q : Path). take_in r (selection_of s v q)) e ∙ sym (take_all-one r (selection_of s v []))) h))
