-- The categories that the fields of a resolution have in a format.
use Rattle.facet_solver.specs.build.Build.{Build, repr_for}
use Rattle.std.proofs.Common.{◌≡◌, ◌≢◌, T, All, map, ℕ, zero, suc, List, [], ◌∷◌, ◌++◌, Option, Some, None, Bool, true, false, cond, sym, refl, ap, ◌∙◌, subst, slice_get, length}
use Rattle.std.specs.Prelude.{if◌then◌else◌}
use Rattle.std.specs.FinMap.{find as find_at}
use Rattle.std.specs.List.{AllByRecursion, AllZip, fold}
use Rattle.std.specs.FinMap as finite
use Rattle.std.specs.Ordering.{eq_by_cmp, is_eq}
use Rattle.std.proofs.lemmas.Cmp.{tied_itself}
use Rattle.std.proofs.lemmas.List.Elements.{All-from_recursion}
use Rattle.facet_solver_shape.specs.declared.shape.Shape.{Shape}
use Rattle.facet_solver_shape.specs.declared.shape.DomMark.{DomMark}
use Rattle.facet_solver_shape.specs.declared.shape.DomMark.TheVariants.{None as NoMark, Attribute as AttributeMark, Element as ElementMark, Text as TextMark, Tag as TagMark, Elements as ElementsMark}
use Rattle.facet_solver_shape.specs.declared.shape.Field.{Field}
use Rattle.facet_solver_shape.specs.declared.shape.Variant.{Variant}
use Rattle.facet_solver_shape.specs.declared.shape.ShapeKind.{ShapeKind}
use Rattle.facet_solver_shape.specs.declared.shape.ShapeKind.TheVariants.{Struct, Enum}
use Rattle.facet_solver_shape.specs.declared.resolution.key.FieldCategory.{FieldCategory}
use Rattle.facet_solver_shape.specs.declared.resolution.key.FieldCategory.TheVariants.{Flat as FlatCategory}
use Rattle.facet_solver_shape.specs.Keys.{Key, key_cmp, stored_key}
use Rattle.facet_solver_shape.specs.Fields.{FieldView, IsStored, key_of_field}
use Rattle.facet_solver_shape.specs.Resolved.{Resolved, nothing}
use Rattle.facet_solver_shape.proofs.Finite.{equal, none_is_some}
use Rattle.facet_solver_shape.proofs.Resolved.{first_part, none_above, second_part}
use Rattle.facet_solver_shape.proofs.Keys.{key_cmp_total, key_cmp_same}
use Rattle.facet_solver.specs.declared.build.format.Format.{Format}
use Rattle.facet_solver.specs.declared.build.format.Format.TheVariants.{Flat, Dom}
use Rattle.facet_solver_shape.specs.Representation.{Repr, flattened, externally_tagged, internally_tagged, adjacently_tagged, is_walked}
use Rattle.facet_solver.specs.build.Format.{category_of_mark, field_category, selector_category}
use Rattle.facet_solver.specs.build.Content.{content_of}
use Rattle.facet_solver_shape.specs.Roles.{Role, regular, block, alternatives, catch_all, leaf, role_of, may_be_absent}
use Rattle.facet_solver.specs.build.Nested.{with_key_paths}
use Rattle.facet_solver.specs.build.Emissions.{Emission, a_field, some_key_paths, a_selection, a_catch_all, field_and_paths, selection_of, regular_field, leaf_field, selector_field, emit_regular, emit_catch_all, emit_leaf, emit_selector_by, emit_variant, emit_plain}
use Rattle.facet_solver.specs.build.Place.{Chosen, at_root, at_root_variant, choosing, field_path, variant_path, Path}
use Rattle.facet_solver.specs.build.Walk.{Walked, Walk, put_before, and_then, emit, choose, at_chosen, walk_variant_step, walk_content_step, Walking, walk_present, walk_optional, walk_role, walk_fields_step, walk_within, walk_fields, walk_root, walk_root_shape, walk_root_kind, walk_root_variant, walk_content}
use Rattle.facet_solver.specs.build.Choice.{with_emission, resolution_from, IsResolution, GoesByName}
use Rattle.facet_solver.specs.schema.Indexed.{AreOfFormat, HasFormat, IsOfFormat}
use Rattle.facet_solver.specs.schema.Schema.{IsBuilt, SchemaView}

-- all categories that fields and selectors get in a format
pub record HasCategories (P : FieldCategory → Type 0) (format : Format) : Type 0 where
  pub fields : (mark : DomMark) → P (field_category format mark)
  pub selectors : P (selector_category format)

-- the first of some entries is found under its key
pub found_first : (e : Key × FieldView) (es : List (Key × FieldView)) → find_at key_cmp e.0 (e ∷ es) ≡ Some e.1
found_first e es = ap (λ r. cond (is_eq r) (Some e.1) (find_at key_cmp e.0 es)) (tied_itself key_cmp_total e.0)

-- and what is found behind it is found
pub found_later : (e : Key × FieldView) (es : List (Key × FieldView)) → T (finite.is_sorted key_cmp (e ∷ es)) → (k : Key) (f : FieldView) → find_at key_cmp k es ≡ Some f → find_at key_cmp k (e ∷ es) ≡ Some f
found_later e es rising k f found = go (eq_by_cmp key_cmp k e.0) refl
  where
    go : (b : Bool) → eq_by_cmp key_cmp k e.0 ≡ b → cond b (Some e.1) (find_at key_cmp k es) ≡ Some f
    go true tie = none_is_some f (sym (none_above key_cmp_total k e.0 es (equal (key_cmp k e.0) tie) (first_part _ _ rising)) ∙ found)
    go false apart = found

module _ (P : FieldCategory → Type 0) where
  -- each field among emissions has such a category
  AllHave : List Emission → Type 0
  AllHave [] = Unit {0}
  AllHave (a_field f ∷ es) = P f.category × AllHave es
  AllHave (some_key_paths p ∷ es) = AllHave es
  AllHave (a_selection p ∷ es) = AllHave es
  AllHave (a_catch_all f ∷ es) = AllHave es

  AllHave-append : (es fs : List Emission) → AllHave es → AllHave fs → AllHave (es ++ fs)
  unfolding AllHave
  AllHave-append [] fs h k = k
  AllHave-append (a_field f ∷ es) fs h k = (h.0, AllHave-append es fs h.1 k)
  AllHave-append (some_key_paths p ∷ es) fs h k = AllHave-append es fs h k
  AllHave-append (a_selection p ∷ es) fs h k = AllHave-append es fs h k
  AllHave-append (a_catch_all f ∷ es) fs h k = AllHave-append es fs h k

  -- what was walked emits such fields
  EmitsHaving : Walked → Type 0
  EmitsHaving None = Unit {0}
  EmitsHaving (Some w) = AllHave w.0

  having-put_before : (es : List Emission) (w : Walked) → AllHave es → EmitsHaving w → EmitsHaving (put_before es w)
  unfolding EmitsHaving
  having-put_before es None h k = tt
  having-put_before es (Some w) h k = AllHave-append es w.0 h k

  having-and_then : (w : Walked) (go : List ℕ → Walked) → EmitsHaving w → ((ns : List ℕ) → EmitsHaving (go ns)) → EmitsHaving (and_then w go)
  unfolding EmitsHaving
  having-and_then None go h k = tt
  having-and_then (Some w) go h k = having-put_before w.0 (go w.1) h (k w.1)

  having-at_chosen : (o : Option Variant) (go : Variant → Walked) → ((v : Variant) → EmitsHaving (go v)) → EmitsHaving (at_chosen o go)
  unfolding EmitsHaving
  having-at_chosen None go h = tt
  having-at_chosen (Some v) go h = h v

  having-choose : (vs : List Variant) (ns : List ℕ) (go : Variant → List ℕ → Walked) → ((v : Variant) (ns : List ℕ) → EmitsHaving (go v ns)) → EmitsHaving (choose vs ns go)
  unfolding EmitsHaving
  having-choose vs [] go h = tt
  having-choose vs (k ∷ ns) go h = having-at_chosen (slice_get vs k) (λ v. go v ns) (λ v. h v ns)

  having-optional : (b : Bool) (walk : Walking) (ns : List ℕ) → ((ms : List ℕ) → EmitsHaving (walk ms)) → EmitsHaving (walk_optional b walk ns)
  unfolding EmitsHaving AllHave
  having-optional false walk ns h = h ns
  having-optional true walk [] h = tt
  having-optional true walk (zero ∷ ns) h = tt
  having-optional true walk (suc zero ∷ ns) h = h ns
  having-optional true walk (suc (suc k) ∷ ns) h = tt

  module _ (build : Build) (has : HasCategories P build.format) where
    AllWalksHave : Walk → Type 0
    AllWalksHave below = (fs : List Field) (place : Path) (ns : List ℕ) → EmitsHaving (below fs place ns)

    having-selector : (repr : Repr) (chosen : Chosen) (place : Path) → AllHave (emit_selector_by repr build chosen place)
    unfolding emit_selector_by AllHave selector_field field_and_paths
    having-selector flattened chosen place = tt
    having-selector externally_tagged chosen place =
        (has.selectors, tt)
    having-selector (internally_tagged tag) chosen place = (has.selectors, tt)
    having-selector (adjacently_tagged tag content) chosen place =
        (has.selectors, tt)

    having-variant : (chosen : Chosen) (place : Path) → AllHave (emit_variant build chosen place)
    unfolding emit_variant AllHave
    having-variant chosen place = having-selector (repr_for build chosen.shape) chosen place

    having-plain : (f : Field) (place : Path) (r : Role) → AllHave (emit_plain build f place r)
    unfolding emit_plain emit_regular emit_catch_all emit_leaf regular_field leaf_field field_and_paths AllHave
    having-plain f place regular =
        (has.fields f.dom, tt)
    having-plain f place (block target fs) = tt
    having-plain f place (alternatives target s vs) = tt
    having-plain f place (catch_all target) = tt
    having-plain f place (leaf target) = (has.fields f.dom, tt)

    having-content : (walked : Bool) (below : Walk) (v : Variant) (place : Path) (ns : List ℕ) → AllWalksHave below
        → EmitsHaving (if walked then walk_content_step below build.catalogue v place ns else emit [] ns)
    unfolding AllWalksHave EmitsHaving AllHave
    having-content true below v place ns h =
        h (content_of build.catalogue v).fields (place ++ (content_of build.catalogue v).path) ns
    having-content false below v place ns h = tt

    having-present : (below : Walk) (f : Field) (place : Path) (r : Role) (ns : List ℕ) → AllWalksHave below → EmitsHaving (walk_present below build f place r ns)
    unfolding AllWalksHave EmitsHaving
    having-present below f place regular ns h = having-plain f place regular
    having-present below f place (block target fs) ns h = h fs (field_path place f) ns
    having-present below f place (alternatives target s vs) ns h =
        having-choose vs ns (λ v rest. walk_variant_step below build (choosing f target s v) place rest)
        (λ v rest.
        having-put_before (emit_variant build (choosing f target s v) place) _ (having-variant (choosing f target s v) place)
        (having-content (is_walked (repr_for build s)) below v (variant_path place (choosing f target s v)) rest h))
    having-present below f place (catch_all target) ns h = having-plain f place (catch_all target)
    having-present below f place (leaf target) ns h = having-plain f place (leaf target)

    having-role : (below : Walk) (f : Field) (place : Path) (r : Role) (ns : List ℕ) → AllWalksHave below → EmitsHaving (walk_role below build f place r ns)
    having-role below f place r ns h = having-optional (may_be_absent r) (walk_present below build f place r) ns (λ ms. having-present below f place r ms h)

    having-fields : (below : Walk) → AllWalksHave below → (fs : List Field) (place : Path) (ns : List ℕ) → EmitsHaving (walk_fields_step below build fs place ns)
    unfolding walk_fields_step EmitsHaving AllHave
    having-fields below h [] place ns = tt
    having-fields below h (f ∷ fs) place ns =
        having-and_then (walk_role below build f place (role_of build.catalogue f) ns) _
        (having-role below f place (role_of build.catalogue f) ns h) (λ rest. having-fields below h fs place rest)

    having-within : (n : ℕ) (fs : List Field) (place : Path) (ns : List ℕ) → EmitsHaving (walk_within n build fs place ns)
    unfolding walk_within EmitsHaving AllWalksHave
    having-within zero fs place ns = tt
    having-within (suc n) fs place ns = having-fields (walk_within n build) (having-within n) fs place ns

    having-walk : (fs : List Field) (place : Path) (ns : List ℕ) → EmitsHaving (walk_fields build fs place ns)
    unfolding walk_fields
    having-walk fs place ns = having-within (suc (length build.catalogue)) fs place ns

    having-inside : (v : Variant) (place : Path) (ns : List ℕ) → EmitsHaving (walk_content build v place ns)
    unfolding walk_content
    having-inside v place ns = having-walk (content_of build.catalogue v).fields (place ++ (content_of build.catalogue v).path) ns

    having-root_variant : (s : Shape) (v : Variant) (ns : List ℕ) → EmitsHaving (walk_root_variant build s v ns)
    unfolding walk_root_variant AllHave
    having-root_variant s v ns = having-put_before (selection_of s v [] ∷ []) (walk_content build v (at_root_variant v) ns) tt (having-inside v (at_root_variant v) ns)

    having-kind : (s : Shape) (k : ShapeKind) (ns : List ℕ) → EmitsHaving (walk_root_kind build s k ns)
    unfolding EmitsHaving AllHave
    having-kind s (Struct kind fs) ns = having-walk fs.items at_root ns
    having-kind s (Enum vs) ns = having-choose vs.items ns (λ v rest. walk_root_variant build s v rest) (λ v rest. having-root_variant s v rest)
    having-kind s _ ns = tt

    having-shape : (o : Option Shape) (ns : List ℕ) → EmitsHaving (walk_root_shape build o ns)
    unfolding EmitsHaving
    having-shape None ns = tt
    having-shape (Some s) ns = having-kind s s.kind ns

    having-emitted : (root : ℕ) (ns : List ℕ) (es : List Emission) (rest : List ℕ) → walk_root build root ns ≡ Some (es, rest) → AllHave es
    unfolding walk_root EmitsHaving
    having-emitted root ns es rest e = subst EmitsHaving e (having-shape (slice_get build.catalogue root) ns)

  -- each field of a resolution stands under its stored key, and has such a category
  StandsHaving : Resolved → Type 0
  StandsHaving r = (k : Key) (f : FieldView) → finite.get r.fields k ≡ Some f → (k ≡ key_of_field f) × P f.category

  -- as do those that were taken in
  kept-having : (r : Resolved) (es : List Emission) → StandsHaving r → AllHave es → StandsHaving (fold with_emission r es)
  unfolding AllHave StandsHaving with_key_paths
  kept-having r [] h has = h
  kept-having r (a_field f ∷ es) h has = kept-having (with_emission r (a_field f)) es there has.1
    where
      there : StandsHaving (with_emission r (a_field f))
      there k g found =
          let put = finite.get-insert key_cmp_total r.fields (key_of_field f) f k in
          go (eq_by_cmp key_cmp k (key_of_field f)) refl (sym put ∙ found)
        where
          go : (b : Bool) → eq_by_cmp key_cmp k (key_of_field f) ≡ b → cond b (Some f) (finite.get r.fields k) ≡ Some g → (k ≡ key_of_field g) × P g.category
          go true tie found =
              let same : f ≡ g = cc in (
                key_cmp_same k (key_of_field f) (equal (key_cmp k (key_of_field f)) tie) ∙ ap (λ (x : FieldView). key_of_field x) same,
                subst (λ (x : FieldView). P x.category) same has.0,
              )
          go false tie found = h k g found
  kept-having r (some_key_paths p ∷ es) h has = kept-having (with_emission r (some_key_paths p)) es h has
  kept-having r (a_selection p ∷ es) h has = kept-having (with_emission r (a_selection p)) es h has
  kept-having r (a_catch_all f ∷ es) h has = kept-having (with_emission r (a_catch_all f)) es h has

  nothing-having : StandsHaving nothing
  unfolding StandsHaving
  nothing-having k f found = absurd (let none = finite.get-empty {X = FieldView} key_cmp k in cc)

  resolution-having : (build : Build) (root : ℕ) (c : List ℕ) (r : Resolved) → HasCategories P build.format → IsResolution build root c r → StandsHaving r
  unfolding resolution_from
  resolution-having build root c r has h =
      subst StandsHaving (sym h.put_together) (kept-having nothing h.emissions nothing-having (having-emitted build has root c h.emissions [] h.emitted))

  -- the entries of a map, each found under its key
  each_entry : (es : List (Key × FieldView)) → T (finite.is_sorted key_cmp es) → ((k : Key) (f : FieldView) → find_at key_cmp k es ≡ Some f → P f.category)
      → AllByRecursion (λ (f : FieldView). P f.category) (map (λ e. e.1) es)
  each_entry [] rising each = tt
  each_entry (e ∷ es) rising each = (
    each e.0 e.1 (found_first e es),
    each_entry es (second_part _ _ rising) (λ k f found. each k f (found_later e es rising k f found)),
  )

  -- so each field of a resolution has such a category
  pub fields-having : (build : Build) (root : ℕ) (c : List ℕ) (r : Resolved) → HasCategories P build.format → IsResolution build root c r
      → All (λ (f : FieldView). P f.category) (finite.values r.fields)
  unfolding StandsHaving
  fields-having build root c r has h =
      All-from_recursion (λ (f : FieldView). P f.category) (finite.values r.fields)
      (each_entry (finite.entries r.fields) (finite.entries_sorted r.fields)
      (λ k f found. (resolution-having build root c r has h k f (finite.get-entries r.fields k ∙ found)).1))

  -- and stands under its stored key
  stored_entries : (r : Resolved) → StandsHaving r → (es : List (Key × FieldView)) → T (finite.is_sorted key_cmp es)
      → ((k : Key) (f : FieldView) → find_at key_cmp k es ≡ Some f → finite.get r.fields k ≡ Some f) → AllByRecursion IsStored es
  unfolding StandsHaving
  stored_entries r stands [] rising within = tt
  stored_entries r stands (e ∷ es) rising within = (
    (stands e.0 e.1 (within e.0 e.1 (found_first e es))).0,
    stored_entries r stands es (second_part _ _ rising) (λ k f found. within k f (found_later e es rising k f found)),
  )

-- each field of a resolution stands under its stored key
pub fields-stored : (build : Build) (root : ℕ) (c : List ℕ) (r : Resolved) → IsResolution build root c r → AllByRecursion IsStored (finite.entries r.fields)
fields-stored build root c r h =
    let any : FieldCategory → Type 0 = λ c. Unit {0} in
    stored_entries any r (resolution-having any build root c r (record { fields = λ mark. tt; selectors = tt }) h) (finite.entries r.fields) (finite.entries_sorted r.fields)
    (λ k f found. finite.get-entries r.fields k ∙ found)

-- in the flat format all are of category Flat
flat_categories : HasCategories (λ c. c ≡ FlatCategory) Flat
flat_categories = record { fields = λ mark. refl; selectors = refl }

-- so no two fields of a resolution have one name
pub flat_by_name : (build : Build) (root : ℕ) (c : List ℕ) (r : Resolved) → build.format ≡ Flat → IsResolution build root c r → GoesByName r
unfolding StandsHaving
flat_by_name build root c r flat h k f found =
    let stands = resolution-having (λ c. c ≡ FlatCategory) build root c r (subst (HasCategories (λ c. c ≡ FlatCategory)) (sym flat) flat_categories) h k f found in
    stands.0 ∙ ap (λ (c : FieldCategory). stored_key c f.name) stands.1

-- in a format of categories none is
of_mark : (mark : DomMark) → category_of_mark mark ≢ FlatCategory
of_mark NoMark e = cc
of_mark AttributeMark e = cc
of_mark ElementMark e = cc
of_mark TextMark e = cc
of_mark TagMark e = cc
of_mark ElementsMark e = cc

of_selector : selector_category Dom ≢ FlatCategory
of_selector e = cc

dom_categories : HasCategories (λ c. c ≢ FlatCategory) Dom
dom_categories = record { fields = of_mark; selectors = of_selector }

pub flat_fields : (build : Build) (root : ℕ) (c : List ℕ) (r : Resolved) → build.format ≡ Flat → IsResolution build root c r → All (λ (f : FieldView). f.category ≡ FlatCategory) (finite.values r.fields)
flat_fields build root c r flat = fields-having (λ c. c ≡ FlatCategory) build root c r (subst (HasCategories (λ c. c ≡ FlatCategory)) (sym flat) flat_categories)

pub dom_fields : (build : Build) (root : ℕ) (c : List ℕ) (r : Resolved) → build.format ≡ Dom → IsResolution build root c r → All (λ (f : FieldView). f.category ≢ FlatCategory) (finite.values r.fields)
dom_fields build root c r dom = fields-having (λ c. c ≢ FlatCategory) build root c r (subst (HasCategories (λ c. c ≢ FlatCategory)) (sym dom) dom_categories)

-- so the fields of the resolutions of a schema are of its format
format_categories : (format : Format) → HasCategories (IsOfFormat format) format
format_categories Flat = flat_categories
format_categories Dom = dom_categories

each_of_format : (build : Build) (root : ℕ) (cs : List (List ℕ)) (rs : List Resolved) → AllZip (IsResolution build root) cs rs → AllByRecursion (HasFormat build.format) rs
each_of_format build root [] [] each = tt
each_of_format build root [] (r ∷ rs) each = absurd each
each_of_format build root (c ∷ cs) [] each = absurd each
each_of_format build root (c ∷ cs) (r ∷ rs) each =
    (fields-having (IsOfFormat build.format) build root c r (format_categories build.format) each.0, each_of_format build root cs rs each.1)

pub built_of_format : (build : Build) (root : ℕ) (schema : SchemaView) → IsBuilt build root schema → AreOfFormat build.format schema.resolutions
built_of_format build root schema built =
    All-from_recursion (HasFormat build.format) schema.resolutions (each_of_format build root built.enumerates.choices schema.resolutions built.enumerates.resolved)
