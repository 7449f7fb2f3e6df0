-- What emits catch-alls alone is taken in by the last one of each category.
use Rattle.std.proofs.Common.{◌≡◌, ◌<◌, ◌≤◌, ℕ, zero, suc, List, [], ◌∷◌, ◌++◌, Option, Some, None, Bool, true, false, refl, sym, ap, ◌∙◌, subst, length, arith, ◌+◌, ◌⊎◌, inl, inr, drop, get_or, slice_get}
use Rattle.std.specs.Prelude.{⊤, cond, if◌then◌else◌, ◌||◌, is_some}
use Rattle.std.specs.FinMap as finite
use Rattle.std.specs.Option.{option_or}
use Rattle.std.specs.Ordering.{eq_by_cmp}
use Rattle.std.specs.Borrow.{Bor}
use Rattle.std.proofs.Math.Bool.{or_comm}
use Rattle.std.proofs.Math.ListN.{drop_of_length-le}
use Rattle.std.proofs.lemmas.List.{drop_more}
use Rattle.facet_solver_shape.specs.Catalogues.{FieldsBelow, NamesEarlier}
use Rattle.facet_solver_shape.specs.Fields.{FieldView}
use Rattle.facet_solver_shape.specs.Keys.{category_cmp}
use Rattle.facet_solver_shape.specs.Resolved.{Resolved}
use Rattle.facet_solver_shape.specs.declared.resolution.key.FieldCategory.{FieldCategory}
use Rattle.facet_solver_shape.specs.declared.resolution.key.FieldCategory.TheVariants.{Flat, Attribute, Element, Text, Tag, Elements}
use Rattle.facet_solver_shape.specs.declared.shape.DomMark.{DomMark}
use Rattle.facet_solver_shape.specs.declared.shape.DomMark.TheVariants.{Attribute as AttributeMark}
use Rattle.facet_solver_shape.specs.declared.shape.Field.{Field}
use Rattle.facet_solver_shape.specs.declared.shape.Shape.{Shape}
use Rattle.facet_solver_shape.specs.declared.shape.Variant.{Variant}
use Rattle.facet_solver_shape.proofs.Keys.{category_cmp_same, category_cmp_total}
use Rattle.facet_solver_shape.proofs.Resolved.{or_none}
use Rattle.facet_solver.specs.declared.build.contribution.Contribution.{Contribution}
use Rattle.facet_solver.specs.declared.build.contribution.Contribution.TheVariants.{CatchAlls, Emissions, Choices as ContributesChoices}
use Rattle.facet_solver.specs.declared.build.contribution.categories.Categories.{Categories}
use Rattle.facet_solver.specs.build.Place.{Path, field_path}
use Rattle.facet_solver.specs.declared.build.format.Format.{Format}
use Rattle.facet_solver.specs.declared.build.format.Format.TheVariants.{Dom, Flat as FlatFormat}
use Rattle.facet_solver_shape.specs.declared.role.Role as code
use Rattle.facet_solver_shape.specs.declared.role.Role.TheVariants.{Alternatives, Leaf, Regular}
use Rattle.facet_solver_shape.specs.declared.role.Target.{Target}
use Rattle.facet_solver.specs.build.Contribution.{AreCatchAlls, AreContributions, at, both, contribution_of_field, contribution_of_fields, contribution_of_role, has, has_last, none, only}
use Rattle.facet_solver.specs.build.Build.{Build}
use Rattle.facet_solver.specs.build.CatchAlls.{as_catch_all, emitted, emitted_by, last_catch_all, last_with, with_last}
use Rattle.facet_solver.specs.build.Emissions.{Emission, a_catch_all, a_field, a_selection, catch_all_field, emit_catch_all, emit_plain, some_key_paths}
use Rattle.facet_solver.specs.build.Outcome.{resolved, take_all, take_in}
use Rattle.facet_solver.specs.build.Format.{catch_all_category}
use Rattle.facet_solver_shape.specs.Roles.{Role, alternatives, block, catch_all, leaf, regular, role_of, role_view}
use Rattle.facet_solver.specs.build.Walk.{Walked, Walking, and_then, emit, put_before, walk_fields, walk_fields_step, walk_optional, walk_role}
use Rattle.facet_solver.proofs.Contributed.{block_below, both_catch_alls, both_has, contribution_of_block}
use Rattle.facet_solver.proofs.WalkSteps.{walk-is_step}

-- ---- the first of two that is there
option_or_assoc : {X : Type 0} (a b c : Option X) → option_or (option_or a b) c ≡ option_or a (option_or b c)
option_or_assoc None b c = refl
option_or_assoc (Some x) b c = refl

is_some-or : {X : Type 0} (a b : Option X) → is_some (option_or a b) ≡ (is_some a || is_some b)
is_some-or None b = refl
is_some-or (Some x) b = refl

is_some-if : {X : Type 0} (b : Bool) (x : X) → is_some (if b then Some x else None) ≡ b
is_some-if true x = refl
is_some-if false x = refl

none_of : {X : Type 0} (o : Option X) → is_some o ≡ false → o ≡ None
none_of None e = refl
none_of (Some x) e = absurd (cc)

-- the first of two by what they stand for
first_of_two : (go : Option Field → Option FieldView) (f : Field) (x y : Option FieldView) (o : Option Field) (b : Bool) → go None ≡ None → x ≡ go o → is_some x ≡ is_some o → y ≡ go (Some f) → is_some y ≡ b
    → option_or x y ≡ go (option_or o (if b then Some f else None))
first_of_two go f None y None true n e s g h = g
first_of_two go f None None None false n e s g h = sym n
first_of_two go f None (Some y) None false n e s g h = absurd (cc)
first_of_two go f None y (Some i) b n e s g h = absurd (cc)
first_of_two go f (Some x) y None b n e s g h = absurd (cc)
first_of_two go f (Some x) y (Some i) b n e s g h = e

-- ---- the last catch-all of a category
last-append : (category : FieldCategory) (es fs : List Emission) → last_catch_all category (es ++ fs) ≡ option_or (last_catch_all category fs) (last_catch_all category es)
last-append category [] fs = sym (or_none (last_catch_all category fs))
last-append category (e ∷ es) fs =
    ap (λ (o : Option FieldView). option_or o (as_catch_all category e)) (last-append category es fs)
    ∙ option_or_assoc (last_catch_all category fs) (last_catch_all category es) (as_catch_all category e)

has_none : (category : FieldCategory) → false ≡ has none category
has_none Flat = refl
has_none Attribute = refl
has_none Element = refl
has_none Text = refl
has_none Tag = refl
has_none Elements = refl

-- ---- emissions that are catch-alls
abbrev AreAlone : List Emission → Type 0
AreAlone [] = ⊤
AreAlone (a_catch_all f ∷ es) = AreAlone es
AreAlone (a_field f ∷ es) = ⊥
AreAlone (some_key_paths ps ∷ es) = ⊥
AreAlone (a_selection selection ∷ es) = ⊥

alone-append : (es fs : List Emission) → AreAlone es → AreAlone fs → AreAlone (es ++ fs)
alone-append [] fs h k = k
alone-append (a_catch_all f ∷ es) fs h k = alone-append es fs h k
alone-append (a_field f ∷ es) fs h k = absurd h
alone-append (some_key_paths ps ∷ es) fs h k = absurd h
alone-append (a_selection selection ∷ es) fs h k = absurd h

-- a walk that takes no index and emits these catch-alls, of the categories that are contributed
record Emits (walk : Walking) (es : List Emission) (b : Contribution) : Type 0 where
  pub walked : (ns : List ℕ) → walk ns ≡ Some (es, ns)
  pub alone : AreAlone es
  pub last : (category : FieldCategory) → is_some (last_catch_all category es) ≡ has_last category b

emits-none : Emits (λ ns. Some ([], ns)) [] (CatchAlls none)
emits-none = record { walked = λ ns. refl; alone = tt; last = has_none }

emits-both : (walk next : Walking) (es fs : List Emission) (b d : Contribution) → AreCatchAlls b → AreCatchAlls d → Emits walk es b → Emits next fs d → Emits (λ ns. and_then (walk ns) next) (es ++ fs) (both b d)
emits-both walk next es fs b d h k first second = record {
  walked = λ ns. ap (λ (w : Walked). and_then w next) (first.walked ns) ∙ ap (put_before es) (second.walked ns);
  alone = alone-append es fs first.alone second.alone;
  last = λ category.
      ap is_some (last-append category es fs)
      ∙ is_some-or (last_catch_all category fs) (last_catch_all category es)
      ∙ ap (λ (x : Bool). x || is_some (last_catch_all category es)) (second.last category)
      ∙ ap (λ (x : Bool). has_last category d || x) (first.last category)
      ∙ or_comm (has_last category d) (has_last category b)
      ∙ sym (both_has category b d h k);
}

is_flat : (category : FieldCategory) → eq_by_cmp category_cmp category Flat ≡ has (only Flat) category
is_flat Flat = refl
is_flat _ = refl

is_attribute : (category : FieldCategory) → eq_by_cmp category_cmp category Attribute ≡ has (only Attribute) category
is_attribute Attribute = refl
is_attribute _ = refl

is_element : (category : FieldCategory) → eq_by_cmp category_cmp category Element ≡ has (only Element) category
is_element Element = refl
is_element _ = refl

is_only : (format : Format) (mark : DomMark) (category : FieldCategory) → eq_by_cmp category_cmp category (catch_all_category format mark) ≡ has (only (catch_all_category format mark)) category
is_only FlatFormat mark category = is_flat category
is_only Dom AttributeMark category = is_attribute category
is_only Dom _ category = is_element category

emits-one : (build : Build) (f : Field) (target : Target) (place : Path) → Emits (emit (emit_catch_all build f target place)) (emit_catch_all build f target place) (CatchAlls (only (catch_all_category build.format f.dom)))
unfolding emit_catch_all catch_all_field
emits-one build f target place = record {
  walked = λ ns. refl;
  alone = tt;
  last = λ category. is_some-if (eq_by_cmp category_cmp category (catch_all_category build.format f.dom)) _ ∙ is_only build.format f.dom category;
}

emits-same : (walk other : Walking) (es : List Emission) (b : Contribution) → ((ns : List ℕ) → other ns ≡ walk ns) → Emits walk es b → Emits other es b
emits-same walk other es b same h = record { walked = λ ns. same ns ∙ h.walked ns; alone = h.alone; last = h.last }

-- the emissions of such a walk are those where no index is left
emits-emitted : (walk : Walking) (es : List Emission) (b : Contribution) → Emits walk es b → Emits walk (emitted (walk [])) b
emits-emitted walk es b h = subst (λ (fs : List Emission). Emits walk fs b) (sym (ap emitted (h.walked []))) h

not_choices : (b c : Contribution) → AreCatchAlls b → b ≡ c → c ≡ ContributesChoices → ⊥
not_choices (CatchAlls a) c h e v = let no : CatchAlls a ≡ ContributesChoices = e ∙ v in cc
not_choices Emissions c h e v = absurd h
not_choices ContributesChoices c h e v = absurd h

-- what contributes catch-alls alone is never absent
never_absent : (b : Bool) (contribution : Contribution) → AreCatchAlls (if b then ContributesChoices else contribution) → (b ≡ false) × AreCatchAlls contribution
never_absent true contribution h = absurd h
never_absent false contribution h = (refl, h)

module _ (build : Build) (checked : NamesEarlier build.catalogue) (table : List Contribution) (are : AreContributions build table) where
  -- the walk of fields below an index
  abbrev Emitting : ℕ → Type 0
  Emitting n = (fs : List Field) (place : Path) → FieldsBelow n fs → AreCatchAlls (contribution_of_fields table build fs) → (es : List Emission) × Emits (walk_fields build fs place) es (contribution_of_fields table build fs)

  emits_role : (n : ℕ) (f : Field) (place : Path) → f.shape < suc n → Emitting n → (r : Role) → r ≡ role_of build.catalogue f → AreCatchAlls (contribution_of_role table build.format f r)
      → (es : List Emission) × Emits (walk_role (walk_fields build) build f place r) es (contribution_of_role table build.format f r)
  unfolding emit_plain
  emits_role n f place lt deeper regular e h = absurd h
  emits_role n f place lt deeper (block target fs) e h = by_presence target.optional h
    where
      by_presence : (b : Bool) → AreCatchAlls (if b then ContributesChoices else at table target.shape)
          → (es : List Emission) × Emits (λ ns. walk_optional b (walk_fields build fs (field_path place f)) ns) es (if b then ContributesChoices else at table target.shape)
      by_presence true h = absurd h
      by_presence false h =
          let same = contribution_of_block build checked table are f target fs e (not_choices (at table target.shape) (at table target.shape) h refl) in
          subst (λ (b : Contribution). (es : List Emission) × Emits (walk_fields build fs (field_path place f)) es b) same
          (deeper fs (field_path place f) (block_below build checked table are f target fs n e lt) (subst AreCatchAlls (sym same) h))
  emits_role n f place lt deeper (alternatives target s vs) e h = absurd h
  emits_role n f place lt deeper (catch_all target) e h = (emit_catch_all build f target place, emits-one build f target place)
  emits_role n f place lt deeper (leaf target) e h = absurd h

  emits_fields : (n : ℕ) → Emitting n → (fs : List Field) (place : Path) → FieldsBelow (suc n) fs → AreCatchAlls (contribution_of_fields table build fs)
      → (es : List Emission) × Emits (λ ns. walk_fields_step (walk_fields build) build fs place ns) es (contribution_of_fields table build fs)
  unfolding walk_fields_step
  emits_fields n deeper [] place b h = ([], emits-none)
  emits_fields n deeper (f ∷ fs) place b h =
      let alone = both_catch_alls (contribution_of_field table build f) (contribution_of_fields table build fs) h in
      let first = emits_role n f place b.0 deeper (role_of build.catalogue f) refl alone.0 in
      let rest = emits_fields n deeper fs place b.1 alone.1 in
      (first.0 ++ rest.0, emits-both (walk_role (walk_fields build) build f place (role_of build.catalogue f)) (λ ns. walk_fields_step (walk_fields build) build fs place ns) first.0 rest.0 (contribution_of_field table build f) (contribution_of_fields table build fs) alone.0 alone.1 first.1 rest.1)

  emits_below : (n : ℕ) → Emitting n
  unfolding walk_fields_step
  emits_below zero [] place b h = ([], emits-same (λ ns. Some ([], ns)) (walk_fields build [] place) [] (CatchAlls none) (λ ns. walk-is_step build checked [] place ns) emits-none)
  emits_below zero (f ∷ fs) place b h = absurd (omega (arith, b.0))
  emits_below (suc n) fs place b h =
      let e = emits_fields n (emits_below n) fs place b h in
      (e.0, emits-same (λ ns. walk_fields_step (walk_fields build) build fs place ns) (walk_fields build fs place) e.0 (contribution_of_fields table build fs) (λ ns. walk-is_step build checked fs place ns) e.1)

  -- fields that contribute catch-alls alone
  fields_emit : (n : ℕ) (fs : List Field) (place : Path) → FieldsBelow n fs → AreCatchAlls (contribution_of_fields table build fs) → Emits (walk_fields build fs place) (emitted_by build fs place) (contribution_of_fields table build fs)
  fields_emit n fs place b h =
      let e = emits_below n fs place b h in
      emits-emitted (walk_fields build fs place) e.0 (contribution_of_fields table build fs) e.1

  pub fields_walked : (n : ℕ) (fs : List Field) (place : Path) (ns : List ℕ) → FieldsBelow n fs → AreCatchAlls (contribution_of_fields table build fs) → walk_fields build fs place ns ≡ Some (emitted_by build fs place, ns)
  fields_walked n fs place ns b h = (fields_emit n fs place b h).walked ns

  -- fields of a struct that contributes catch-alls alone
  pub struct-alone : (f : Field) (target : Target) (fs : List Field) (a : Categories) → block target fs ≡ role_of build.catalogue f → at table target.shape ≡ CatchAlls a → AreCatchAlls (contribution_of_fields table build fs)
  struct-alone f target fs a e is =
      subst AreCatchAlls (sym (contribution_of_block build checked table are f target fs e (λ v. let no : CatchAlls a ≡ ContributesChoices = sym is ∙ v in cc) ∙ is)) tt

  -- what one of them emits
  abbrev emitted_at : Field → Path → List Emission
  emitted_at f place = emitted (walk_role (walk_fields build) build f place (role_of build.catalogue f) [])

  field_emits : (n : ℕ) (f : Field) (place : Path) → f.shape < suc n → AreCatchAlls (contribution_of_field table build f) → Emits (walk_role (walk_fields build) build f place (role_of build.catalogue f)) (emitted_at f place) (contribution_of_field table build f)
  field_emits n f place lt h =
      let e = emits_role n f place lt (emits_below n) (role_of build.catalogue f) refl h in
      emits-emitted (walk_role (walk_fields build) build f place (role_of build.catalogue f)) e.0 (contribution_of_field table build f) e.1

  module _ (category : FieldCategory) where
    -- there is such a field exactly if one of them contributes the category
    with-has : (fs : List Field) → AreCatchAlls (contribution_of_fields table build fs) → is_some (last_with table build category fs) ≡ has_last category (contribution_of_fields table build fs)
    with-has [] h = has_none category
    with-has (f ∷ fs) h =
        let alone = both_catch_alls (contribution_of_field table build f) (contribution_of_fields table build fs) h in
        is_some-or (last_with table build category fs) _
        ∙ ap (λ (b : Bool). b || is_some (if has_last category (contribution_of_field table build f) then Some f else None)) (with-has fs alone.1)
        ∙ ap (λ (b : Bool). has_last category (contribution_of_fields table build fs) || b) (is_some-if (has_last category (contribution_of_field table build f)) f)
        ∙ or_comm (has_last category (contribution_of_fields table build fs)) (has_last category (contribution_of_field table build f))
        ∙ sym (both_has category (contribution_of_field table build f) (contribution_of_fields table build fs) alone.0 alone.1)

    -- the last catch-all is that of the last field that contributes one
    pub last_at : Path → Option Field → Option FieldView
    last_at place None = None
    last_at place (Some f) = last_catch_all category (emitted_at f place)

    emitted-more : (n : ℕ) (f : Field) (fs : List Field) (place : Path) → FieldsBelow (suc n) (f ∷ fs) → AreCatchAlls (contribution_of_fields table build (f ∷ fs)) → emitted_by build (f ∷ fs) place ≡ emitted_at f place ++ emitted_by build fs place
    unfolding walk_fields_step
    emitted-more n f fs place b h =
        let alone = both_catch_alls (contribution_of_field table build f) (contribution_of_fields table build fs) h in
        let first = field_emits n f place b.0 alone.0 in
        let rest = fields_emit (suc n) fs place b.1 alone.1 in
        ap emitted (
        walk-is_step build checked (f ∷ fs) place []
        ∙ ap (λ (w : Walked). and_then w (λ ns. walk_fields_step (walk_fields build) build fs place ns)) (first.walked [])
        ∙ ap (put_before (emitted_at f place)) (sym (walk-is_step build checked fs place []) ∙ rest.walked [])
        )

    pub last_at-none : (place : Path) → last_at place None ≡ None
    unfolding last_at
    last_at-none place = refl

    pub last-is : (n : ℕ) (fs : List Field) (place : Path) → FieldsBelow n fs → AreCatchAlls (contribution_of_fields table build fs) → last_catch_all category (emitted_by build fs place) ≡ last_at place (last_with table build category fs)
    unfolding walk_fields_step last_at
    last-is n [] place b h = ap (λ (w : Walked). last_catch_all category (emitted w)) (walk-is_step build checked [] place [])
    last-is zero (f ∷ fs) place b h = absurd (omega (arith, b.0))
    last-is (suc n) (f ∷ fs) place b h =
        let alone = both_catch_alls (contribution_of_field table build f) (contribution_of_fields table build fs) h in
        ap (last_catch_all category) (emitted-more n f fs place b h)
        ∙ last-append category (emitted_at f place) (emitted_by build fs place)
        ∙ first_of_two (last_at place) f (last_catch_all category (emitted_by build fs place)) (last_catch_all category (emitted_at f place)) (last_with table build category fs) (has_last category (contribution_of_field table build f))
        refl
        (last-is (suc n) fs place b.1 alone.1)
        ((fields_emit (suc n) fs place b.1 alone.1).last category ∙ sym (with-has fs alone.1))
        refl
        ((field_emits n f place b.0 alone.0).last category)

-- ---- the last of fields that contribute a catch-all of a category
has-alone : (category : FieldCategory) (b : Contribution) → has_last category b ≡ true → AreCatchAlls b
has-alone category (CatchAlls a) h = tt
has-alone category Emissions h = absurd (cc)
has-alone category ContributesChoices h = absurd (cc)

-- where it stands
record IsFound (table : List Contribution) (build : Build) (category : FieldCategory) (fs : List Field) (f : Field) : Type 0 where
  pub index : ℕ
  pub there : slice_get fs index ≡ Some f
  pub has : has_last category (contribution_of_field table build f) ≡ true

module _ (table : List Contribution) (build : Build) (category : FieldCategory) where
  abbrev Finds : List Field → Type 0
  Finds fs = (f : Field) → last_with table build category fs ≡ Some f → IsFound table build category fs f

  finds-more : (g : Field) (fs : List Field) → Finds fs → (o : Option Field) → last_with table build category fs ≡ o → (b : Bool) → has_last category (contribution_of_field table build g) ≡ b → (f : Field) → option_or o (if b then Some g else None) ≡ Some f
      → IsFound table build category (g ∷ fs) f
  finds-more g fs deeper (Some h) same b has f e =
      let found = deeper f (same ∙ e) in
      record { index = suc found.index; there = found.there; has = found.has }
  finds-more g fs deeper None same true has f e =
      let is : g ≡ f = cc in
      record { index = zero; there = e; has = subst (λ (h : Field). has_last category (contribution_of_field table build h) ≡ true) is has }
  finds-more g fs deeper None same false has f e = absurd (cc)

  found : (fs : List Field) → Finds fs
  found [] f e = absurd (cc)
  found (g ∷ fs) f e = finds-more g fs (found fs) (last_with table build category fs) refl (has_last category (contribution_of_field table build g)) refl f e

  below_at : (limit : ℕ) (fs : List Field) (i : ℕ) (f : Field) → slice_get fs i ≡ Some f → FieldsBelow limit fs → f.shape < limit
  below_at limit [] i f e b = absurd (cc)
  below_at limit (g ∷ fs) zero f e b = let is : g ≡ f = cc in subst (λ (h : Field). h.shape < limit) is b.0
  below_at limit (g ∷ fs) (suc i) f e b = below_at limit fs i f e b.1

  pub found-below : (limit : ℕ) (fs : List Field) (f : Field) → FieldsBelow limit fs → Some f ≡ last_with table build category fs → f.shape < limit
  found-below limit fs f b e = let at = found fs f (sym e) in below_at limit fs at.index f at.there b

  pub found-alone : (fs : List Field) (f : Field) → Some f ≡ last_with table build category fs → AreCatchAlls (contribution_of_field table build f)
  found-alone fs f e = has-alone category (contribution_of_field table build f) (found fs f (sym e)).has

  pub found-has : (fs : List Field) (f : Field) → Some f ≡ last_with table build category fs → has_last category (contribution_of_field table build f) ≡ true
  found-has fs f e = (found fs f (sym e)).has

  -- field by field
  later : (b : Bool) (f : Field) (rest last : Option Field) → option_or rest (if b then Some f else last) ≡ option_or (option_or rest (if b then Some f else None)) last
  later true f rest last = sym (option_or_assoc rest (Some f) last)
  later false f rest last = ap (λ (o : Option Field). option_or o last) (sym (or_none rest))

  pub with-more : (fs : List Field) (i : ℕ) (f : Field) (last : Option Field) → i < length fs → f ≡ get_or fs i f
      → option_or (last_with table build category (drop (i + 1) fs)) (if has_last category (contribution_of_field table build f) then Some f else last) ≡ option_or (last_with table build category (drop i fs)) last
  with-more fs i f last lt is =
      later (has_last category (contribution_of_field table build f)) f (last_with table build category (drop (i + 1) fs)) last
      ∙ ap (λ (gs : List Field). option_or (last_with table build category gs) last) (ap (λ (g : Field). g ∷ drop (i + 1) fs) is ∙ sym (drop_more fs i f lt))

  pub with-end : (fs : List Field) (i : ℕ) (last : Option Field) → length fs ≤ i → last ≡ option_or (last_with table build category (drop i fs)) last
  with-end fs i last past = ap (λ (gs : List Field). option_or (last_with table build category gs) last) (sym (drop_of_length-le fs past))

-- a role that contributes no catch-all, whatever lies below it
abbrev IsOther : Role → Type 0
IsOther regular = ⊤
IsOther (block target fs) = ⊥
IsOther (alternatives target s vs) = ⊤
IsOther (catch_all target) = ⊥
IsOther (leaf target) = ⊤

module _ (build : Build) (checked : NamesEarlier build.catalogue) (table : List Contribution) (are : AreContributions build table) (category : FieldCategory) (f : Field) (place : Path) where
  -- at a struct, the last is that of its fields
  pub at-block : (target : Target) (fs : List Field) → block target fs ≡ role_of build.catalogue f → AreCatchAlls (contribution_of_field table build f) → last_at build checked table are category place (Some f) ≡ last_catch_all category (emitted_by build fs (field_path place f))
  unfolding last_at
  at-block target fs e h =
      let there = never_absent target.optional (at table target.shape) (subst (λ (r : Role). AreCatchAlls (contribution_of_role table build.format f r)) (sym e) h) in
      ap (λ (r : Role). last_catch_all category (emitted (walk_role (walk_fields build) build f place r []))) (sym e)
      ∙ ap (λ (b : Bool). last_catch_all category (emitted (walk_optional b (walk_fields build fs (field_path place f)) []))) there.0

  -- and they contribute catch-alls alone
  pub block-alone : (target : Target) (fs : List Field) → block target fs ≡ role_of build.catalogue f → AreCatchAlls (contribution_of_field table build f) → AreCatchAlls (contribution_of_fields table build fs)
  block-alone target fs e h =
      let alone = (never_absent target.optional (at table target.shape) (subst (λ (r : Role). AreCatchAlls (contribution_of_role table build.format f r)) (sym e) h)).1 in
      subst AreCatchAlls (sym (contribution_of_block build checked table are f target fs e (not_choices (at table target.shape) (at table target.shape) alone refl))) alone

  -- at a catch-all, it is this
  pub at-catch_all : (target : Target) → catch_all target ≡ role_of build.catalogue f → has_last category (contribution_of_field table build f) ≡ true → last_at build checked table are category place (Some f) ≡ Some (catch_all_field build f target place)
  unfolding last_at emit_plain emit_catch_all catch_all_field
  at-catch_all target e h =
      ap (λ (r : Role). last_catch_all category (emitted (walk_role (walk_fields build) build f place r []))) (sym e)
      ∙ ap (λ (b : Bool). if b then Some (catch_all_field build f target place) else None)
      (is_only build.format f.dom category ∙ ap (λ (r : Role). has_last category (contribution_of_role table build.format f r)) e ∙ h)

  -- no other role contributes a catch-all
  pub no_other_role : (r : code.Role) → role_view r ≡ role_of build.catalogue f → (r ≡ Regular) ⊎ (((t : Target) × (s : Bor Shape) × (vs : Bor (List Variant)) × (r ≡ Alternatives t s vs)) ⊎ ((t : Target) × (r ≡ Leaf t))) → has_last category (contribution_of_field table build f) ≡ true → ⊥
  no_other_role r e which h = by_role (role_view r) (subst (λ (x : code.Role). IsOther (role_view x)) (sym (is r which).1) (is r which).2) (ap (λ (x : Role). has_last category (contribution_of_role table build.format f x)) e ∙ h)
    where
      is : (r : code.Role) → (r ≡ Regular) ⊎ (((t : Target) × (s : Bor Shape) × (vs : Bor (List Variant)) × (r ≡ Alternatives t s vs)) ⊎ ((t : Target) × (r ≡ Leaf t))) → (x : code.Role) × (r ≡ x) × IsOther (role_view x)
      is r (inl h) = (Regular, h, tt)
      is r (inr (inl h)) = (Alternatives h.0 h.1 h.2, h.3, tt)
      is r (inr (inr h)) = (Leaf h.0, h.1, tt)

      by_role : (x : Role) → IsOther x → has_last category (contribution_of_role table build.format f x) ≡ true → ⊥
      by_role regular o h = cc
      by_role (block target fs) o h = o
      by_role (alternatives target s vs) o h = cc
      by_role (catch_all target) o h = o
      by_role (leaf target) o h = cc

-- ---- catch-alls are taken in by the last of each category
abbrev Catching : Type 0
Catching = finite.FinMap category_cmp FieldView

overlaid : Catching → List Emission → Catching
overlaid m [] = m
overlaid m (a_catch_all f ∷ es) = overlaid (finite.insert m f.category f) es
overlaid m (_ ∷ es) = overlaid m es

taken : (r : Resolved) (es : List Emission) → AreAlone es → take_all r es ≡ resolved (record r { catch_alls = overlaid r.catch_alls es })
unfolding take_all take_in overlaid
taken r [] h = refl
taken r (a_catch_all f ∷ es) h = taken (record r { catch_alls = finite.insert r.catch_alls f.category f }) es h
taken r (a_field f ∷ es) h = absurd h
taken r (some_key_paths ps ∷ es) h = absurd h
taken r (a_selection selection ∷ es) h = absurd h

one_more : (b : Bool) (o p : Option FieldView) (f : FieldView) → option_or o (cond b (Some f) p) ≡ option_or (option_or o (if b then Some f else None)) p
one_more true None p f = refl
one_more true (Some g) p f = refl
one_more false None p f = refl
one_more false (Some g) p f = refl

no_more : (o p : Option FieldView) → option_or o p ≡ option_or (option_or o None) p
no_more o p = ap (λ (x : Option FieldView). option_or x p) (sym (or_none o))

get-overlaid : (m : Catching) (es : List Emission) (category : FieldCategory) → finite.get (overlaid m es) category ≡ option_or (last_catch_all category es) (finite.get m category)
unfolding overlaid
get-overlaid m [] category = refl
get-overlaid m (a_catch_all f ∷ es) category =
    get-overlaid (finite.insert m f.category f) es category
    ∙ ap (option_or (last_catch_all category es)) (finite.get-insert category_cmp_total m f.category f category)
    ∙ one_more (eq_by_cmp category_cmp category f.category) (last_catch_all category es) (finite.get m category) f
get-overlaid m (a_field f ∷ es) category = get-overlaid m es category ∙ no_more (last_catch_all category es) (finite.get m category)
get-overlaid m (some_key_paths ps ∷ es) category = get-overlaid m es category ∙ no_more (last_catch_all category es) (finite.get m category)
get-overlaid m (a_selection selection ∷ es) category = get-overlaid m es category ∙ no_more (last_catch_all category es) (finite.get m category)

laid : FieldCategory → Option FieldView → Catching → Catching
laid category None m = m
laid category (Some f) m = finite.insert m category f

with_last-laid : (category : FieldCategory) (o : Option FieldView) (r : Resolved) → with_last category o r ≡ record r { catch_alls = laid category o r.catch_alls }
unfolding laid
with_last-laid category None r = refl
with_last-laid category (Some f) r = refl

cond_same : (b : Bool) (o : Option FieldView) → o ≡ cond b o o
cond_same true o = refl
cond_same false o = refl

get-laid : (category : FieldCategory) (o : Option FieldView) (m : Catching) (asked : FieldCategory) → finite.get (laid category o m) asked ≡ cond (eq_by_cmp category_cmp asked category) (option_or o (finite.get m asked)) (finite.get m asked)
unfolding laid
get-laid category None m asked = cond_same (eq_by_cmp category_cmp asked category) (finite.get m asked)
get-laid category (Some f) m asked = finite.get-insert category_cmp_total m category f asked

module _ (r : Resolved) (es : List Emission) (b : Contribution) (alone : AreCatchAlls b) (last : (category : FieldCategory) → is_some (last_catch_all category es) ≡ has_last category b) where
  abbrev m0 : Catching
  m0 = r.catch_alls

  abbrev m1 : Catching
  m1 = laid Flat (last_catch_all Flat es) m0

  abbrev m2 : Catching
  m2 = laid Attribute (last_catch_all Attribute es) m1

  abbrev m3 : Catching
  m3 = laid Element (last_catch_all Element es) m2

  no_other : (category : FieldCategory) → has_last category b ≡ false → finite.get m0 category ≡ finite.get (overlaid m0 es) category
  no_other category e =
      ap (λ (o : Option FieldView). option_or o (finite.get m0 category)) (sym (none_of (last_catch_all category es) (last category ∙ e)))
      ∙ sym (get-overlaid m0 es category)

  others : (category : FieldCategory) → (finite.get m3 category ≡ finite.get m0 category) → has_last category b ≡ false → finite.get m3 category ≡ finite.get (overlaid m0 es) category
  others category same e = same ∙ no_other category e

  each : (category : FieldCategory) → finite.get m3 category ≡ finite.get (overlaid m0 es) category
  each Flat =
      get-laid Element (last_catch_all Element es) m2 Flat
      ∙ get-laid Attribute (last_catch_all Attribute es) m1 Flat
      ∙ get-laid Flat (last_catch_all Flat es) m0 Flat
      ∙ sym (get-overlaid m0 es Flat)
  each Attribute =
      get-laid Element (last_catch_all Element es) m2 Attribute
      ∙ get-laid Attribute (last_catch_all Attribute es) m1 Attribute
      ∙ ap (option_or (last_catch_all Attribute es)) (get-laid Flat (last_catch_all Flat es) m0 Attribute)
      ∙ sym (get-overlaid m0 es Attribute)
  each Element =
      get-laid Element (last_catch_all Element es) m2 Element
      ∙ ap (option_or (last_catch_all Element es))
      (get-laid Attribute (last_catch_all Attribute es) m1 Element ∙ get-laid Flat (last_catch_all Flat es) m0 Element)
      ∙ sym (get-overlaid m0 es Element)
  each Text = others Text (get-laid Element _ m2 Text ∙ get-laid Attribute _ m1 Text ∙ get-laid Flat _ m0 Text) (none_text b alone)
    where
      none_text : (b : Contribution) → AreCatchAlls b → has_last Text b ≡ false
      none_text (CatchAlls a) h = refl
      none_text Emissions h = absurd h
      none_text ContributesChoices h = absurd h
  each Tag = others Tag (get-laid Element _ m2 Tag ∙ get-laid Attribute _ m1 Tag ∙ get-laid Flat _ m0 Tag) (none_tag b alone)
    where
      none_tag : (b : Contribution) → AreCatchAlls b → has_last Tag b ≡ false
      none_tag (CatchAlls a) h = refl
      none_tag Emissions h = absurd h
      none_tag ContributesChoices h = absurd h
  each Elements = others Elements (get-laid Element _ m2 Elements ∙ get-laid Attribute _ m1 Elements ∙ get-laid Flat _ m0 Elements) (none_elements b alone)
    where
      none_elements : (b : Contribution) → AreCatchAlls b → has_last Elements b ≡ false
      none_elements (CatchAlls a) h = refl
      none_elements Emissions h = absurd h
      none_elements ContributesChoices h = absurd h

  all_laid : with_last Element (last_catch_all Element es) (with_last Attribute (last_catch_all Attribute es) (with_last Flat (last_catch_all Flat es) r)) ≡ record r { catch_alls = overlaid m0 es }
  all_laid =
      ap (λ (s : Resolved). with_last Element (last_catch_all Element es) (with_last Attribute (last_catch_all Attribute es) s)) (with_last-laid Flat (last_catch_all Flat es) r)
      ∙ ap (λ (s : Resolved). with_last Element (last_catch_all Element es) s) (with_last-laid Attribute (last_catch_all Attribute es) (record r { catch_alls = m1 }))
      ∙ with_last-laid Element (last_catch_all Element es) (record r { catch_alls = m2 })
      ∙ ap (λ (m : Catching). record r { catch_alls = m }) (finite.same_map category_cmp_total category_cmp_same m3 (overlaid m0 es) each)

-- the last catch-all of each category is what fields leave that contribute catch-alls alone
pub all_set : (build : Build) (checked : NamesEarlier build.catalogue) (table : List Contribution) → AreContributions build table → (fs : List Field) (place : Path) → FieldsBelow (length build.catalogue) fs → AreCatchAlls (contribution_of_fields table build fs)
    → (r s t u : Resolved)
    → s ≡ with_last Flat (last_catch_all Flat (emitted_by build fs place)) r
    → t ≡ with_last Attribute (last_catch_all Attribute (emitted_by build fs place)) s
    → u ≡ with_last Element (last_catch_all Element (emitted_by build fs place)) t
    → take_all r (emitted_by build fs place) ≡ resolved u
all_set build checked table are fs place b h r s t u e f g =
    let es = emitted_by build fs place in
    let emits = fields_emit build checked table are (length build.catalogue) fs place b h in
    taken r es emits.alone
    ∙ ap resolved (
    sym (all_laid r es (contribution_of_fields table build fs) h emits.last)
    ∙ ap (λ (s : Resolved). with_last Element (last_catch_all Element es) (with_last Attribute (last_catch_all Attribute es) s)) (sym e)
    ∙ ap (with_last Element (last_catch_all Element es)) (sym f)
    ∙ sym g
    )
