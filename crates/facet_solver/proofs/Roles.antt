-- What a role leads to goes down a checked catalogue, and ends: definitions by levels do not depend
-- on the levels that are left.
use Rattle.std.proofs.Common.{◌≡◌, ℕ, zero, suc, ◌<◌, ◌≤◌, List, [], ◌∷◌, Option, Some, None, Bool, true, false, sym, refl, subst, ◌∙◌, slice_get, length, arith, string_bytes, Vec, max, get_or, ◌⊎◌, inl, inr, ap}
use Rattle.std.specs.Prelude.{⊤, if◌then◌else◌}
use Rattle.std.specs.declared.alloc.Global.{Global}
use Rattle.std.proofs.lemmas.Option.{slice_get_within}
use Rattle.facet_solver_shape.specs.declared.shape.Shape.{Shape}
use Rattle.facet_solver_shape.specs.declared.shape.StructKind.{StructKind}
use Rattle.facet_solver_shape.specs.declared.shape.ShapeKind.{ShapeKind}
use Rattle.facet_solver_shape.specs.declared.shape.ShapeKind.TheVariants.{Struct, Enum, Option as OptionOf}
use Rattle.facet_solver_shape.specs.declared.shape.Field.{Field}
use Rattle.facet_solver_shape.specs.declared.shape.Variant.{Variant}
use Rattle.facet_solver_shape.specs.Catalogues.{FieldsBelow, VariantsBelow, KindBelow, NamesEarlier}
use Rattle.facet_solver_shape.specs.EffectiveShapes.{effective}
use Rattle.facet_solver_shape.proofs.EffectiveShapes.{effective-le}
use Rattle.facet_solver.specs.build.Build.{Catalogue, kind_of, kind_at}
use Rattle.facet_solver.specs.build.Content.{struct_fields, newtype_fields, content_of, content_or, is_zero}
use Rattle.facet_solver.specs.build.Emissions.{IsPlain}
use Rattle.facet_solver_shape.specs.Roles.{Role, regular, block, alternatives, catch_all, leaf, target_of, target_by_kind, role_of, role_of_target, role_by_kind, role_view, may_be_absent}
use Rattle.facet_solver_shape.specs.declared.role.Target.{Target}
use Rattle.std.specs.Borrow.{Bor}
use Rattle.facet_solver_shape.specs.declared.role.Role as role
use Rattle.facet_solver_shape.specs.declared.role.Role.TheVariants.{Regular, Block, Alternatives, CatchAll, Leaf}

-- ---- what goes down a checked catalogue ends: definitions by levels don't depend on the levels
-- that are left a limit may rise
pub FieldsBelow-mono : (m n : ℕ) (fs : List Field) → m ≤ n → FieldsBelow m fs → FieldsBelow n fs
FieldsBelow-mono m n [] le h = tt
FieldsBelow-mono m n (f ∷ fs) le h = (omega arith, FieldsBelow-mono m n fs le h.1)

pub VariantsBelow-mono : (m n : ℕ) (vs : List Variant) → m ≤ n → VariantsBelow m vs → VariantsBelow n vs
VariantsBelow-mono m n [] le h = tt
VariantsBelow-mono m n (v ∷ vs) le h = (FieldsBelow-mono m n v.fields.items le h.0, VariantsBelow-mono m n vs le h.1)

pub KindBelow-mono : (m n : ℕ) (k : ShapeKind) → m ≤ n → KindBelow m k → KindBelow n k
KindBelow-mono m n (Struct kind fs) le h = FieldsBelow-mono m n fs.items le h
KindBelow-mono m n (Enum vs) le h = VariantsBelow-mono m n vs.items le h
KindBelow-mono m n (OptionOf inside) le h = omega (arith, h)
KindBelow-mono m n _ le h = tt

-- what a flattened field leads to refers to shapes below the limit
abbrev pub RoleBelow : ℕ → Role → Type 0
RoleBelow limit regular = ⊤
RoleBelow limit (block target fs) = FieldsBelow limit fs
RoleBelow limit (alternatives target s vs) = VariantsBelow limit vs
RoleBelow limit (catch_all target) = ⊤
RoleBelow limit (leaf target) = ⊤

RoleBelow-mono : (m n : ℕ) (r : Role) → m ≤ n → RoleBelow m r → RoleBelow n r
RoleBelow-mono m n regular le h = tt
RoleBelow-mono m n (block target fs) le h = FieldsBelow-mono m n fs le h
RoleBelow-mono m n (alternatives target s vs) le h = VariantsBelow-mono m n vs le h
RoleBelow-mono m n (catch_all target) le h = tt
RoleBelow-mono m n (leaf target) le h = tt

role_by_kind-below : (limit : ℕ) (target : Target) (s : Shape) (k : ShapeKind) → KindBelow limit k → RoleBelow limit (role_by_kind target s k)
role_by_kind-below limit target s (Struct kind fs) h = h
role_by_kind-below limit target s (Enum vs) h = h
role_by_kind-below limit target s _ h = tt

-- the target that a role carries
unfoldable pub target_in : Role → Option Target
target_in regular = None
target_in (block target fs) = Some target
target_in (alternatives target s vs) = Some target
target_in (catch_all target) = Some target
target_in (leaf target) = Some target

target_in_kind : (target : Target) (s : Shape) (k : ShapeKind) → target_in (role_by_kind target s k) ≡ Some target
unfolding target_in
target_in_kind target s (Struct kind fs) = refl
target_in_kind target s (Enum vs) = refl
target_in_kind target s _ = refl

target_in_target : (target : Target) (o : Option Shape) → target_in (role_of_target target o) ≡ Some target
unfolding target_in
target_in_target target None = refl
target_in_target target (Some s) = target_in_kind target s s.kind

target_in_flag : (b : Bool) (r : Role) (target other : Target) → target_in r ≡ Some target → Some other ≡ target_in (if b then r else regular) → (other ≡ target) × (b ≡ true)
unfolding target_in
target_in_flag true r target other h e = let same : Some other ≡ Some target = e ∙ h in (cc, refl)
target_in_flag false r target other h e = absurd (cc)

-- it is that of a flattened field
pub target_in_role : (cat : Catalogue) (f : Field) (target : Target) → Some target ≡ target_in (role_of cat f) → (target ≡ target_of cat f) × (f.flattened ≡ true)
target_in_role cat f target e =
    target_in_flag f.flattened (role_of_target (target_of cat f) (slice_get cat (target_of cat f).shape)) (target_of cat f) target
    (target_in_target (target_of cat f) (slice_get cat (target_of cat f).shape)) e

module _ (cat : Catalogue) (checked : NamesEarlier cat) where
  pub role_of_target-below : (target : Target) (o : Option Shape) → slice_get cat target.shape ≡ o → RoleBelow target.shape (role_of_target target o)
  role_of_target-below target None e = tt
  role_of_target-below target (Some s) e = role_by_kind-below target.shape target s s.kind (checked target.shape s e).kind

  -- an option's inside stands before it
  target_by_kind-le : (id : ℕ) (k : ShapeKind) → KindBelow id k → (target_by_kind id k).shape ≤ id
  target_by_kind-le id (OptionOf inside) h = omega arith
  target_by_kind-le id _ h = omega arith

  pub kind_of-below : (id : ℕ) (o : Option Shape) → slice_get cat id ≡ o → KindBelow id (kind_of o)
  kind_of-below id None e = tt
  kind_of-below id (Some s) e = (checked id s e).kind

  pub target_of-le : (f : Field) → (target_of cat f).shape ≤ f.shape
  target_of-le f = target_by_kind-le f.shape (kind_at cat f.shape) (kind_of-below f.shape (slice_get cat f.shape) refl)

  pub target_in_role-le : (f : Field) (target : Target) → Some target ≡ target_in (role_of cat f) → target.shape ≤ f.shape
  target_in_role-le f target e =
      subst (λ (t : Target). t.shape ≤ f.shape) (sym (target_in_role cat f target e).0) (target_of-le f)

  role_if-below : (b : Bool) (limit : ℕ) (r : Role) → RoleBelow limit r → RoleBelow limit (if b then r else regular)
  role_if-below true limit r h = h
  role_if-below false limit r h = tt

  pub role_of-below : (f : Field) → RoleBelow f.shape (role_of cat f)
  role_of-below f =
      role_if-below f.flattened f.shape _
      (RoleBelow-mono (target_of cat f).shape f.shape (role_of_target (target_of cat f) (slice_get cat (target_of cat f).shape)) (target_of-le f)
      (role_of_target-below (target_of cat f) (slice_get cat (target_of cat f).shape) refl))

  -- the fields of a variant's content
  struct_fields-below : (limit : ℕ) (k : ShapeKind) (v : Variant) → FieldsBelow limit v.fields.items → KindBelow limit k → FieldsBelow limit (content_or v (struct_fields k)).fields
  struct_fields-below limit (Struct kind fs) v h b = b
  struct_fields-below limit (Enum vs) v h b = h
  struct_fields-below limit _ v h b = h

  pub content_of-below : (limit : ℕ) (v : Variant) → FieldsBelow limit v.fields.items → FieldsBelow limit (content_of cat v).fields
  content_of-below limit v h = go v.fields.items h
    where
      by_name : (b : Bool) (f : Field) → f.shape < limit → FieldsBelow limit (content_or v (if b then struct_fields (kind_at cat (effective cat f.shape)) else None)).fields
      by_name true f lt =
          let id = (effective cat f.shape) in
          struct_fields-below limit (kind_at cat (effective cat f.shape)) v h
          (KindBelow-mono id limit (kind_of (slice_get cat id)) (omega (arith, effective-le cat checked f.shape)) (kind_of-below id (slice_get cat id) refl))
      by_name false f lt = h

      go : (fs : List Field) → FieldsBelow limit fs → FieldsBelow limit (content_or v (newtype_fields cat fs)).fields
      go [] b = h
      go (f ∷ []) b = by_name (is_zero (string_bytes f.name)) f b.0
      go (f ∷ g ∷ fs) b = h

-- what the shape at an index names as fields is of the catalogue
module _ (cat : Catalogue) (checked : NamesEarlier cat) (root : ℕ) (s : Shape) (is : slice_get cat root ≡ Some s) where
  inside : root < length cat
  inside = slice_get_within cat root s is

  pub struct-below : (kind : StructKind) (fs : Vec Field Global) → s.kind ≡ Struct kind fs → FieldsBelow (length cat) fs.items
  struct-below kind fs e = FieldsBelow-mono root (length cat) fs.items (omega (arith, inside)) (subst (KindBelow root) e (checked root s is).kind)

  pub enum-below : (vs : Vec Variant Global) → s.kind ≡ Enum vs → VariantsBelow (length cat) vs.items
  enum-below vs e = VariantsBelow-mono root (length cat) vs.items (omega (arith, inside)) (subst (KindBelow root) e (checked root s is).kind)

-- a step of a definition by levels looks only at fields that refer to earlier shapes
abbrev pub IsLocal : {X : Type 0} → ((List Field → X) → List Field → X) → Type 0
IsLocal {X} step = (g h : List Field → X) (limit : ℕ) (fs : List Field) → FieldsBelow limit fs → ((m : ℕ) (gs : List Field) → m < limit → FieldsBelow m gs → g gs ≡ h gs) → step g fs ≡ step h fs

module _ {X : Type 0} (step : (List Field → X) → List Field → X) (by_level : ℕ → List Field → X) (is_step : (n : ℕ) (fs : List Field) → by_level (suc n) fs ≡ step (by_level n) fs) (local : IsLocal step) where
  -- more levels change nothing
  pub same_levels : (n m limit : ℕ) (fs : List Field) → limit < n → limit < m → FieldsBelow limit fs → by_level n fs ≡ by_level m fs
  same_levels zero m limit fs p q h = absurd (omega arith)
  same_levels (suc n) zero limit fs p q h = absurd (omega arith)
  same_levels (suc n) (suc m) limit fs p q h =
      is_step n fs
      ∙ local (by_level n) (by_level m) limit fs h (λ k gs lt b. same_levels n m k gs (omega arith) (omega arith) b)
      ∙ sym (is_step m fs)

  -- so with enough levels the definition is its own step
  pub one_step : (limit : ℕ) (fs : List Field) → FieldsBelow limit fs → by_level (suc limit) fs ≡ step (by_level (suc limit)) fs
  one_step limit fs h =
      is_step limit fs
      ∙ local (by_level limit) (by_level (suc limit)) limit fs h (λ k gs lt b. same_levels limit (suc limit) k gs lt (omega arith) b)

-- ---- the least limit below which fields refer to shapes: what the recursion down a catalogue
-- lowers
unfoldable pub limit_of : List Field → ℕ
limit_of [] = 0
limit_of (f ∷ fs) = max (suc f.shape) (limit_of fs)

pub limit_of-le : (limit : ℕ) (fs : List Field) → FieldsBelow limit fs → limit_of fs ≤ limit
unfolding limit_of
limit_of-le limit [] h = omega arith
limit_of-le limit (f ∷ fs) h = let k = limit_of-le limit fs h.1 in omega arith

pub FieldsBelow-limit : (fs : List Field) → FieldsBelow (limit_of fs) fs
unfolding limit_of
FieldsBelow-limit [] = tt
FieldsBelow-limit (f ∷ fs) = (omega arith, FieldsBelow-mono (limit_of fs) _ fs (omega arith) (FieldsBelow-limit fs))

pub FieldsBelow-at : (limit : ℕ) (fs : List Field) (i : ℕ) (d : Field) → i < length fs → FieldsBelow limit fs → (get_or fs i d).shape < limit
FieldsBelow-at limit [] i d h b = absurd (omega arith)
FieldsBelow-at limit (f ∷ fs) zero d h b = b.0
FieldsBelow-at limit (f ∷ fs) (suc i) d h b = FieldsBelow-at limit fs i d (omega arith) b.1

pub VariantsBelow-at : (limit : ℕ) (vs : List Variant) (i : ℕ) (d : Variant) → i < length vs → VariantsBelow limit vs → FieldsBelow limit (get_or vs i d).fields.items
VariantsBelow-at limit [] i d h b = absurd (omega arith)
VariantsBelow-at limit (v ∷ vs) zero d h b = b.0
VariantsBelow-at limit (v ∷ vs) (suc i) d h b = VariantsBelow-at limit vs i d (omega arith) b.1

-- ---- what the code's roles say: which leave nothing to choose, and which have a target with
-- choices a role that is regular, a catch-all or a leaf is plain
pub plain_role : (r : role.Role) → (r ≡ Regular) ⊎ (((t : Target) × (r ≡ CatchAll t)) ⊎ ((t : Target) × (r ≡ Leaf t))) → IsPlain (role_view r)
plain_role r (inl h) = subst (λ (r : role.Role). IsPlain (role_view r)) (sym h) tt
plain_role r (inr (inl h)) = subst (λ (r : role.Role). IsPlain (role_view r)) (sym h.1) tt
plain_role r (inr (inr h)) = subst (λ (r : role.Role). IsPlain (role_view r)) (sym h.1) tt

-- the target in hand is that of the field's role
pub target_in_hand : (cat : Catalogue) (f : Field) (r : role.Role) (t : Target) → role_view r ≡ role_of cat f
    → ((fs : Bor (List Field)) × (r ≡ Block t fs)) ⊎ ((s : Bor Shape) × (vs : Bor (List Variant)) × (r ≡ Alternatives t s vs))
    → Some t ≡ target_in (role_of cat f)
unfolding target_in
target_in_hand cat f r t e (inl h) = sym (ap (λ (r : role.Role). target_in (role_view r)) h.1) ∙ ap target_in e
target_in_hand cat f r t e (inr h) = sym (ap (λ (r : role.Role). target_in (role_view r)) h.2) ∙ ap target_in e

-- and the field may be absent where its shape is an option
pub optional_in_hand : (cat : Catalogue) (f : Field) (r : role.Role) (t : Target) → role_view r ≡ role_of cat f
    → ((fs : Bor (List Field)) × (r ≡ Block t fs)) ⊎ ((s : Bor Shape) × (vs : Bor (List Variant)) × (r ≡ Alternatives t s vs))
    → may_be_absent (role_of cat f) ≡ t.optional
optional_in_hand cat f r t e (inl h) = sym (ap may_be_absent e) ∙ ap (λ (r : role.Role). may_be_absent (role_view r)) h.1
optional_in_hand cat f r t e (inr h) = sym (ap may_be_absent e) ∙ ap (λ (r : role.Role). may_be_absent (role_view r)) h.2
