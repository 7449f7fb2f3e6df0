-- The number of choices: it is the length of their list, it follows the fields, and a table holds
-- it.
use Rattle.facet_solver.specs.build.Build.{Build, repr_for, Catalogue, kind_of}
use Rattle.std.proofs.Common.{◌≡◌, ℕ, zero, suc, ◌+◌, ◌*◌, List, [], ◌∷◌, ◌++◌, map, Option, Some, None, Bool, true, false, sym, refl, ap, ◌∙◌, slice_get, length, length-append, ◌⊎◌, inl, inr, ◌<◌, ◌≤◌, subst, arith, get_or, take, add-one}
use Rattle.std.specs.Prelude.{Vec, sum_by, IsSome, if◌then◌else◌, ◌^◌, nat_lt}
use Rattle.std.proofs.Common.{ltb-true}
use Rattle.std.proofs.lemmas.Option.{same_Some}
use Rattle.std.proofs.lemmas.List.Sums.{sum_by-cons}
use Rattle.std.proofs.Math.Nat.{zero-mul, suc-mul, add_comm, mul_assoc}
use Rattle.facet_solver_shape.specs.declared.shape.Shape.{Shape}
use Rattle.facet_solver_shape.specs.declared.shape.ShapeKind.{ShapeKind}
use Rattle.facet_solver_shape.specs.declared.shape.ShapeKind.TheVariants.{Struct, Enum}
use Rattle.facet_solver_shape.specs.declared.shape.Field.{Field}
use Rattle.facet_solver_shape.specs.declared.shape.Variant.{Variant}
use Rattle.facet_solver_shape.specs.Representation.{is_walked, Repr}
use Rattle.facet_solver_shape.specs.Roles.{Role, regular, block, alternatives, catch_all, leaf, role_of, target_of, role_of_target, role_by_kind, may_be_absent}
use Rattle.facet_solver.specs.build.Content.{content_of, content_or, struct_fields, newtype_fields, IsNewtypeOf}
use Rattle.facet_solver.specs.build.Listing.{Choices, product, indexed, choices_of_variant, choices_of_present, choices_of_optional, choices_of_role, choices_of_fields_step, choices_within, choices_of_fields, choices_of_root, choices_of_root_shape, choices_of_root_kind}
use Rattle.facet_solver.specs.build.Count.{Count, count_variant, count_present, count_optional, count_role, count_fields_step, count_within, count_fields, count_of_root, count_of_shape, count_kind, below_2_64, IsCountOf, count_shape, count_field, count_content}
use Rattle.facet_solver_shape.specs.Catalogues.{FieldsBelow, VariantsBelow, NamesEarlier}
use Rattle.facet_solver.proofs.Roles.{RoleBelow, role_of-below, content_of-below, IsLocal, one_step, target_in, target_in_role, target_in_role-le, FieldsBelow-mono}
use Rattle.facet_solver.proofs.Outcome.{get_push}
use Rattle.facet_solver.specs.declared.build.format.Format.{Format}
use Rattle.std.proofs.lemmas.List.{length_push, take_all}
use Rattle.facet_solver.specs.declared.build.count.saturating.SaturatingCount.{SaturatingCount}
use Rattle.facet_solver.specs.build.Counts.{CountsTo, count_at, AreFirstCounts}
use Rattle.std.specs.Option.{option_map_or}
use Rattle.std.specs.declared.alloc.Global.{Global}
use Rattle.std.proofs.lemmas.Option.{slice_get-get_or}
use Rattle.facet_solver.specs.declared.build.count.saturating.SaturatingCount.TheVariants.{Exact}
use Rattle.facet_solver_shape.specs.declared.role.Target.{Target}

-- ---- the number of choices is the length of their list
pub length-map' : {X Y : Type 0} (f : X → Y) (xs : List X) → length (map f xs) ≡ length xs
length-map' f [] = refl
length-map' f (x ∷ xs) = ap suc (length-map' f xs)

pub length-product : (cs ds : Choices) → length (product cs ds) ≡ length cs * length ds
unfolding product
length-product [] ds = sym (zero-mul (length ds))
length-product (c ∷ cs) ds =
    length-append (map (λ d. c ++ d) ds) (product cs ds)
    ∙ ap (λ (n : ℕ). n + length (product cs ds)) (length-map' (λ d. c ++ d) ds)
    ∙ ap (λ (n : ℕ). length ds + n) (length-product cs ds)
    ∙ sym (suc-mul (length cs) (length ds) ∙ add_comm (length cs * length ds) (length ds))

length-indexed : (k : ℕ) (choices : Variant → Choices) (count : Variant → ℕ) → ((v : Variant) → length (choices v) ≡ count v) → (vs : List Variant) → length (indexed k choices vs) ≡ sum_by count vs
unfolding indexed
length-indexed k choices count h [] = refl
length-indexed k choices count h (v ∷ vs) =
    length-append (map (λ c. k ∷ c) (choices v)) (indexed (suc k) choices vs)
    ∙ ap (λ (n : ℕ). n + length (indexed (suc k) choices vs)) (length-map' (λ c. k ∷ c) (choices v) ∙ h v)
    ∙ ap (λ (n : ℕ). count v + n) (length-indexed (suc k) choices count h vs)
    ∙ sym (sum_by-cons count v vs)

optional_count : (b : Bool) (cs : Choices) (n : ℕ) → length cs ≡ n → length (choices_of_optional b cs) ≡ count_optional b n
optional_count false cs n h = h
optional_count true cs n h = ap suc (length-map' (λ c. 1 ∷ c) cs ∙ h)

-- a count is the length of each list of choices
abbrev pub AllCount : (List Field → Choices) → Count → Type 0
AllCount choices count = (fs : List Field) → length (choices fs) ≡ count fs

module _ (build : Build) where
  variant_count : (walked : Bool) (choices : List Field → Choices) (count : Count) (v : Variant) → AllCount choices count → length (choices_of_variant choices build.catalogue walked v) ≡ count_variant count build.catalogue walked v
  variant_count true choices count v h = h _
  variant_count false choices count v h = refl

  pub present_count : (choices : List Field → Choices) (count : Count) (r : Role) → AllCount choices count → length (choices_of_present choices build r) ≡ count_present count build r
  present_count choices count regular h = refl
  present_count choices count (block target fs) h = h fs
  present_count choices count (alternatives target s vs) h = length-indexed 0 _ _ (λ v. variant_count (is_walked (repr_for build s)) choices count v h) vs
  present_count choices count (catch_all target) h = refl
  present_count choices count (leaf target) h = refl

  pub role_count : (choices : List Field → Choices) (count : Count) (r : Role) → AllCount choices count → length (choices_of_role choices build r) ≡ count_role count build r
  role_count choices count r h = optional_count (may_be_absent r) (choices_of_present choices build r) (count_present count build r) (present_count choices count r h)

  fields_count : (choices : List Field → Choices) (count : Count) → AllCount choices count → AllCount (choices_of_fields_step choices build) (count_fields_step count build)
  unfolding choices_of_fields_step count_fields_step
  fields_count choices count h [] = refl
  fields_count choices count h (f ∷ fs) =
      length-product (choices_of_role choices build (role_of build.catalogue f)) (choices_of_fields_step choices build fs)
      ∙ ap (λ (n : ℕ). n * length (choices_of_fields_step choices build fs)) (role_count choices count (role_of build.catalogue f) h)
      ∙ ap (λ (n : ℕ). count_role count build (role_of build.catalogue f) * n) (fields_count choices count h fs)

  within_count : (n : ℕ) → AllCount (choices_within n build) (count_within n build)
  unfolding choices_within count_within
  within_count zero fs = refl
  within_count (suc n) fs = fields_count (choices_within n build) (count_within n build) (within_count n) fs

  pub below_count : AllCount (λ fs. choices_of_fields build fs) (λ fs. count_fields build fs)
  unfolding choices_of_fields count_fields
  below_count fs = within_count (suc (length build.catalogue)) fs

  kind_count : (k : ShapeKind) → length (choices_of_root_kind build k) ≡ count_kind build true k
  kind_count (Struct kind fs) = below_count fs.items
  kind_count (Enum vs) = length-indexed 0 _ _ (λ v. below_count (content_of build.catalogue v).fields) vs.items
  kind_count _ = refl

  shape_count : (s : Option Shape) → length (choices_of_root_shape build s) ≡ count_of_shape build s
  shape_count None = refl
  shape_count (Some s) = kind_count s.kind

  pub root_count : (root : ℕ) → length (choices_of_root build root) ≡ count_of_root build root
  unfolding choices_of_root count_of_root
  root_count root = shape_count (slice_get build.catalogue root)

-- ---- on a checked catalogue the count of fields is the product over the fields
module _ (build : Build) (checked : NamesEarlier build.catalogue) where
  pub sum_by-same : (limit : ℕ) (g h : Variant → ℕ) (vs : List Variant) → VariantsBelow limit vs → ((v : Variant) → FieldsBelow limit v.fields.items → g v ≡ h v) → sum_by g vs ≡ sum_by h vs
  sum_by-same limit g h [] b x = refl
  sum_by-same limit g h (v ∷ vs) b x =
      sum_by-cons g v vs
      ∙ ap (λ (n : ℕ). n + sum_by g vs) (x v b.0)
      ∙ ap (λ (n : ℕ). h v + n) (sum_by-same limit g h vs b.1 x)
      ∙ sym (sum_by-cons h v vs)

  count_variant-same : (walked : Bool) (g h : Count) (limit : ℕ) (v : Variant) → FieldsBelow limit v.fields.items → ((gs : List Field) → FieldsBelow limit gs → g gs ≡ h gs) → count_variant g build.catalogue walked v ≡ count_variant h build.catalogue walked v
  count_variant-same true g h limit v b x = x (content_of build.catalogue v).fields (content_of-below build.catalogue checked limit v b)
  count_variant-same false g h limit v b x = refl

  count_present-same : (g h : Count) (limit : ℕ) (r : Role) → RoleBelow limit r → ((gs : List Field) → FieldsBelow limit gs → g gs ≡ h gs) → count_present g build r ≡ count_present h build r
  count_present-same g h limit regular b x = refl
  count_present-same g h limit (block target fs) b x = x fs b
  count_present-same g h limit (alternatives target s vs) b x = sum_by-same limit _ _ vs b (λ v below. count_variant-same (is_walked (repr_for build s)) g h limit v below x)
  count_present-same g h limit (catch_all target) b x = refl
  count_present-same g h limit (leaf target) b x = refl

  pub count_role-same : (g h : Count) (limit : ℕ) (r : Role) → RoleBelow limit r → ((gs : List Field) → FieldsBelow limit gs → g gs ≡ h gs) → count_role g build r ≡ count_role h build r
  count_role-same g h limit r b x = ap (count_optional (may_be_absent r)) (count_present-same g h limit r b x)

  pub count-local : IsLocal (λ below fs. count_fields_step below build fs)
  unfolding count_fields_step
  count-local g h limit [] b x = refl
  count-local g h limit (f ∷ fs) b x =
      ap (λ (n : ℕ). n * count_fields_step g build fs) (count_role-same g h f.shape (role_of build.catalogue f) (role_of-below build.catalogue checked f) (λ gs below. x f.shape gs b.0 below))
      ∙ ap (λ (n : ℕ). count_role h build (role_of build.catalogue f) * n) (count-local g h limit fs b.1 x)

  pub count-step : (n : ℕ) (fs : List Field) → count_within (suc n) build fs ≡ count_fields_step (count_within n build) build fs
  unfolding count_within
  count-step n fs = refl

  -- the count of fields, by those of what is flattened into them
  pub count_fields-step : (fs : List Field) → FieldsBelow (length build.catalogue) fs → count_fields build fs ≡ count_fields_step (count_fields build) build fs
  unfolding count_fields
  count_fields-step fs b = one_step (λ below gs. count_fields_step below build gs) (λ n gs. count_within n build gs) count-step count-local (length build.catalogue) fs b

-- ---- the kind of document changes no count
module _ (representation : Option Repr) (cat : Catalogue) (first second : Format) where
  abbrev by_first : Build
  by_first = record { catalogue = cat; representation = representation; format = first }

  abbrev by_second : Build
  by_second = record { catalogue = cat; representation = representation; format = second }

  same_role : (below : Count) (r : Role) → count_role below by_first r ≡ count_role below by_second r
  same_role below regular = refl
  same_role below (block target fs) = refl
  same_role below (alternatives target s vs) = refl
  same_role below (catch_all target) = refl
  same_role below (leaf target) = refl

  same_fields : (below : Count) (fs : List Field) → count_fields_step below by_first fs ≡ count_fields_step below by_second fs
  unfolding count_fields_step
  same_fields below [] = refl
  same_fields below (f ∷ fs) =
      ap (λ (n : ℕ). n * count_fields_step below by_first fs) (same_role below (role_of cat f))
      ∙ ap (λ (n : ℕ). count_role below by_second (role_of cat f) * n) (same_fields below fs)

  same_within : (n : ℕ) (fs : List Field) → count_within n by_first fs ≡ count_within n by_second fs
  unfolding count_within
  same_within zero fs = refl
  same_within (suc n) fs =
      ap (λ (below : Count). count_fields_step below by_first fs) (λ i gs. same_within n gs i)
      ∙ same_fields (count_within n by_second) fs

  same_below : count_fields by_first ≡ count_fields by_second
  unfolding count_fields
  same_below = λ i fs. same_within (suc (length cat)) fs i

  same_kind : (k : ShapeKind) → count_kind by_first true k ≡ count_kind by_second true k
  same_kind (Struct kind fs) = ap (λ (below : Count). below fs.items) same_below
  same_kind (Enum vs) = ap (λ (below : Count). sum_by (count_variant below cat true) vs.items) same_below
  same_kind _ = refl

  same_shape : (s : Option Shape) → count_of_shape by_first s ≡ count_of_shape by_second s
  same_shape None = refl
  same_shape (Some s) = same_kind s.kind

  -- a root has one count in documents of each kind
  pub same_root : (root : ℕ) → count_of_root by_first root ≡ count_of_root by_second root
  unfolding count_of_root
  same_root root = same_shape (slice_get cat root)

-- what is answered by one kind of document is answered for each
pub for_each_format : (representation : Option Repr) (cat : Catalogue) (root : ℕ) (known : Format) (answer : Option ℕ) → answer ≡ below_2_64 (count_of_root record { catalogue = cat; representation = representation; format = known } root) → IsCountOf cat root representation answer
for_each_format representation cat root known answer e = λ format. e ∙ ap below_2_64 (same_root representation cat known format root)

-- a number that is known to be below 2^64
pub exactly : (n k : ℕ) → Some k ≡ below_2_64 n → (n ≡ k) × (n < 2 ^ 64)
exactly n k e = go (nat_lt n (2 ^ 64)) refl e
  where
    go : (b : Bool) → nat_lt n (2 ^ 64) ≡ b → Some k ≡ (if b then Some n else None) → (n ≡ k) × (n < 2 ^ 64)
    go true is e = (sym (same_Some k n e), ltb-true n (2 ^ 64) is)
    go false is e = absurd (cc)

-- ---- a table of counts grows index by index to that of the whole catalogue
-- past the end there is no entry
pub none_past : (cat : List Shape) (i : ℕ) → slice_get cat i ≡ None → length cat ≤ i
none_past [] i e = omega arith
none_past (s ∷ cat) zero e = absurd (cc)
none_past (s ∷ cat) (suc i) e = let h = none_past cat i e in omega arith

module _ (build : Build) where
  at_index : (s : Shape) (id : ℕ) → slice_get build.catalogue id ≡ Some s → count_at build id ≡ count_shape build s
  unfolding count_at
  at_index s id e = ap (λ (o : Option Shape). option_map_or (count_shape build) o 1) e

  -- the next index
  pub one_more_entry : (ts : List SaturatingCount) (t : SaturatingCount) (s : Shape) → AreFirstCounts build ts → length ts < length build.catalogue → slice_get build.catalogue (length ts) ≡ Some s → CountsTo t (count_shape build s) → AreFirstCounts build (ts ++ t ∷ [])
  one_more_entry ts t s counted lt here tells =
      record {
        within = simp (length_push ts t) (omega arith);
        each = λ id u e. entry id u (get_push ts t u id e);
      }
    where
      entry : (id : ℕ) (u : SaturatingCount) → (slice_get ts id ≡ Some u) ⊎ ((id ≡ length ts) × (t ≡ u)) → CountsTo u (count_at build id)
      entry id u (inl before) = counted.each id u before
      entry id u (inr last) =
          subst (λ (v : SaturatingCount). CountsTo v (count_at build id)) last.1
          (subst (CountsTo t) (sym (ap (λ (i : ℕ). count_at build i) last.0 ∙ at_index s (length ts) here)) tells)

-- ---- what a table of counts says of fields, of a newtype and of the first of several parts
module _ (build : Build) where
  -- an entry is the count at its index
  pub entry_counted : (counts : List SaturatingCount) (id : ℕ) (d : SaturatingCount) → AreFirstCounts build counts → id < length counts → CountsTo (get_or counts id d) (count_at build id)
  entry_counted counts id d counted h = counted.each id (get_or counts id d) (slice_get-get_or counts id d h)

  role-count : (target : Target) (s : Shape) (k : ShapeKind) → count_present (count_fields build) build (role_by_kind target s k) ≡ count_kind build (is_walked (repr_for build s)) k
  role-count target s (Struct kind fs) = refl
  role-count target s (Enum vs) = refl
  role-count target s _ = refl

  target-count : (target : Target) (o : Option Shape) → count_present (count_fields build) build (role_of_target target o) ≡ option_map_or (count_shape build) o 1
  target-count target None = refl
  target-count target (Some s) = role-count target s s.kind

  flag-count : (b : Bool) (f : Field) → b ≡ true → count_at build (target_of build.catalogue f).shape
      ≡ count_present (count_fields build) build (if b then role_of_target (target_of build.catalogue f) (slice_get build.catalogue (target_of build.catalogue f).shape) else regular)
  unfolding count_at
  flag-count true f e = sym (target-count (target_of build.catalogue f) (slice_get build.catalogue (target_of build.catalogue f).shape))
  flag-count false f e = absurd (cc)

  -- the entry at the target of a field's role is the count of the field where it is present
  pub present_counted : (counts : List SaturatingCount) (f : Field) (target : Target) (d : SaturatingCount) → NamesEarlier build.catalogue → AreFirstCounts build counts → f.shape < length counts
      → Some target ≡ target_in (role_of build.catalogue f) → CountsTo (get_or counts target.shape d) (count_present (count_fields build) build (role_of build.catalogue f))
  present_counted counts f target d checked counted h e =
      let t = target_in_role build.catalogue f target e in
      let le = target_in_role-le build.catalogue checked f target e in
      subst (CountsTo (get_or counts target.shape d))
      (ap (λ (t : Target). count_at build t.shape) t.0 ∙ flag-count f.flattened f t.1)
      (entry_counted counts target.shape d counted (omega (arith, le, h)))

  kind-count : (v : Variant) (walked : Bool) (k : ShapeKind) → IsSome (struct_fields k) → newtype_fields build.catalogue v.fields.items ≡ struct_fields k → count_kind build walked k ≡ count_content build v
  kind-count v walked (Struct kind fs) h e = ap (λ (o : Option (List Field)). count_fields build (content_or v o).fields) (sym e)
  kind-count v walked _ h e = absurd (cc)

  shape-count : (v : Variant) (o : Option Shape) → IsSome (struct_fields (kind_of o)) → newtype_fields build.catalogue v.fields.items ≡ struct_fields (kind_of o) → option_map_or (count_shape build) o 1 ≡ count_content build v
  shape-count v None h e = absurd (cc)
  shape-count v (Some s) h e = kind-count v (is_walked (repr_for build s)) s.kind h e

  newtype-count : (v : Variant) (id : ℕ) → IsNewtypeOf build.catalogue v.fields.items id → count_at build id ≡ count_content build v
  unfolding count_at
  newtype-count v id n = shape-count v (slice_get build.catalogue id) n.is_struct n.same_fields

  -- the entry of a newtype's struct is the content's count
  pub newtype_counted : (counts : List SaturatingCount) (v : Variant) (id : ℕ) (d : SaturatingCount) → AreFirstCounts build counts → FieldsBelow (length counts) v.fields.items → IsNewtypeOf build.catalogue v.fields.items id → CountsTo (get_or counts id d) (count_content build v)
  newtype_counted counts v id d counted h n = subst (CountsTo (get_or counts id d)) (newtype-count v id n) (entry_counted counts id d counted (n.earlier (length counts) h))

  count_fields_step-suc : (below : Count) (fs : List Field) (i : ℕ) (d : Field) → i < length fs → count_fields_step below build (take (suc i) fs) ≡ count_fields_step below build (take i fs) * count_role below build (role_of build.catalogue (get_or fs i d))
  unfolding count_fields_step
  count_fields_step-suc below [] i d h = absurd (omega arith)
  count_fields_step-suc below (f ∷ fs) zero d h = omega arith
  count_fields_step-suc below (f ∷ fs) (suc i) d h =
      ap (λ (n : ℕ). count_role below build (role_of build.catalogue f) * n) (count_fields_step-suc below fs i d (omega arith))
      ∙ sym (mul_assoc (count_role below build (role_of build.catalogue f)) (count_fields_step below build (take i fs)) (count_role below build (role_of build.catalogue (get_or fs i d))))

  -- a variant counted its content where that is walked
  pub walked_counted : (walked : Bool) (v : Variant) (t : SaturatingCount) → walked ≡ true → CountsTo t (count_content build v) → CountsTo t (count_variant (count_fields build) build.catalogue walked v)
  walked_counted true v t e h = h
  walked_counted false v t e h = absurd (cc)

  -- and else one
  pub unwalked_counted : (walked : Bool) (v : Variant) → walked ≡ false → CountsTo (Exact 1) (count_variant (count_fields build) build.catalogue walked v)
  unwalked_counted true v e = absurd (cc)
  unwalked_counted false v e = refl

  -- one more factor
  pub count_fields_step-more : (below : Count) (fs : List Field) (i : ℕ) (d : Field) → i < length fs → count_fields_step below build (take (i + 1) fs) ≡ count_fields_step below build (take i fs) * count_role below build (role_of build.catalogue (get_or fs i d))
  count_fields_step-more below fs i d h = rw add-one (count_fields_step-suc below fs i d h)

  -- the product over all fields
  pub count_fields_step-all : (counts : List SaturatingCount) (fs : List Field) (n : ℕ) → NamesEarlier build.catalogue → AreFirstCounts build counts → FieldsBelow (length counts) fs → length fs ≤ n → count_fields_step (count_fields build) build (take n fs) ≡ count_fields build fs
  count_fields_step-all counts fs n checked counted h all =
      ap (λ (gs : List Field). count_fields_step (count_fields build) build gs) (take_all n fs all)
      ∙ sym (count_fields-step build checked fs (FieldsBelow-mono (length counts) (length build.catalogue) fs counted.within h))

-- ---- the count of a root
module _ (build : Build) (root : ℕ) where
  by_shape : (o : Option Shape) → slice_get build.catalogue root ≡ o → count_of_root build root ≡ count_of_shape build o
  unfolding count_of_root
  by_shape o e = ap (count_of_shape build) e

  -- which is that of its shape, an enum's contents walked
  pub root-count : (s : Shape) → slice_get build.catalogue root ≡ Some s → count_of_root build root ≡ count_kind build true s.kind
  root-count s here = by_shape (Some s) here

-- the choices of a root that is no enum are those at its index
pub root_counted : (build : Build) (s : Shape) (root : ℕ) → slice_get build.catalogue root ≡ Some s → ((vs : Vec Variant Global) → s.kind ≡ Enum vs → ⊥) → count_at build root ≡ count_of_root build root
root_counted build s root here other = at_index build s root here ∙ by_kind s.kind (is_walked (repr_for build s)) other ∙ sym (root-count build root s here)
  where
    by_kind : (k : ShapeKind) (walked : Bool) → ((vs : Vec Variant Global) → k ≡ Enum vs → ⊥) → count_kind build walked k ≡ count_kind build true k
    by_kind (Enum vs) walked h = absurd (h vs refl)
    by_kind (Struct kind fs) walked h = refl
    by_kind _ walked h = refl

-- ---- the content of a variant with an only field
module _ (build : Build) (checked : NamesEarlier build.catalogue) where
  by_none : (fs : List Field) (v : Variant) (o : Option (List Field)) → v.fields.items ≡ fs → o ≡ None → (content_or v o).fields ≡ fs
  by_none fs v o e none = ap (λ (o : Option (List Field)). (content_or v o).fields) none ∙ e

  -- one that is no newtype is its field
  pub only_field_counted : (v : Variant) (f : Field) (t : SaturatingCount) → v.fields.items ≡ f ∷ [] → newtype_fields build.catalogue (f ∷ []) ≡ None → f.shape < length build.catalogue → CountsTo t (count_field build f) → CountsTo t (count_content build v)
  unfolding count_fields_step
  only_field_counted v f t one none below h =
      let own : (content_of build.catalogue v).fields ≡ f ∷ [] = by_none (f ∷ []) v (newtype_fields build.catalogue v.fields.items) one (ap (newtype_fields build.catalogue) one ∙ none) in
      let single : count_fields build (f ∷ []) ≡ count_field build f * 1 = count_fields-step build checked (f ∷ []) (below, tt) in
      subst (CountsTo t) (sym (ap (count_fields build) own ∙ single ∙ omega arith)) h
