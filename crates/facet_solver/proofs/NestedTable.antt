-- Tables of nested key paths: what is under a shape, from what is under those that its fields name.
use Rattle.std.proofs.Common.{◌≡◌, ◌⊎◌, inl, inr, map, take, ◌<◌, ◌≤◌, ◌+◌, ℕ, zero, suc, List, [], ◌∷◌, ◌++◌, Option, Some, None, Bool, true, false, sym, refl, ap, ◌∙◌, subst, slice_get, length, get_or, drop, arith, Bor}
use Rattle.std.specs.List.{AllByRecursion}
use Rattle.std.specs.Prelude.{All, IfOk, IfSome, OnOk, ⊤, Vec, ◌↔◌, if◌then◌else◌, ◌&&◌, ◌||◌, IsSome, is_some, nat_lt, string_bytes, sum_by, unwrap_or}
use Rattle.std.specs.Bool.{then_some}
use Rattle.std.specs.declared.alloc.Global.{Global}
use Rattle.std.specs.declared.result.Result.{Result}
use Rattle.std.specs.declared.result.Result.TheVariants.{Ok, Err}
use Rattle.std.specs.FinSet as set
use Rattle.std.proofs.Math.ListN.{drop_of_length-le}
use Rattle.std.proofs.lemmas.Bool.{cases_lt, lt-ltb, or_cases}
use Rattle.std.proofs.lemmas.List.{drop_more, length_push}
use Rattle.std.proofs.lemmas.List.Sums.{sum_by-cons, sum_by-take-le, sum_by_more}
use Rattle.std.proofs.lemmas.Option.{slice_get-get_or, slice_get_past, slice_get_within}
use Rattle.facet_solver_shape.specs.Names.{Name, effective_name}
use Rattle.facet_solver_shape.specs.declared.shape.Field.{Field}
use Rattle.facet_solver_shape.specs.declared.shape.Shape.{Shape}
use Rattle.facet_solver_shape.specs.declared.shape.ShapeKind.{ShapeKind}
use Rattle.facet_solver_shape.specs.declared.shape.ShapeKind.TheVariants.{Struct, Enum}
use Rattle.facet_solver_shape.specs.declared.shape.StructKind.{StructKind}
use Rattle.facet_solver_shape.specs.declared.shape.Variant.{Variant}
use Rattle.facet_solver_shape.specs.Catalogues.{FieldsBelow, KindBelow, NamesEarlier}
use Rattle.facet_solver.specs.build.Build.{Catalogue, kind_at}
use Rattle.facet_solver.specs.build.Content.{is_zero}
use Rattle.facet_solver.specs.build.Nested.{KeyPaths, Entered, Under, no_paths, paths_of_each, named, through_field, through_fields_step, under_fields_step, under_kind, under_variant, has_fields, if_entered, under_shape, entered_view}
use Rattle.facet_solver.specs.build.FieldCount.{field_count, fields_of_kind}
use Rattle.facet_solver.specs.build.NestedTable.{AllLeadTo, AreFieldsOf, AreFieldsOfEach, AreFirstEntries, AskedBy, FieldAsks, HasMore, IsClosed, IsFilled, IsMade, IsMarked, IsSound, KindAsks, LeadTo, StandForVariants, StandsForKind, is_filled, is_marked, part_of, paths_by_name, under_at, under_kind_of, under_of, variants_at, variants_of}
use Rattle.facet_solver.specs.build.NestedNames.{Names, NamesLead, paths_of_names, shapes_behind}
use Rattle.facet_solver.specs.declared.build.nested.by_name.FieldsByName.{FieldsByName}
use Rattle.facet_solver.specs.declared.build.nested.table.Earlier.{Earlier}
use Rattle.facet_solver.specs.declared.build.nested.table.Entry.{Entry}
use Rattle.facet_solver.specs.declared.build.nested.table.Wanted.{Wanted}
use Rattle.facet_solver.specs.declared.build.nested.shapes_behind.ShapesBehind.{ShapesBehind}
use Rattle.facet_solver.proofs.Nested.{kind_at-below, under_shape-step}
use Rattle.facet_solver.proofs.Outcome.{get_push}
use Rattle.facet_solver.proofs.Roles.{FieldsBelow-at, VariantsBelow-at}
use Rattle.facet_solver.proofs.NestedFields.{all_lead_also, both_of, each_push, first_of, leads_also, of_each-push, second_of}
use Rattle.facet_solver.proofs.NestedSets.{none-union, or-right, union-none, union_assoc}

-- an entry stands for what is under the shape at its index
pub entry_stands : (earlier : Earlier) (id : ℕ) (fields : FieldsByName) → IsSound earlier → under_at earlier.entries.now id ≡ Some fields → AreFieldsOf earlier (under_of earlier id) fields
entry_stands earlier id fields sound e = record {
  stand = sound.entries.under id fields e ∙ sym (under_shape-step (entered_view earlier.entered) earlier.shapes.now sound.checked id);
  lead = leads_also _ _ (λ t h. second_of (nat_lt t id) (is_filled earlier.entries.now t) h) fields (sound.leads.under id fields e);
}

-- ---- through one field
if_true : {X : Type 0} (b : Bool) (x y : X) → b ≡ true → (if b then x else y) ≡ x
if_true true x y e = refl
if_true false x y e = absurd (cc)

if_false : {X : Type 0} (b : Bool) (x y : X) → b ≡ false → (if b then x else y) ≡ y
if_false true x y e = absurd (cc)
if_false false x y e = refl

module _ (entered : Entered) (cat : Catalogue) where
  pub when_entered : (id : ℕ) → entered (kind_at cat id) ≡ true → if_entered entered cat id ≡ under_shape entered cat id
  when_entered id e = if_true (entered (kind_at cat id)) (under_shape entered cat id) no_paths e

  -- nothing is under a kind of shape without fields
  under_none : (through : List Field → KeyPaths) (under : Variant → KeyPaths) (k : ShapeKind) → has_fields k ≡ false → under_kind through under k ≡ no_paths
  under_none through under (Struct kind fields) e = absurd (cc)
  under_none through under (Enum variants) e = absurd (cc)
  under_none through under _ e = refl

  pub unless_leads_on : (id : ℕ) → NamesEarlier cat → (entered (kind_at cat id) && has_fields (kind_at cat id)) ≡ false → if_entered entered cat id ≡ no_paths
  unless_leads_on id checked e = go (entered (kind_at cat id)) refl e
    where
      go : (b : Bool) → entered (kind_at cat id) ≡ b → (b && has_fields (kind_at cat id)) ≡ false → if_entered entered cat id ≡ no_paths
      go true is e = when_entered id is ∙ under_shape-step entered cat checked id ∙ under_none _ _ (kind_at cat id) e
      go false is e = if_false (entered (kind_at cat id)) (under_shape entered cat id) no_paths is

  pub through_flattened : (f : Field) → f.flattened ≡ true → through_field entered cat f ≡ under_shape entered cat f.shape
  through_flattened f e = if_true f.flattened (under_shape entered cat f.shape) (named (effective_name f) (if_entered entered cat f.shape)) e

  pub through_regular : (f : Field) → f.flattened ≡ false → through_field entered cat f ≡ named (effective_name f) (if_entered entered cat f.shape)
  through_regular f e = if_false f.flattened (under_shape entered cat f.shape) (named (effective_name f) (if_entered entered cat f.shape)) e

or_left : (a b : Bool) → a ≡ true → (a || b) ≡ true
or_left true b e = refl
or_left false b e = absurd (cc)

-- a field asks for what is under its shape, if that has fields, where it is flattened or entered
module _ (Holds : ℕ → Type 0) (entered : Entered) (cat : Catalogue) (f : Field) (asked : FieldAsks Holds entered cat f) where
  pub asked_where_flattened : f.flattened ≡ true → has_fields (kind_at cat f.shape) ≡ true → Holds f.shape
  asked_where_flattened is has = asked (both_of _ _ (or_left f.flattened (entered (kind_at cat f.shape)) is) has)

  pub asked_where_entered : entered (kind_at cat f.shape) ≡ true → has_fields (kind_at cat f.shape) ≡ true → Holds f.shape
  asked_where_entered is has = asked (both_of _ _ (or-right f.flattened (entered (kind_at cat f.shape)) is) has)

-- nothing is under a kind of shape without fields
pub nothing_under : (entered : Entered) (cat : Catalogue) (id : ℕ) → NamesEarlier cat → has_fields (kind_at cat id) ≡ false → under_shape entered cat id ≡ no_paths
nothing_under entered cat id checked e = under_shape-step entered cat checked id ∙ under_none entered cat _ _ (kind_at cat id) e

-- ---- fields that stand for more
module _ (earlier : Earlier) (paths : KeyPaths) where
  abbrev U : Under
  U = under_of earlier

  -- all of no names and more, as fields
  pub all_fields : (old new : Names) (fields : FieldsByName) → old ≡ [] → HasMore earlier paths old new → ((under : Under) → paths_by_name under fields ≡ paths_of_names under new)
      → ((passes : ℕ → Bool) → NamesLead passes new → LeadTo passes fields) → AreFieldsOf earlier paths fields
  all_fields old new fields none more stand lead = record {
    stand = stand U ∙ more.stand ∙ ap (λ (names : Names). set.union (paths_of_names U names) paths) none ∙ none-union paths;
    lead = lead (is_filled earlier.entries.now) (more.lead (subst (NamesLead (is_filled earlier.entries.now)) (sym none) tt));
  }

  pub same_fields : (others : KeyPaths) (fields : FieldsByName) → paths ≡ others → AreFieldsOf earlier paths fields → AreFieldsOf earlier others fields
  same_fields others fields e h = subst (λ (ps : KeyPaths). AreFieldsOf earlier ps fields) e h

-- copies of fields that were added and stand for these key paths
pub more_if_ok : {E : Type 0} (earlier : Earlier) (paths : KeyPaths) (others : FieldsByName) (old new : Names) (r : Result ⊤ E) → AreFieldsOf earlier paths others
    → OnOk r ((under : Under) → paths_of_names under new ≡ set.union (paths_of_names under old) (paths_by_name under others))
    → OnOk r ((passes : ℕ → Bool) → NamesLead passes old → LeadTo passes others → NamesLead passes new) → OnOk r (HasMore earlier paths old new)
more_if_ok earlier paths others old new (Ok x) are stand lead = record {
  stand = stand (under_of earlier) ∙ ap (λ (ps : KeyPaths). set.union (paths_of_names (under_of earlier) old) ps) are.stand;
  lead = λ h. lead (is_filled earlier.entries.now) h are.lead;
}
more_if_ok earlier paths others old new (Err e) are stand lead = tt

-- a name that was added with the shapes behind it
pub one_name_more : (earlier : Earlier) (name : Bor Name) (shapes : ShapesBehind) (old new : Names) → new ≡ old ++ (name, shapes) ∷ []
    → AllByRecursion (λ id. is_filled earlier.entries.now id ≡ true) (shapes_behind shapes) → HasMore earlier (named name.now (paths_of_each (under_of earlier) (shapes_behind shapes))) old new
one_name_more earlier name shapes old new is filled = record {
  stand = ap (paths_of_names (under_of earlier)) is ∙ of_each-push _ old (name, shapes);
  lead = λ h. subst (NamesLead (is_filled earlier.entries.now)) (sym is) (each_push _ old (name, shapes) h filled);
}

-- ---- through fields, one after another
item_is : {X : Type 0} (xs : List X) (i : ℕ) (x : X) → slice_get xs i ≡ Some x → get_or xs i x ≡ x
item_is xs i x e = let same : Some (get_or xs i x) ≡ Some x = sym (slice_get-get_or xs i x (slice_get_within xs i x e)) ∙ e in cc

-- what all items have, the one at an index has
pub all_at : {X : Type 0} (P : X → Type 0) (xs : List X) (i : ℕ) (x : X) → All P xs → slice_get xs i ≡ Some x → P x
all_at P xs i x h e = subst P (item_is xs i x e) (h i x (slice_get_within xs i x e))

module _ {X : Type 0} (paths : X → KeyPaths) (xs : List X) (i : ℕ) where
  pub one_more : (old : KeyPaths) (x : X) → slice_get xs i ≡ Some x → set.union (set.union old (paths x)) (paths_of_each paths (drop (i + 1) xs)) ≡ set.union old (paths_of_each paths (drop i xs))
  one_more old x e =
      sym (union_assoc old (paths x) (paths_of_each paths (drop (i + 1) xs)))
      ∙ ap (λ (ys : List X). set.union old (paths_of_each paths ys)) (sym (drop_more xs i x (slice_get_within xs i x e) ∙ ap (λ (y : X). y ∷ drop (i + 1) xs) (item_is xs i x e)))

  pub no_more : (old : KeyPaths) → length xs ≤ i → set.union old (paths_of_each paths (drop i xs)) ≡ old
  no_more old h = ap (λ (ys : List X). set.union old (paths_of_each paths ys)) (drop_of_length-le xs h) ∙ union-none old

pub map-push : {X Y : Type 0} (f : X → Y) (xs : List X) (x : X) → map f (xs ++ x ∷ []) ≡ map f xs ++ f x ∷ []
map-push f [] x = refl
map-push f (y ∷ xs) x = ap (λ ys. f y ∷ ys) (map-push f xs x)

-- ---- under a variant
pub one_item : {X : Type 0} (xs : List X) (x : X) → length xs ≡ 1 → slice_get xs 0 ≡ Some x → xs ≡ x ∷ []
one_item [] x l e = absurd (omega arith)
one_item (y ∷ []) x l e = cc
one_item (y ∷ z ∷ xs) x l e = absurd (omega arith)

pub no_items : {X : Type 0} (xs : List X) → length xs ≡ 0 → xs ≡ []
no_items [] l = refl
no_items (x ∷ xs) l = absurd (omega arith)

pub on_ok : {X E P Q : Type 0} (r : Result X E) → (P → Q) → OnOk r P → OnOk r Q
on_ok (Ok x) f h = f h
on_ok (Err e) f h = tt

module _ (entered : Entered) (cat : Catalogue) (regular flattened : Under) where
  abbrev under_fields : List Field → KeyPaths
  under_fields = under_fields_step entered cat regular flattened

  pub by_only_field : (fs : List Field) (f : Field) → length fs ≡ 1 → slice_get fs 0 ≡ Some f → under_fields (f ∷ []) ≡ under_fields fs
  by_only_field fs f l e = ap under_fields (sym (one_item fs f l e))

  pub by_all_fields : (fs : List Field) → (length fs ≡ 1 → ⊥) → under_fields fs ≡ through_fields_step regular flattened fs
  by_all_fields [] h = refl
  by_all_fields (f ∷ []) h = absurd (h refl)
  by_all_fields (f ∷ g ∷ fs) h = refl

  pub by_shape : (f : Field) → (is_zero (string_bytes f.name) && entered (kind_at cat f.shape)) ≡ true → under_fields (f ∷ []) ≡ regular f.shape
  by_shape f e = if_true (is_zero (string_bytes f.name) && entered (kind_at cat f.shape)) (regular f.shape) (through_fields_step regular flattened (f ∷ [])) e

  pub by_field : (f : Field) → (is_zero (string_bytes f.name) && entered (kind_at cat f.shape)) ≡ false → under_fields (f ∷ []) ≡ through_fields_step regular flattened (f ∷ [])
  by_field f e = if_false (is_zero (string_bytes f.name) && entered (kind_at cat f.shape)) (regular f.shape) (through_fields_step regular flattened (f ∷ [])) e

-- ---- the visits of variants, one after another
abbrev fields_of : Variant → ℕ
fields_of v = length v.fields.items

pub visits_more : (vs : List Variant) (i : ℕ) (v : Variant) (start before after : ℕ) → i < length vs → v ≡ get_or vs i v → before ≤ start + sum_by fields_of (take i vs) → after ≤ before + length v.fields.items → after ≤ start + sum_by fields_of (take (i + 1) vs)
visits_more vs i v start before after lt is h k =
    let more : sum_by fields_of (take (i + 1) vs) ≡ sum_by fields_of (take i vs) + length (get_or vs i v).fields.items = sum_by_more fields_of vs i v lt in
    let same : length v.fields.items ≡ length (get_or vs i v).fields.items = ap fields_of is in
    omega (arith, more, same)

pub visits_so_far : (vs : List Variant) (i : ℕ) (v : Variant) (start before after : ℕ) → i < length vs → v ≡ get_or vs i v → before ≡ start + sum_by fields_of (take i vs) → after ≡ before + length v.fields.items → after ≡ start + sum_by fields_of (take (i + 1) vs)
visits_so_far vs i v start before after lt is h k =
    let more : sum_by fields_of (take (i + 1) vs) ≡ sum_by fields_of (take i vs) + length (get_or vs i v).fields.items = sum_by_more fields_of vs i v lt in
    let same : length v.fields.items ≡ length (get_or vs i v).fields.items = ap fields_of is in
    omega (arith, more, same)

pub visits_at_most : (vs : List Variant) (i : ℕ) (v : Variant) (start before after : ℕ) → i < length vs → v ≡ get_or vs i v → before ≤ start + sum_by fields_of (take i vs) → after ≤ before + length v.fields.items → after ≤ start + sum_by fields_of vs
visits_at_most vs i v start before after lt is h k =
    let more = visits_more vs i v start before after lt is h k in
    let le = sum_by-take-le fields_of vs (i + 1) in
    omega (arith, more, le)

-- ---- the visits of shapes, one after another
pub shape_visits_more : (cat : Catalogue) (i : ℕ) (s : Shape) (start before after : ℕ) → slice_get cat i ≡ Some s → before ≤ start + field_count (take i cat) → after ≤ before + fields_of_kind s.kind → after ≤ start + field_count (take (i + 1) cat)
shape_visits_more cat i s start before after e h k =
    let more : field_count (take (i + 1) cat) ≡ field_count (take i cat) + fields_of_kind (get_or cat i s).kind = sum_by_more (λ (s : Shape). fields_of_kind s.kind) cat i s (slice_get_within cat i s e) in
    let same : fields_of_kind (get_or cat i s).kind ≡ fields_of_kind s.kind = ap (λ (s : Shape). fields_of_kind s.kind) (item_is cat i s e) in
    omega (arith, more, same)

pub shape_visits_at_most : (cat : Catalogue) (i : ℕ) (s : Shape) (start before after : ℕ) → slice_get cat i ≡ Some s → before ≤ start + field_count (take i cat) → after ≤ before + fields_of_kind s.kind → after ≤ start + field_count cat
shape_visits_at_most cat i s start before after e h k =
    let more = shape_visits_more cat i s start before after e h k in
    let le = sum_by-take-le (λ (s : Shape). fields_of_kind s.kind) cat (i + 1) in
    omega (arith, more, le)

-- more shapes have no fewer fields
pub fields_mono : (cat : Catalogue) (i m : ℕ) → i ≤ m → field_count (take i cat) ≤ field_count (take m cat)
fields_mono cat zero m h = omega arith
fields_mono [] (suc i) m h = omega arith
fields_mono (s ∷ cat) (suc i) zero h = absurd (omega arith)
fields_mono (s ∷ cat) (suc i) (suc m) h =
    let count : Shape → ℕ = λ s. fields_of_kind s.kind in
    let rest = fields_mono cat i m (omega arith) in
    let fewer = sum_by-cons count s (take i cat) in
    let all = sum_by-cons count s (take m cat) in
    omega (arith, rest, fewer, all)

-- the fields of a shape and of those before it
pub fields_with_earlier : (cat : Catalogue) (i : ℕ) → i < length cat → field_count (take i cat) + fields_of_kind (kind_at cat i) ≤ field_count cat
fields_with_earlier [] i h = absurd (omega arith)
fields_with_earlier (s ∷ cat) zero h = omega (arith, sum_by-cons (λ (s : Shape). fields_of_kind s.kind) s cat)
fields_with_earlier (s ∷ cat) (suc i) h =
    let count : Shape → ℕ = λ s. fields_of_kind s.kind in
    let rest = fields_with_earlier cat i (omega arith) in
    let fewer = sum_by-cons count s (take i cat) in
    let all = sum_by-cons count s cat in
    omega (arith, rest, fewer, all)

-- ---- an entry, by the kind of its shape
pub both_ok : {X E : Type 0} (P Q R : X → Type 0) (r : Result X E) → ((x : X) → P x → Q x → R x) → IfOk r P → IfOk r Q → IfOk r R
both_ok P Q R (Ok x) f p q = f x p q
both_ok P Q R (Err e) f p q = tt

pub if_ok : {X E : Type 0} (P Q : X → Type 0) (r : Result X E) → ((x : X) → P x → Q x) → IfOk r P → IfOk r Q
if_ok P Q (Ok x) f p = f x p
if_ok P Q (Err e) f p = tt

pub all_ok : {X E : Type 0} (P Q R S : X → Type 0) (r : Result X E) → ((x : X) → P x → Q x → R x → S x) → IfOk r P → IfOk r Q → IfOk r R → IfOk r S
all_ok P Q R S (Ok x) f p q r = f x p q r
all_ok P Q R S (Err e) f p q r = tt

-- ---- what is wanted of an entry
module _ {X : Type 0} (b : Bool) (x : X) where
  pub is_some-then_some : (o : Option X) → o ≡ then_some b x → is_some o ≡ b
  is_some-then_some o e = ap is_some e ∙ go b
    where
      go : (b : Bool) → is_some (then_some b x) ≡ b
      go true = refl
      go false = refl

  pub if_wanted : (P : X → Type 0) (o : Option X) → o ≡ then_some b x → (b ≡ true → P x) → IfSome o P
  if_wanted P o e h = subst (λ (o : Option X). IfSome o P) (sym e) (go b h)
    where
      go : (b : Bool) → (b ≡ true → P x) → IfSome (then_some b x) P
      go true h = h refl
      go false h = tt

-- what some have, others have that it follows for
pub if_some_also : {X : Type 0} (P Q : X → Type 0) (o : Option X) → ((x : X) → P x → Q x) → IfSome o P → IfSome o Q
if_some_also P Q None f h = tt
if_some_also P Q (Some x) f h = f x h

pub at_some : {X : Type 0} (P : X → Type 0) (o : Option X) (x : X) → o ≡ Some x → IfSome o P → P x
at_some P None x e h = absurd (cc)
at_some P (Some y) x e h = let same : y ≡ x = cc in subst P same h

-- a kind of shape without fields has no key paths under it, and no variants
pub other_kind : (earlier : Earlier) (k : ShapeKind) → ((kind : StructKind) (fs : Vec Field Global) → k ≡ Struct kind fs → ⊥) → ((vs : Vec Variant Global) → k ≡ Enum vs → ⊥)
    → (under_kind_of earlier k ≡ no_paths) × (variants_of k ≡ [])
other_kind earlier (Struct kind fs) p q = absurd (p kind fs refl)
other_kind earlier (Enum vs) p q = absurd (q vs refl)
other_kind earlier _ p q = (refl, refl)

-- no fields stand for those of no variants
pub no_variants : (earlier : Earlier) (variants : List Variant) (each : Vec FieldsByName Global) → variants ≡ [] → each.items ≡ [] → AreFieldsOfEach earlier variants each
no_variants earlier variants each none is = record {
  stand = ap (map (paths_by_name (under_of earlier))) is ∙ sym (ap (map (under_variant (entered_view earlier.entered) earlier.shapes.now)) none);
  lead = subst (AllByRecursion (LeadTo (is_filled earlier.entries.now))) (sym is) tt;
}

-- the key paths of all items together, item by item
pub of_each-map : {X Y : Type 0} (f : X → KeyPaths) (g : Y → KeyPaths) (xs : List X) (ys : List Y) → map f xs ≡ map g ys → paths_of_each f xs ≡ paths_of_each g ys
of_each-map f g xs ys e = together f xs ∙ ap (paths_of_each (λ (ps : KeyPaths). ps)) e ∙ sym (together g ys)
  where
    together : {Z : Type 0} (h : Z → KeyPaths) (zs : List Z) → paths_of_each h zs ≡ paths_of_each (λ (ps : KeyPaths). ps) (map h zs)
    together h [] = refl
    together h (z ∷ zs) = ap (set.union (h z)) (together h zs)

module _ (entered : Entered) (cat : Catalogue) where
  -- what is asked of one property is asked of another that holds where the first does
  module _ (P Q : ℕ → Type 0) (limit : ℕ) (also : (id : ℕ) → id < limit → P id → Q id) where
    fields_ask : (fs : List Field) → FieldsBelow limit fs → All (FieldAsks P entered cat) fs → All (FieldAsks Q entered cat) fs
    fields_ask fs below h = λ i d lt asked. also (get_or fs i d).shape (FieldsBelow-at limit fs i d lt below) (h i d lt asked)

    kind_asks : (k : ShapeKind) → KindBelow limit k → KindAsks P entered cat k → KindAsks Q entered cat k
    kind_asks (Struct kind fs) below h = fields_ask fs.items below h
    kind_asks (Enum vs) below h = λ i d lt. fields_ask (get_or vs.items i d).fields.items (VariantsBelow-at limit vs.items i d lt below) (h i d lt)
    kind_asks _ below h = tt

-- ---- a table grows index by index
marked_true : (o : Option Bool) → unwrap_or o false ≡ true → o ≡ Some true
marked_true None e = absurd (cc)
marked_true (Some b) e = ap Some e

before_end : {X : Type 0} (ts : List X) (x : X) (k : ℕ) → k < length ts → slice_get (ts ++ x ∷ []) k ≡ slice_get ts k
before_end [] x k h = absurd (omega arith)
before_end (t ∷ ts) x zero h = refl
before_end (t ∷ ts) x (suc k) h = before_end ts x k (omega arith)

at_end : {X : Type 0} (ts : List X) (x : X) → slice_get (ts ++ x ∷ []) (length ts) ≡ Some x
at_end [] x = refl
at_end (t ∷ ts) x = at_end ts x

-- ---- a part of the entries
module _ {X : Type 0} (part : Entry → Option X) where
  has_part : (o : Option Entry) (x : X) → part_of part o ≡ Some x → (entry : Entry) × (o ≡ Some entry) × (part entry ≡ Some x)
  has_part None x e = absurd (cc)
  has_part (Some entry) x e = (entry, refl, e)

  module _ (ts : List Entry) where
    -- what a later table has, an earlier one had, or it is that of the last entry
    part_push : (o : Entry) (id : ℕ) (x : X) → part_of part (slice_get (ts ++ o ∷ []) id) ≡ Some x → (part_of part (slice_get ts id) ≡ Some x) ⊎ ((id ≡ length ts) × (part o ≡ Some x))
    part_push o id x e =
        let has = has_part (slice_get (ts ++ o ∷ []) id) x e in
        elim (get_push ts o has.0 id has.1) [
          | inl before ↦ inl (ap (part_of part) before ∙ has.2)
          | inr last ↦ inr (last.0, ap part last.1 ∙ has.2)
        ]

    -- the marked indices have the part, and no others
    abbrev pub HaveMarked : List Bool → Type 0
    HaveMarked marks = (id : ℕ) → id < length ts → IsMarked marks id ↔ IsSome (part_of part (slice_get ts id))

    module _ (marks : List Bool) (have : HaveMarked marks) where
      one_marked : (o : Entry) → is_some (part o) ≡ is_marked marks (length ts) → (id : ℕ) → id < length (ts ++ o ∷ []) → IsMarked marks id ↔ IsSome (part_of part (slice_get (ts ++ o ∷ []) id))
      one_marked o some id h = elim (cases_lt id (length ts)) [
        | inl lt ↦
            (let e = ap (λ (p : Option Entry). is_some (part_of part p)) (before_end ts o id lt) in
            (λ m. e ∙ (have id lt).0 m, λ f. (have id lt).1 (sym e ∙ f)))
        | inr le ↦
            (let same : id ≡ length ts = (let l = length_push ts o in omega (arith, l, h, le)) in
            let e = ap (λ (i : ℕ). is_some (part_of part (slice_get (ts ++ o ∷ []) i))) same ∙ ap (λ (p : Option Entry). is_some (part_of part p)) (at_end ts o) ∙ some ∙ ap (is_marked marks) (sym same) in
            (λ m. e ∙ ap (λ (b : Option Bool). unwrap_or b false) m, λ f. marked_true (slice_get marks id) (sym e ∙ f)))
      ]

      pub all_marked : length marks ≤ length ts → (id : ℕ) → IsMarked marks id ↔ IsSome (part_of part (slice_get ts id))
      all_marked all id = elim (cases_lt id (length ts)) [
        | inl lt ↦ have id lt
        | inr past ↦ (λ m. absurd (let e = slice_get_past marks id (omega (arith, all, past)) in cc), λ f. absurd (let e = ap (λ (p : Option Entry). is_some (part_of part p)) (slice_get_past ts id past) in cc))
      ]

-- nothing is marked in no marks
pub no_marks : (id : ℕ) → IsMarked [] id → ⊥
no_marks id m = let e : slice_get {X = Bool} [] id ≡ None = slice_get_past [] id (omega arith) in cc

module _ (entered : Entered) (cat : Catalogue) (marks apart : List Bool) where
  module _ (ts : List Entry) (first : AreFirstEntries entered cat marks apart ts) where
    -- what the next shape asks for is there, if anything is wanted of it
    pub asked_next : NamesEarlier cat → IsClosed entered cat marks → AskedBy entered cat apart marks → (is_marked marks (length ts) || is_marked apart (length ts)) ≡ true → KindAsks (IsFilled ts) entered cat (kind_at cat (length ts))
    asked_next checked closed asked wanted =
        kind_asks entered cat (IsMarked marks) (IsFilled ts) (length ts) (λ id lt m. (first.marked id lt).0 m) (kind_at cat (length ts))
        (kind_at-below entered cat checked (length ts))
        (elim (or_cases (is_marked marks (length ts)) (is_marked apart (length ts)) wanted) [
          | inl m ↦ closed (length ts) (marked_true (slice_get marks (length ts)) m)
          | inr m ↦ asked (length ts) (marked_true (slice_get apart (length ts)) m)
        ])

    -- the fields under a shape stay there
    filled_also : (o : Entry) (t : ℕ) → is_filled ts t ≡ true → (t < length ts) × (is_filled (ts ++ o ∷ []) t ≡ true)
    filled_also o t h = elim (cases_lt t (length ts)) [
      | inl lt ↦ (lt, ap (λ (p : Option Entry). is_some (part_of (λ entry. entry.under) p)) (before_end ts o t lt) ∙ h)
      | inr past ↦ absurd (let e = ap (λ (p : Option Entry). is_some (part_of (λ entry. entry.under) p)) (slice_get_past ts t past) in cc)
    ]

    -- the entry that comes next
    pub record IsNext (o : Entry) : Type 0 where
      pub has_under : is_some o.under ≡ is_marked marks (length ts)
      pub has_variants : is_some o.variants ≡ is_marked apart (length ts)
      pub under : IfSome o.under (λ fields. StandsForKind entered cat (kind_at cat (length ts)) fields × LeadTo (is_filled ts) fields)
      pub variants : IfSome o.variants (λ each. StandForVariants entered cat (kind_at cat (length ts)) each × AllLeadTo (is_filled ts) each)

    module _ (o : Entry) (next : IsNext o) where
      abbrev EarlierThan : ℕ → ℕ → Bool
      EarlierThan id t = nat_lt t id && is_filled (ts ++ o ∷ []) t

      -- what leads to earlier entries still does
      still : (id t : ℕ) → (nat_lt t id && is_filled ts t) ≡ true → EarlierThan id t ≡ true
      still id t h = both_of (nat_lt t id) _ (first_of (nat_lt t id) _ h) (filled_also o t (second_of (nat_lt t id) _ h)).1

      -- what the last entry leads to is earlier
      before : (t : ℕ) → is_filled ts t ≡ true → EarlierThan (length ts) t ≡ true
      before t h = both_of (nat_lt t (length ts)) _ (lt-ltb t (length ts) (filled_also o t h).0) (filled_also o t h).1

      under_right : (id : ℕ) (fields : FieldsByName) → under_at (ts ++ o ∷ []) id ≡ Some fields → StandsForKind entered cat (kind_at cat id) fields × LeadTo (EarlierThan id) fields
      under_right id fields e = elim (part_push (λ entry. entry.under) ts o id fields e) [
        | inl there ↦ (first.each.under id fields there, leads_also _ _ (still id) fields (first.leads.under id fields there))
        | inr last ↦
            (let right = at_some _ o.under fields last.1 next.under in
            subst (λ (i : ℕ). StandsForKind entered cat (kind_at cat i) fields × LeadTo (EarlierThan i) fields) (sym last.0) (right.0, leads_also _ _ before fields right.1))
      ]

      variants_right : (id : ℕ) (each : Vec FieldsByName Global) → variants_at (ts ++ o ∷ []) id ≡ Some each → StandForVariants entered cat (kind_at cat id) each × AllLeadTo (EarlierThan id) each
      variants_right id each e = elim (part_push (λ entry. entry.variants) ts o id each e) [
        | inl there ↦ (first.each.variants id each there, all_lead_also _ _ (still id) each (first.leads.variants id each there))
        | inr last ↦
            (let right = at_some _ o.variants each last.1 next.variants in
            subst (λ (i : ℕ). StandForVariants entered cat (kind_at cat i) each × AllLeadTo (EarlierThan i) each) (sym last.0) (right.0, all_lead_also _ _ before each right.1))
      ]

      pub one_entry : length ts < length marks → AreFirstEntries entered cat marks apart (ts ++ o ∷ [])
      one_entry lt = record {
        within = let l = length_push ts o in omega (arith, l);
        each = record { under = λ id fields e. (under_right id fields e).0; variants = λ id each e. (variants_right id each e).0 };
        leads = record { under = λ id fields e. (under_right id fields e).1; variants = λ id each e. (variants_right id each e).1 };
        marked = one_marked (λ entry. entry.under) ts marks first.marked o next.has_under;
        apart_marked = one_marked (λ entry. entry.variants) ts apart first.apart_marked o next.has_variants;
      }

-- an entry that is made from those so far comes next
pub next_made : (earlier : Earlier) (marks apart : List Bool) (ts : List Entry) (first : AreFirstEntries (entered_view earlier.entered) earlier.shapes.now marks apart ts) (wanted : Wanted) (kind : ShapeKind) (entry : Entry)
    → earlier.entries.now ≡ ts → kind_at earlier.shapes.now (length ts) ≡ kind → wanted.under ≡ is_marked marks (length ts) → wanted.variants ≡ is_marked apart (length ts)
    → IsMade earlier wanted kind entry → IsNext (entered_view earlier.entered) earlier.shapes.now marks apart ts first entry
next_made earlier marks apart ts first wanted kind entry same is under variants made =
    let e = entered_view earlier.entered in
    let cat = earlier.shapes.now in
    let next = kind_at cat (length ts) in
    record {
      has_under = made.has_under ∙ under;
      has_variants = made.has_variants ∙ variants;
      under =
          subst (λ (us : List Entry). IfSome entry.under (λ fields. StandsForKind e cat next fields × LeadTo (is_filled us) fields)) same
          (subst (λ (k : ShapeKind). IfSome entry.under (λ fields. StandsForKind e cat k fields × LeadTo (is_filled earlier.entries.now) fields)) (sym is)
          (if_some_also _ _ entry.under (λ fields are. (are.stand, are.lead)) made.under));
      variants =
          subst (λ (us : List Entry). IfSome entry.variants (λ each. StandForVariants e cat next each × AllLeadTo (is_filled us) each)) same
          (subst (λ (k : ShapeKind). IfSome entry.variants (λ each. StandForVariants e cat k each × AllLeadTo (is_filled earlier.entries.now) each)) (sym is)
          (if_some_also _ _ entry.variants (λ each are. (are.stand, are.lead)) made.variants));
    }
