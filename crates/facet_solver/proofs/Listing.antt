-- The list of choices by parts: which it lists, and the laws of its products.
use Rattle.std.proofs.Common.{◌≡◌, ℕ, zero, suc, ◌+◌, ◌⊎◌, inl, inr, List, [], ◌∷◌, ◌++◌, map, Option, Some, None, sym, refl, ap, ◌∙◌, subst, append_assoc, slice_get, add-zero, zero-add, arith, ◌<◌, Bool, true, false, length, get_or, drop, append-nil}
use Rattle.facet_solver_shape.specs.declared.shape.Variant.{Variant}
use Rattle.facet_solver.specs.build.Emissions.{Emission}
use Rattle.facet_solver.specs.build.Walk.{Walking, Walked, put_before, and_then, emit, choose, at_chosen, walk_optional}
use Rattle.facet_solver.specs.build.Listing.{Choices, no_choice, product, indexed, choices_of_optional, choices_of_fields, choices_of_variants, choices_of_root, choices_of_root_shape, choices_of_root_kind}
use Rattle.facet_solver.specs.build.Build.{Build, Catalogue}
use Rattle.std.proofs.lemmas.List.{drop_more}
use Rattle.facet_solver_shape.specs.declared.shape.Field.{Field}
use Rattle.facet_solver_shape.specs.Catalogues.{FieldsBelow, VariantsBelow, NamesEarlier}
use Rattle.facet_solver_shape.specs.declared.role.Target.{Target}
use Rattle.facet_solver_shape.specs.Roles.{block, alternatives, role_of}
use Rattle.std.specs.Prelude.{Vec}
use Rattle.std.specs.declared.alloc.Global.{Global}
use Rattle.facet_solver_shape.specs.declared.shape.Shape.{Shape}
use Rattle.facet_solver_shape.specs.declared.shape.StructKind.{StructKind}
use Rattle.facet_solver_shape.specs.declared.shape.ShapeKind.{ShapeKind}
use Rattle.facet_solver_shape.specs.declared.shape.ShapeKind.TheVariants.{Struct, Enum}
use Rattle.facet_solver.proofs.Roles.{RoleBelow, role_of-below}

-- ---- a walk and a list of choices agree: each listed choice is walked, whatever follows it, and
-- what is walked begins with a listed choice membership, by recursion
abbrev pub In : {X : Type 0} → X → List X → Type 0
In x [] = ⊥
In x (y ∷ ys) = (y ≡ x) ⊎ In x ys

pub In-left : {X : Type 0} (x : X) (xs ys : List X) → In x xs → In x (xs ++ ys)
In-left x [] ys h = absurd h
In-left x (y ∷ xs) ys (inl e) = inl e
In-left x (y ∷ xs) ys (inr h) = inr (In-left x xs ys h)

pub In-right : {X : Type 0} (x : X) (xs ys : List X) → In x ys → In x (xs ++ ys)
In-right x [] ys h = h
In-right x (y ∷ xs) ys h = inr (In-right x xs ys h)

pub In-append : {X : Type 0} (x : X) (xs ys : List X) → In x (xs ++ ys) → In x xs ⊎ In x ys
In-append x [] ys h = inr h
In-append x (y ∷ xs) ys (inl e) = inl (inl e)
In-append x (y ∷ xs) ys (inr h) = elim (In-append x xs ys h) [ inl a ↦ inl (inr a) | inr b ↦ inr b ]

pub In-map : {X Y : Type 0} (f : X → Y) (x : X) (xs : List X) → In x xs → In (f x) (map f xs)
In-map f x [] h = absurd h
In-map f x (y ∷ xs) (inl e) = inl (ap f e)
In-map f x (y ∷ xs) (inr h) = inr (In-map f x xs h)

pub In-map_from : {X Y : Type 0} (f : X → Y) (y : Y) (xs : List X) → In y (map f xs) → (x : X) × (In x xs) × (f x ≡ y)
In-map_from f y [] h = absurd h
In-map_from f y (x ∷ xs) (inl e) = (x, inl refl, e)
In-map_from f y (x ∷ xs) (inr h) = let r = In-map_from f y xs h in (r.0, inr r.1, r.2)

pub In-product : (c d : List ℕ) (cs ds : Choices) → In c cs → In d ds → In (c ++ d) (product cs ds)
unfolding product
In-product c d [] ds h k = absurd h
In-product c d (b ∷ cs) ds (inl e) k = In-left _ (map (λ d. b ++ d) ds) _ (let P : List ℕ → Type 0 = λ a. In (a ++ d) (map (λ d. b ++ d) ds) in subst P e (In-map (λ d. b ++ d) d ds k))
In-product c d (b ∷ cs) ds (inr h) k = In-right _ (map (λ d. b ++ d) ds) _ (In-product c d cs ds h k)

pub In-product_from : (x : List ℕ) (cs ds : Choices) → In x (product cs ds) → (c : List ℕ) × (d : List ℕ) × (In c cs) × (In d ds) × (c ++ d ≡ x)
unfolding product
In-product_from x [] ds h = absurd h
In-product_from x (b ∷ cs) ds h = elim (In-append x (map (λ d. b ++ d) ds) _ h) [
  | inl a ↦ (let r = In-map_from (λ d. b ++ d) x ds a in (b, r.0, inl refl, r.1, r.2))
  | inr t ↦ (let r = In-product_from x cs ds t in (r.0, r.1, inr r.2, r.3, r.4))
]

pub record IsExact (w : Walking) (cs : Choices) : Type 0 where
  pub sound : (c : List ℕ) → In c cs → (es : List Emission) × ((rest : List ℕ) → w (c ++ rest) ≡ Some (es, rest))
  pub complete : (ns : List ℕ) (es : List Emission) (rest : List ℕ) → w ns ≡ Some (es, rest) → (c : List ℕ) × (In c cs) × (c ++ rest ≡ ns)

-- what was walked, taken apart
walked_is : (v w : List Emission × List ℕ) → Some v ≡ Some w → v ≡ w
walked_is v w e = cc

abbrev second : List Emission × List ℕ → List ℕ
second w = w.1

-- nothing is walked
pub IsExact-none : IsExact (λ _. None) []
IsExact-none = record { sound = λ c h. absurd h; complete = λ ns es rest e. absurd (cc) }

-- no index is taken
pub IsExact-emit : (es : List Emission) → IsExact (emit es) no_choice
IsExact-emit es = record {
  sound = λ c h. elim h [ inl e ↦ (es, λ rest. ap (λ (c : List ℕ). emit es (c ++ rest)) (sym e)) | inr f ↦ absurd f ];
  complete = λ ns fs rest e. ([], inl refl, sym (ap second (walked_is (es, ns) (fs, rest) e)));
}

put_before_is : (es : List Emission) (w : Walked) (fs : List Emission) (rest : List ℕ) → put_before es w ≡ Some (fs, rest) → (gs : List Emission) × (w ≡ Some (gs, rest))
put_before_is es None fs rest e = absurd (cc)
put_before_is es (Some w) fs rest e = (w.0, ap (λ (r : List ℕ). Some (w.0, r)) (ap second (walked_is (es ++ w.0, w.1) (fs, rest) e)))

-- emissions before a walk take no index
pub IsExact-put_before : (es : List Emission) (w : Walking) (cs : Choices) → IsExact w cs → IsExact (λ ns. put_before es (w ns)) cs
IsExact-put_before es w cs x = record {
  sound = λ c h. let s = x.sound c h in (es ++ s.0, λ rest. ap (put_before es) (s.1 rest));
  complete = λ ns fs rest e. let r = put_before_is es (w ns) fs rest e in x.complete ns r.0 rest r.1;
}

and_then_is : (w : Walked) (v : Walking) (fs : List Emission) (rest : List ℕ) → and_then w v ≡ Some (fs, rest) → (es : List Emission) × (mid : List ℕ) × (gs : List Emission) × (w ≡ Some (es, mid)) × (v mid ≡ Some (gs, rest))
and_then_is None v fs rest e = absurd (cc)
and_then_is (Some w) v fs rest e = let r = put_before_is w.0 (v w.1) fs rest e in (w.0, w.1, r.0, refl, r.1)

-- one part and then another: a product
pub IsExact-and_then : (w v : Walking) (cs ds : Choices) → IsExact w cs → IsExact v ds → IsExact (λ ns. and_then (w ns) v) (product cs ds)
IsExact-and_then w v cs ds x y = record {
  sound = λ c h.
      let p = In-product_from c cs ds h in
      let s = x.sound p.0 p.2 in
      let t = y.sound p.1 p.3 in (
        s.0 ++ t.0,
        λ rest.
            ap (λ (n : List ℕ). and_then (w (n ++ rest)) v) (sym p.4)
            ∙ ap (λ (n : List ℕ). and_then (w n) v) (append_assoc p.0 p.1 rest)
            ∙ ap (λ (r : Walked). and_then r v) (s.1 (p.1 ++ rest))
            ∙ ap (put_before s.0) (t.1 rest),
      );
  complete = λ ns fs rest e.
      let r = and_then_is (w ns) v fs rest e in
      let a = x.complete ns r.0 r.1 r.3 in
      let b = y.complete r.1 r.2 rest r.4 in
      (a.0 ++ b.0, In-product a.0 b.0 cs ds a.1 b.1, append_assoc a.0 b.0 rest ∙ ap (λ (n : List ℕ). a.0 ++ n) b.2 ∙ a.2);
}

module _ (go : Variant → List ℕ → Walked) (choices : Variant → Choices) (each : (v : Variant) → IsExact (go v) (choices v)) where
  -- a listed index is a variant's
  In-indexed : (k : ℕ) (c : List ℕ) (vs : List Variant) → In c (indexed k choices vs) → (i : ℕ) × (v : Variant) × (d : List ℕ) × (slice_get vs i ≡ Some v) × (In d (choices v)) × ((k + i) ∷ d ≡ c)
  unfolding indexed
  In-indexed k c [] h = absurd h
  In-indexed k c (v ∷ vs) h = elim (In-append c (map (λ c. k ∷ c) (choices v)) _ h) [
    | inl a ↦ (let r = In-map_from (λ c. k ∷ c) c (choices v) a in (0, v, r.0, refl, r.1, ap (λ (n : ℕ). n ∷ r.0) (omega arith) ∙ r.2))
    | inr t ↦ (let r = In-indexed (suc k) c vs t in (suc r.0, r.1, r.2, r.3, r.4, ap (λ (n : ℕ). n ∷ r.2) (omega arith) ∙ r.5))
  ]

  indexed_In : (k i : ℕ) (v : Variant) (d : List ℕ) (vs : List Variant) → slice_get vs i ≡ Some v → In d (choices v) → In ((k + i) ∷ d) (indexed k choices vs)
  unfolding indexed
  indexed_In k i v d [] e h = absurd (cc)
  indexed_In k zero v d (u ∷ vs) e h =
      let same : u ≡ v = cc in
      let P : Variant → Type 0 = λ v. In d (choices v) in
      In-left _ (map (λ c. k ∷ c) (choices u)) _ (rw add-zero (In-map (λ c. k ∷ c) d (choices u) (subst P (sym same) h)))
  indexed_In k (suc i) v d (u ∷ vs) e h =
      let P : ℕ → Type 0 = λ n. In (n ∷ d) (indexed (suc k) choices vs) in
      In-right _ (map (λ c. k ∷ c) (choices u)) _ (subst P (omega arith) (indexed_In (suc k) i v d vs e h))

  choose_is : (vs : List Variant) (ns : List ℕ) (es : List Emission) (rest : List ℕ) → choose vs ns go ≡ Some (es, rest) → (i : ℕ) × (v : Variant) × (ms : List ℕ) × (slice_get vs i ≡ Some v) × (go v ms ≡ Some (es, rest)) × (i ∷ ms ≡ ns)
  choose_is vs [] es rest e = absurd (cc)
  choose_is vs (i ∷ ms) es rest e = by_variant (slice_get vs i) refl e
    where
      by_variant : (o : Option Variant) → slice_get vs i ≡ o → at_chosen o (λ v. go v ms) ≡ Some (es, rest) → (i' : ℕ) × (v : Variant) × (ms' : List ℕ) × (slice_get vs i' ≡ Some v) × (go v ms' ≡ Some (es, rest)) × (i' ∷ ms' ≡ i ∷ ms)
      by_variant None is e = absurd (cc)
      by_variant (Some v) is e = (i, v, ms, is, e, refl)

  -- a choice among variants: a sum
  pub IsExact-choose : (vs : List Variant) → IsExact (λ ns. choose vs ns go) (indexed 0 choices vs)
  IsExact-choose vs = record {
    sound = λ c h.
        let p = In-indexed 0 c vs h in
        let s = (each p.1).sound p.2 p.4 in (
          s.0,
          λ rest.
              ap (λ (n : List ℕ). choose vs (n ++ rest) go) (sym p.5)
              ∙ ap (λ (n : ℕ). choose vs (n ∷ (p.2 ++ rest)) go) (zero-add p.0)
              ∙ ap (λ (o : Option Variant). at_chosen o (λ v. go v (p.2 ++ rest))) p.3
              ∙ s.1 rest,
        );
    complete = λ ns es rest e.
        let r = choose_is vs ns es rest e in
        let a = (each r.1).complete r.2 es rest r.4 in
        let P : ℕ → Type 0 = λ n. In (n ∷ a.0) (indexed 0 choices vs) in
        (r.0 ∷ a.0, subst P (zero-add r.0) (indexed_In 0 r.0 r.1 a.0 vs r.3 a.1), ap (λ (n : List ℕ). r.0 ∷ n) a.2 ∙ r.5);
  }

-- what may be absent: one choice more
pub IsExact-optional : (b : Bool) (w : Walking) (cs : Choices) → IsExact w cs → IsExact (λ ns. walk_optional b w ns) (choices_of_optional b cs)
IsExact-optional false w cs x = x
IsExact-optional true w cs x = record { sound = sound; complete = complete }
  where
    sound : (c : List ℕ) → In c (choices_of_optional true cs) → (es : List Emission) × ((rest : List ℕ) → walk_optional true w (c ++ rest) ≡ Some (es, rest))
    sound c (inl e) = ([], λ rest. ap (λ (n : List ℕ). walk_optional true w (n ++ rest)) (sym e))
    sound c (inr h) =
        let r = In-map_from (λ c. 1 ∷ c) c cs h in
        let s = x.sound r.0 r.1 in
        (s.0, λ rest. ap (λ (n : List ℕ). walk_optional true w (n ++ rest)) (sym r.2) ∙ s.1 rest)

    complete : (ns : List ℕ) (es : List Emission) (rest : List ℕ) → walk_optional true w ns ≡ Some (es, rest) → (c : List ℕ) × (In c (choices_of_optional true cs)) × (c ++ rest ≡ ns)
    complete [] es rest e = absurd (cc)
    complete (zero ∷ ns) es rest e =
        let same : ([], ns) ≡ (es, rest) = cc in
        (0 ∷ [], inl refl, ap (λ (w : List Emission × List ℕ). 0 ∷ w.1) (sym same))
    complete (suc zero ∷ ns) es rest e =
        let r = x.complete ns es rest e in
        (1 ∷ r.0, inr (In-map (λ c. 1 ∷ c) r.0 cs r.1), ap (λ (n : List ℕ). 1 ∷ n) r.2)
    complete (suc (suc k) ∷ ns) es rest e = absurd (cc)

-- ---- laws of products, and the choices of fields and variants part by part
product-append : (cs ds es : Choices) → product (cs ++ ds) es ≡ product cs es ++ product ds es
unfolding product
product-append [] ds es = refl
product-append (c ∷ cs) ds es = ap (λ (xs : Choices). map (λ e. c ++ e) es ++ xs) (product-append cs ds es) ∙ sym (append_assoc (map (λ e. c ++ e) es) (product cs es) (product ds es))

map_twice : (c d : List ℕ) (es : Choices) → map (λ e. (c ++ d) ++ e) es ≡ map (λ e. c ++ e) (map (λ e. d ++ e) es)
map_twice c d [] = refl
map_twice c d (e ∷ es) = ap (λ (x : List ℕ). x ∷ map (λ e. (c ++ d) ++ e) es) (append_assoc c d e) ∙ ap (λ (xs : Choices). (c ++ (d ++ e)) ∷ xs) (map_twice c d es)

map-append' : (c : List ℕ) (xs ys : Choices) → map (λ e. c ++ e) (xs ++ ys) ≡ map (λ e. c ++ e) xs ++ map (λ e. c ++ e) ys
map-append' c [] ys = refl
map-append' c (x ∷ xs) ys = ap (λ (zs : Choices). (c ++ x) ∷ zs) (map-append' c xs ys)

product-after : (c : List ℕ) (ds es : Choices) → product (map (λ d. c ++ d) ds) es ≡ map (λ e. c ++ e) (product ds es)
unfolding product
product-after c [] es = refl
product-after c (d ∷ ds) es =
    ap (λ (xs : Choices). xs ++ product (map (λ d. c ++ d) ds) es) (map_twice c d es)
    ∙ ap (λ (xs : Choices). map (λ e. c ++ e) (map (λ e. d ++ e) es) ++ xs) (product-after c ds es)
    ∙ sym (map-append' c (map (λ e. d ++ e) es) (product ds es))

pub product_assoc : (cs ds es : Choices) → product (product cs ds) es ≡ product cs (product ds es)
unfolding product
product_assoc [] ds es = refl
product_assoc (c ∷ cs) ds es =
    product-append (map (λ d. c ++ d) ds) (product cs ds) es
    ∙ ap (λ (xs : Choices). xs ++ product (product cs ds) es) (product-after c ds es)
    ∙ ap (λ (xs : Choices). map (λ e. c ++ e) (product ds es) ++ xs) (product_assoc cs ds es)

map_nothing : (ds : Choices) → map (λ d. [] ++ d) ds ≡ ds
map_nothing [] = refl
map_nothing (d ∷ ds) = ap (λ (xs : Choices). d ∷ xs) (map_nothing ds)

pub product-one_left : (ds : Choices) → product no_choice ds ≡ ds
unfolding product
product-one_left ds = append-nil (map (λ d. [] ++ d) ds) ∙ map_nothing ds

pub product-one_right : (cs : Choices) → product cs no_choice ≡ cs
unfolding product
product-one_right [] = refl
product-one_right (c ∷ cs) = ap (λ (x : List ℕ). x ∷ product cs no_choice) (append-nil c) ∙ ap (λ (xs : Choices). c ∷ xs) (product-one_right cs)

-- the indexed choices of the variants from index i on
module _ (choices : Variant → Choices) where
  pub indexed-more : (k : ℕ) (vs : List Variant) (i : ℕ) (d : Variant) → i < length vs → indexed k choices (drop i vs) ≡ map (λ c. k ∷ c) (choices (get_or vs i d)) ++ indexed (suc k) choices (drop (i + 1) vs)
  unfolding indexed
  indexed-more k vs i d h = ap (λ (ws : List Variant). indexed k choices ws) (drop_more vs i d h)

-- what a field's role leads to is of earlier shapes
module _ (cat : Catalogue) (checked : NamesEarlier cat) (f : Field) where
  pub block-below : (target : Target) (fs : List Field) → block target fs ≡ role_of cat f → FieldsBelow f.shape fs
  block-below target fs e = subst (RoleBelow f.shape) (sym e) (role_of-below cat checked f)

  pub alternatives-below : (target : Target) (s : Shape) (vs : List Variant) → alternatives target s vs ≡ role_of cat f → VariantsBelow f.shape vs
  alternatives-below target s vs e = subst (RoleBelow f.shape) (sym e) (role_of-below cat checked f)

-- the choices of a root, by its kind
module _ (build : Build) (root : ℕ) (s : Shape) (is : slice_get build.catalogue root ≡ Some s) where
  of_root : choices_of_root build root ≡ choices_of_root_kind build s.kind
  unfolding choices_of_root
  of_root = ap (choices_of_root_shape build) is

  pub root-struct : (kind : StructKind) (fs : Vec Field Global) → s.kind ≡ Struct kind fs → choices_of_fields build fs.items ≡ choices_of_root build root
  root-struct kind fs e = sym (of_root ∙ ap (choices_of_root_kind build) e)

  pub root-enum : (vs : Vec Variant Global) → s.kind ≡ Enum vs → choices_of_variants build true vs.items ≡ choices_of_root build root
  unfolding choices_of_variants
  root-enum vs e = sym (of_root ∙ ap (choices_of_root_kind build) e)

  pub root-other : ((kind : StructKind) (fs : Vec Field Global) → s.kind ≡ Struct kind fs → ⊥) → ((vs : Vec Variant Global) → s.kind ≡ Enum vs → ⊥) → no_choice ≡ choices_of_root build root
  root-other no_struct no_enum = go s.kind refl ∙ sym of_root
    where
      go : (k : ShapeKind) → s.kind ≡ k → no_choice ≡ choices_of_root_kind build k
      go (Struct kind fs) e = absurd (no_struct kind fs e)
      go (Enum vs) e = absurd (no_enum vs e)
      go _ e = refl
