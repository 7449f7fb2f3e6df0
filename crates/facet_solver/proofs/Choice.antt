-- The list of choices by parts lists the choices of the walk, and no other list does.
use Rattle.facet_solver.specs.build.Build.{Build, repr_for}
use Rattle.std.proofs.Common.{◌≡◌, ℕ, zero, suc, ◌+◌, ◌<◌, ◌⊎◌, inl, inr, List, [], ◌∷◌, ◌++◌, map, Option, Some, None, Bool, true, false, sym, refl, ap, ◌∙◌, subst, slice_get, length, get_or, append-nil, arith}
use Rattle.std.specs.Prelude.{⊤, if◌then◌else◌, Contains}
use Rattle.facet_solver_shape.specs.declared.shape.Shape.{Shape}
use Rattle.facet_solver_shape.specs.declared.shape.ShapeKind.{ShapeKind}
use Rattle.facet_solver_shape.specs.declared.shape.ShapeKind.TheVariants.{Struct, Enum}
use Rattle.facet_solver_shape.specs.declared.shape.Field.{Field}
use Rattle.facet_solver_shape.specs.declared.shape.Variant.{Variant}
use Rattle.facet_solver.specs.build.Place.{at_root, choosing, variant_path, Path}
use Rattle.facet_solver.specs.build.Emissions.{emit_variant, selection_of, Emission}
use Rattle.facet_solver.specs.build.Walk.{Walk, emit, walk_variant_step, walk_content_step, walk_present, walk_role, walk_fields_step, walk_within, walk_fields, walk_root, walk_root_shape, walk_root_kind, walk_root_variant, walk_content}
use Rattle.facet_solver_shape.specs.Representation.{is_walked}
use Rattle.facet_solver_shape.specs.Roles.{Role, regular, block, alternatives, catch_all, leaf, role_of, may_be_absent}
use Rattle.facet_solver.specs.build.Listing.{Choices, no_choice, product, indexed, choices_of_variant, choices_of_present, choices_of_optional, choices_of_role, choices_of_fields_step, choices_within, choices_of_fields, choices_of_root, choices_of_root_shape, choices_of_root_kind}
use Rattle.facet_solver.specs.build.Choice.{ListsChoices, Emits, IsChoice, IsResolution, Enumerates, HasNoDuplicates, IsChoiceDuplicate, resolution_from}
use Rattle.facet_solver.proofs.Listing.{In, In-append, In-map_from, In-product_from, IsExact, IsExact-none, IsExact-emit, IsExact-put_before, IsExact-and_then, IsExact-choose, IsExact-optional}
use Rattle.std.specs.Cmp.Lexicographic.{slice_cmp}
use Rattle.std.specs.Ordering.{nat_cmp, ordering_then, ordering_reverse}
use Rattle.std.specs.List.{AllByRecursion, AllZip}
use Rattle.std.specs.List.Sorted.{IsStrictlySortedBy}
use Rattle.std.specs.Cmp.{nat_cmp_is}
use Rattle.std.specs.declared.cmp.Ordering.{Ordering}
use Rattle.std.specs.declared.cmp.Ordering.TheVariants.{Less, Equal, Greater}
use Rattle.facet_solver.specs.build.Count.{count_of_root}
use Rattle.facet_solver.proofs.Count.{root_count}
use Rattle.facet_solver_shape.specs.Resolved.{Resolved}
use Rattle.facet_solver_shape.specs.Names.{Name}
use Rattle.std.proofs.lemmas.Cmp.{nat_list_cmp_total}

-- ---- the list of choices by parts lists the choices of the walk, each once and in order
-- a walk of lists of fields, at any path and flag, agrees with the choices of each
abbrev AllExact : Walk → (List Field → Choices) → Type 0
AllExact below choices = (fs : List Field) (place : Path) → IsExact (below fs place) (choices fs)

module _ (build : Build) where
  exact_content : (walked : Bool) (below : Walk) (choices : List Field → Choices) (v : Variant) (place : Path) → AllExact below choices
      → IsExact (λ ns. if walked then walk_content_step below build.catalogue v place ns else emit [] ns) (choices_of_variant choices build.catalogue walked v)
  exact_content true below choices v place x = x _ _
  exact_content false below choices v place x = IsExact-emit []

  exact_present : (below : Walk) (choices : List Field → Choices) (f : Field) (place : Path) (r : Role) → AllExact below choices
      → IsExact (λ ns. walk_present below build f place r ns) (choices_of_present choices build r)
  exact_present below choices f place regular x = IsExact-emit _
  exact_present below choices f place (block target fs) x = x fs _
  exact_present below choices f place (alternatives target s vs) x =
      IsExact-choose (λ v rest. walk_variant_step below build (choosing f target s v) place rest) (choices_of_variant choices build.catalogue (is_walked (repr_for build s)))
      (λ v.
      IsExact-put_before (emit_variant build (choosing f target s v) place) _ _
      (exact_content (is_walked (repr_for build s)) below choices v (variant_path place (choosing f target s v)) x)) vs
  exact_present below choices f place (catch_all target) x = IsExact-emit _
  exact_present below choices f place (leaf target) x = IsExact-emit _

  exact_role : (below : Walk) (choices : List Field → Choices) (f : Field) (place : Path) (r : Role) → AllExact below choices
      → IsExact (λ ns. walk_role below build f place r ns) (choices_of_role choices build r)
  exact_role below choices f place r x = IsExact-optional (may_be_absent r) _ _ (exact_present below choices f place r x)

  exact_fields : (below : Walk) (choices : List Field → Choices) → AllExact below choices → AllExact (walk_fields_step below build) (choices_of_fields_step choices build)
  unfolding walk_fields_step choices_of_fields_step
  exact_fields below choices x [] place = IsExact-emit []
  exact_fields below choices x (f ∷ fs) place =
      IsExact-and_then (λ ns. walk_role below build f place (role_of build.catalogue f) ns) _ _ _ (exact_role below choices f place (role_of build.catalogue f) x) (exact_fields below choices x fs place)

  exact_within : (n : ℕ) → AllExact (walk_within n build) (choices_within n build)
  unfolding walk_within choices_within
  exact_within zero fs place = IsExact-none
  exact_within (suc n) fs place = exact_fields (walk_within n build) (choices_within n build) (exact_within n) fs place

  pub exact_below : AllExact (walk_fields build) (λ fs. choices_of_fields build fs)
  unfolding walk_fields choices_of_fields
  exact_below fs place = exact_within (suc (length build.catalogue)) fs place

  exact_root_variant : (s : Shape) (v : Variant) → IsExact (λ ns. walk_root_variant build s v ns) (choices_of_variant (choices_of_fields build) build.catalogue true v)
  unfolding walk_root_variant walk_content
  exact_root_variant s v = IsExact-put_before (selection_of s v [] ∷ []) _ _ (exact_below _ _)

  exact_root_kind : (s : Shape) (k : ShapeKind) → IsExact (λ ns. walk_root_kind build s k ns) (choices_of_root_kind build k)
  exact_root_kind s (Struct kind fs) = exact_below fs.items at_root
  exact_root_kind s (Enum vs) = IsExact-choose (walk_root_variant build s) (choices_of_variant (choices_of_fields build) build.catalogue true) (exact_root_variant s) vs.items
  exact_root_kind s _ = IsExact-emit []

  exact_root_shape : (s : Option Shape) → IsExact (λ ns. walk_root_shape build s ns) (choices_of_root_shape build s)
  exact_root_shape None = IsExact-none
  exact_root_shape (Some s) = exact_root_kind s s.kind

  pub exact_root : (root : ℕ) → IsExact (walk_root build root) (choices_of_root build root)
  unfolding walk_root choices_of_root
  exact_root root = exact_root_shape (slice_get build.catalogue root)

-- the first fork of two choices goes to a smaller index in the first: stronger than the
-- lexicographic order, for neither begins the other
abbrev pub Forks : List ℕ → List ℕ → Type 0
Forks [] ns = ⊥
Forks (m ∷ ms) [] = ⊥
Forks (m ∷ ms) (n ∷ ns) = (m < n) ⊎ ((m ≡ n) × Forks ms ns)

pub less_from_forks : (ms ns : List ℕ) → Forks ms ns → slice_cmp nat_cmp ms ns ≡ Less
less_from_forks [] ns h = absurd h
less_from_forks (m ∷ ms) [] h = absurd h
less_from_forks (m ∷ ms) (n ∷ ns) (inl h) = ap (λ (o : Ordering). ordering_then o (slice_cmp nat_cmp ms ns)) (sym (nat_cmp_is m n Less h))
less_from_forks (m ∷ ms) (n ∷ ns) (inr h) =
    ap (λ (o : Ordering). ordering_then o (slice_cmp nat_cmp ms ns)) (sym (nat_cmp_is m n Equal h.0)) ∙ less_from_forks ms ns h.1

forks_after : (c ms ns : List ℕ) → Forks ms ns → Forks (c ++ ms) (c ++ ns)
forks_after [] ms ns h = h
forks_after (k ∷ c) ms ns h = inr (refl, forks_after c ms ns h)

forks_longer : (ms ns xs ys : List ℕ) → Forks ms ns → Forks (ms ++ xs) (ns ++ ys)
forks_longer [] ns xs ys h = absurd h
forks_longer (m ∷ ms) [] xs ys h = absurd h
forks_longer (m ∷ ms) (n ∷ ns) xs ys (inl h) = inl h
forks_longer (m ∷ ms) (n ∷ ns) xs ys (inr h) = inr (h.0, forks_longer ms ns xs ys h.1)

-- each forks below each later one
abbrev pub Rising : Choices → Type 0
Rising [] = ⊤
Rising (c ∷ cs) = ((d : List ℕ) → In d cs → Forks c d) × Rising cs

Rising-append : (cs ds : Choices) → Rising cs → Rising ds → ((c d : List ℕ) → In c cs → In d ds → Forks c d) → Rising (cs ++ ds)
Rising-append [] ds h k x = k
Rising-append (c ∷ cs) ds h k x = (
  λ d i. elim (In-append d cs ds i) [ inl a ↦ h.0 d a | inr b ↦ x c d (inl refl) b ],
  Rising-append cs ds h.1 k (λ a b i j. x a b (inr i) j),
)

Rising-after : (c : List ℕ) (ds : Choices) → Rising ds → Rising (map (λ d. c ++ d) ds)
Rising-after c [] h = h
Rising-after c (d ∷ ds) h = (
  λ x i. let r = In-map_from (λ d. c ++ d) x ds i in subst (Forks (c ++ d)) r.2 (forks_after c d r.0 (h.0 r.0 r.1)),
  Rising-after c ds h.1,
)

Rising-product : (cs ds : Choices) → Rising cs → Rising ds → Rising (product cs ds)
unfolding product
Rising-product [] ds h k = tt
Rising-product (c ∷ cs) ds h k =
    Rising-append (map (λ d. c ++ d) ds) (product cs ds) (Rising-after c ds k) (Rising-product cs ds h.1 k)
    (λ x y i j.
    let a = In-map_from (λ d. c ++ d) x ds i in
    let b = In-product_from y cs ds j in
    let f = forks_longer c b.0 a.0 b.1 (h.0 b.0 b.2) in
    let g = subst (λ z. Forks z (b.0 ++ b.1)) a.2 f in
    subst (Forks x) b.4 g)

pub Rising-before : (k : ℕ) (ds : Choices) → Rising ds → Rising (map (λ d. k ∷ d) ds)
Rising-before k [] h = tt
Rising-before k (d ∷ ds) h = (
  λ x i. let r = In-map_from (λ d. k ∷ d) x ds i in subst (Forks (k ∷ d)) r.2 (inr (refl, h.0 r.0 r.1)),
  Rising-before k ds h.1,
)

-- what is indexed from k on begins with k or more
indexed_heads : (choices : Variant → Choices) (k : ℕ) (c : List ℕ) (vs : List Variant) → In c (indexed k choices vs) → (i : ℕ) × (d : List ℕ) × ((k + i) ∷ d ≡ c)
unfolding indexed
indexed_heads choices k c [] h = absurd h
indexed_heads choices k c (v ∷ vs) h = elim (In-append c (map (λ c. k ∷ c) (choices v)) _ h) [
  | inl a ↦ (let r = In-map_from (λ c. k ∷ c) c (choices v) a in (0, r.0, ap (λ (n : ℕ). n ∷ r.0) (omega arith) ∙ r.2))
  | inr t ↦ (let r = indexed_heads choices (suc k) c vs t in (suc r.0, r.1, ap (λ (n : ℕ). n ∷ r.1) (omega arith) ∙ r.2))
]

forks_by_head : (k i : ℕ) (ms ns : List ℕ) → Forks (k ∷ ms) ((suc k + i) ∷ ns)
forks_by_head k i ms ns = inl (omega arith)

Rising-indexed : (k : ℕ) (choices : Variant → Choices) → ((v : Variant) → Rising (choices v)) → (vs : List Variant) → Rising (indexed k choices vs)
unfolding indexed
Rising-indexed k choices h [] = tt
Rising-indexed k choices h (v ∷ vs) =
    Rising-append (map (λ c. k ∷ c) (choices v)) (indexed (suc k) choices vs) (Rising-before k (choices v) (h v)) (Rising-indexed (suc k) choices h vs)
    (λ x y i j.
    let a = In-map_from (λ c. k ∷ c) x (choices v) i in
    let b = indexed_heads choices (suc k) y vs j in
    let f = forks_by_head k b.0 a.0 b.1 in
    let g = subst (λ z. Forks z ((suc k + b.0) ∷ b.1)) a.2 f in
    subst (Forks x) b.2 g)

Rising-one : Rising no_choice
Rising-one = (λ d i. absurd i, tt)

Rising-optional : (b : Bool) (cs : Choices) → Rising cs → Rising (choices_of_optional b cs)
Rising-optional false cs h = h
Rising-optional true cs h = (
  λ d i. let r = In-map_from (λ c. 1 ∷ c) d cs i in subst (Forks (0 ∷ [])) r.2 (inl (omega arith)),
  Rising-before 1 cs h,
)

-- the choices of every list of fields rise
abbrev AllRise : (List Field → Choices) → Type 0
AllRise choices = (fs : List Field) → Rising (choices fs)

module _ (build : Build) where
  rise_variant : (walked : Bool) (choices : List Field → Choices) (v : Variant) → AllRise choices → Rising (choices_of_variant choices build.catalogue walked v)
  rise_variant true choices v x = x _
  rise_variant false choices v x = Rising-one

  rise_present : (choices : List Field → Choices) (r : Role) → AllRise choices → Rising (choices_of_present choices build r)
  rise_present choices regular x = Rising-one
  rise_present choices (block target fs) x = x fs
  rise_present choices (alternatives target s vs) x = Rising-indexed 0 _ (λ v. rise_variant (is_walked (repr_for build s)) choices v x) vs
  rise_present choices (catch_all target) x = Rising-one
  rise_present choices (leaf target) x = Rising-one

  rise_role : (choices : List Field → Choices) (r : Role) → AllRise choices → Rising (choices_of_role choices build r)
  rise_role choices r x = Rising-optional (may_be_absent r) _ (rise_present choices r x)

  rise_fields : (choices : List Field → Choices) → AllRise choices → AllRise (choices_of_fields_step choices build)
  unfolding choices_of_fields_step
  rise_fields choices x [] = Rising-one
  rise_fields choices x (f ∷ fs) = Rising-product _ _ (rise_role choices (role_of build.catalogue f) x) (rise_fields choices x fs)

  rise_within : (n : ℕ) → AllRise (choices_within n build)
  unfolding choices_within
  rise_within zero fs = tt
  rise_within (suc n) fs = rise_fields (choices_within n build) (rise_within n) fs

  rise_below : AllRise (λ fs. choices_of_fields build fs)
  unfolding choices_of_fields
  rise_below fs = rise_within (suc (length build.catalogue)) fs

  rise_root_kind : (k : ShapeKind) → Rising (choices_of_root_kind build k)
  rise_root_kind (Struct kind fs) = rise_below fs.items
  rise_root_kind (Enum vs) = Rising-indexed 0 _ (λ v. rise_below _) vs.items
  rise_root_kind _ = Rising-one

  rise_root_shape : (s : Option Shape) → Rising (choices_of_root_shape build s)
  rise_root_shape None = tt
  rise_root_shape (Some s) = rise_root_kind s.kind

  pub rise_root : (root : ℕ) → Rising (choices_of_root build root)
  unfolding choices_of_root
  rise_root root = rise_root_shape (slice_get build.catalogue root)

-- from membership by recursion to that by index, and back
pub contains_from_In : {X : Type 0} (x : X) (xs : List X) → In x xs → Contains xs x
contains_from_In x [] h = absurd h
contains_from_In x (y ∷ xs) (inl e) = (0, omega arith, e)
contains_from_In x (y ∷ xs) (inr h) = let r = contains_from_In x xs h in (suc r.0, omega arith, r.2)

pub In-get_or : {X : Type 0} (xs : List X) (k : ℕ) (d : X) → k < length xs → In (get_or xs k d) xs
In-get_or [] k d h = absurd (omega arith)
In-get_or (y ∷ xs) zero d h = inl refl
In-get_or (y ∷ xs) (suc k) d h = inr (In-get_or xs k d (omega arith))

pub In_from_contains : {X : Type 0} (x : X) (xs : List X) → Contains xs x → In x xs
In_from_contains x xs h = subst (λ y. In y xs) h.2 (In-get_or xs h.0 x h.1)

sorted_from_rising : (cs : Choices) → Rising cs → IsStrictlySortedBy (slice_cmp nat_cmp) cs
unfolding IsStrictlySortedBy
sorted_from_rising [] h = tt
sorted_from_rising (c ∷ cs) h = (each cs (λ d i. less_from_forks c d (h.0 d i)), sorted_from_rising cs h.1)
  where
    each : (ds : Choices) → ((d : List ℕ) → In d ds → slice_cmp nat_cmp c d ≡ Less) → AllByRecursion (λ d. slice_cmp nat_cmp c d ≡ Less) ds
    each [] k = tt
    each (d ∷ ds) k = (k d (inl refl), each ds (λ x i. k x (inr i)))

-- the list by parts lists the choices
pub choices_listed : (build : Build) (root : ℕ) → ListsChoices build root (choices_of_root build root)
choices_listed build root =
    let x = exact_root build root in
    record {
      each_is = λ c h.
          let s = x.sound c (In_from_contains c _ h) in
          (s.0, ap (walk_root build root) (sym (append-nil c)) ∙ s.1 []);
      complete = λ c h.
          let r = x.complete c h.0 [] h.1 in
          let same : r.0 ≡ c = sym (append-nil r.0) ∙ r.2 in
          contains_from_In c _ (subst (λ y. In y (choices_of_root build root)) same r.1);
      in_order = sorted_from_rising _ (rise_root build root);
    }

-- ---- what an enumeration says further: no choice has duplicate keys, none begins another, and the
-- list is the only one
module _ (build : Build) (root : ℕ) where
  resolution_at : (cs : List (List ℕ)) (rs : List Resolved) (c : List ℕ) → AllZip (IsResolution build root) cs rs → In c cs → (r : Resolved) × IsResolution build root c r
  resolution_at [] rs c h i = absurd i
  resolution_at (b ∷ cs) [] c h i = absurd h
  resolution_at (b ∷ cs) (r ∷ rs) c h (inl e) = (r, subst (λ (d : List ℕ). IsResolution build root d r) e h.0)
  resolution_at (b ∷ cs) (r ∷ rs) c h (inr i) = resolution_at cs rs c h.1 i

  -- a successful enumeration excludes every duplicate key of a choice
  pub no_choice-duplicates : (rs : List Resolved) → Enumerates build root rs → (c : List ℕ) (es : List Emission) → Emits build root c es → HasNoDuplicates es
  no_choice-duplicates rs h c es e =
      let i = In_from_contains c h.choices (h.listed.complete c (es, e)) in
      let r = resolution_at h.choices rs c h.resolved i in
      let f : Some (r.1.emissions, []) ≡ Some (es, []) = sym r.1.emitted ∙ e in
      let p : (r.1.emissions, []) ≡ (es, []) = cc in
      subst HasNoDuplicates (ap (λ (w : List Emission × List ℕ). w.0) p) r.1.no_duplicates

  -- no choice begins another
  pub no_choice-begins : (c d : List ℕ) → IsChoice build root c → IsChoice build root (c ++ d) → d ≡ []
  no_choice-begins c d h k =
      let x = exact_root build root in
      let a = x.complete c h.0 [] h.1 in
      let same : a.0 ≡ c = sym (append-nil a.0) ∙ a.2 in
      let s = x.sound a.0 a.1 in
      let f : Some (s.0, d) ≡ Some (k.0, []) = sym (s.1 d) ∙ ap (λ (n : List ℕ). walk_root build root (n ++ d)) same ∙ k.1 in
      let p : (s.0, d) ≡ (k.0, []) = cc in
      ap (λ (w : List Emission × List ℕ). w.1) p

-- the order is strict
before-irrefl : (c : List ℕ) → slice_cmp nat_cmp c c ≡ Less → ⊥
before-irrefl c h = go (slice_cmp nat_cmp c c) h (nat_list_cmp_total.antisymm c c)
  where
    go : (o : Ordering) → o ≡ Less → o ≡ ordering_reverse o → ⊥
    go Less h k = absurd (cc)
    go Equal h k = absurd (cc)
    go Greater h k = absurd (cc)

before-asym : (c d : List ℕ) → slice_cmp nat_cmp c d ≡ Less → slice_cmp nat_cmp d c ≡ Less → ⊥
before-asym c d h k = before-irrefl c (nat_list_cmp_total.trans c d c h k)

-- each stands before each later one
abbrev Ascends : List (List ℕ) → Type 0
Ascends [] = ⊤
Ascends (c ∷ cs) = ((d : List ℕ) → In d cs → slice_cmp nat_cmp c d ≡ Less) × Ascends cs

index_in : (d : List ℕ) (cs : List (List ℕ)) → In d cs → (k : ℕ) × (k < length cs) × (get_or cs k d ≡ d)
index_in d [] h = absurd h
index_in d (c ∷ cs) (inl e) = (0, omega arith, e)
index_in d (c ∷ cs) (inr h) = let r = index_in d cs h in (suc r.0, omega arith, r.2)

ascends : (cs : List (List ℕ)) → IsStrictlySortedBy (slice_cmp nat_cmp) cs → Ascends cs
unfolding IsStrictlySortedBy
ascends [] h = tt
ascends (c ∷ cs) h = (λ d i. each cs h.0 d i, ascends cs h.1)
  where
    each : (ds : List (List ℕ)) → AllByRecursion (λ d. slice_cmp nat_cmp c d ≡ Less) ds → (d : List ℕ) → In d ds → slice_cmp nat_cmp c d ≡ Less
    each [] k d i = absurd i
    each (x ∷ ds) k d (inl e) = subst (λ (y : List ℕ). slice_cmp nat_cmp c y ≡ Less) e k.0
    each (x ∷ ds) k d (inr i) = each ds k.1 d i

-- two ascending lists with the same members are one
same_list : (cs ds : List (List ℕ)) → Ascends cs → Ascends ds → ((c : List ℕ) → In c cs → In c ds) → ((c : List ℕ) → In c ds → In c cs) → cs ≡ ds
same_list [] [] h k f g = refl
same_list [] (d ∷ ds) h k f g = absurd (g d (inl refl))
same_list (c ∷ cs) [] h k f g = absurd (f c (inl refl))
same_list (c ∷ cs) (d ∷ ds) h k f g =
    let heads : c ≡ d = first (f c (inl refl)) (g d (inl refl)) in
    ap (λ (x : List ℕ). x ∷ cs) heads
    ∙ ap (λ (xs : List (List ℕ)). d ∷ xs)
    (same_list cs ds h.1 k.1
    (λ x i. tail_of c d cs ds x heads (h.0 x i) (f x (inr i)))
    (λ x i. tail_of d c ds cs x (sym heads) (k.0 x i) (g x (inr i))))
  where
    first : (d ≡ c) ⊎ In c ds → (c ≡ d) ⊎ In d cs → c ≡ d
    first (inl e) other = sym e
    first (inr i) (inl e) = e
    first (inr i) (inr j) = absurd (before-asym c d (h.0 d j) (k.0 c i))

    tail_of : (a b : List ℕ) (xs ys : List (List ℕ)) (x : List ℕ) → a ≡ b → slice_cmp nat_cmp a x ≡ Less → (b ≡ x) ⊎ In x ys → In x ys
    tail_of a b xs ys x e lt (inl q) = absurd (before-irrefl x (subst (λ (z : List ℕ). slice_cmp nat_cmp z x ≡ Less) (e ∙ q) lt))
    tail_of a b xs ys x e lt (inr i) = i

-- there is one list of all choices
pub one_list : (build : Build) (root : ℕ) (cs ds : List (List ℕ)) → ListsChoices build root cs → ListsChoices build root ds → cs ≡ ds
one_list build root cs ds h k =
    same_list cs ds (ascends cs h.in_order) (ascends ds k.in_order)
    (λ c i. In_from_contains c ds (k.complete c (h.each_is c (at c cs i))))
    (λ c i. In_from_contains c cs (h.complete c (k.each_is c (at c ds i))))
  where
    at : (c : List ℕ) (xs : List (List ℕ)) → In c xs → Contains xs c
    at c xs i = index_in c xs i

-- a choice has one resolution
pub resolution-one : (build : Build) (root : ℕ) (c : List ℕ) (r s : Resolved) → IsResolution build root c r → IsResolution build root c s → r ≡ s
resolution-one build root c r s h k =
    let f : Some (h.emissions, []) ≡ Some (k.emissions, []) = sym h.emitted ∙ k.emitted in
    let p : (h.emissions, []) ≡ (k.emissions, []) = cc in
    h.put_together ∙ ap (λ (w : List Emission × List ℕ). resolution_from w.0) p ∙ sym k.put_together

resolutions-one : (build : Build) (root : ℕ) (cs : List (List ℕ)) (rs ss : List Resolved) → AllZip (IsResolution build root) cs rs → AllZip (IsResolution build root) cs ss → rs ≡ ss
resolutions-one build root [] [] [] h k = refl
resolutions-one build root [] [] (s ∷ ss) h k = absurd k
resolutions-one build root [] (r ∷ rs) ss h k = absurd h
resolutions-one build root (c ∷ cs) [] ss h k = absurd h
resolutions-one build root (c ∷ cs) (r ∷ rs) [] h k = absurd k
resolutions-one build root (c ∷ cs) (r ∷ rs) (s ∷ ss) h k =
    ap (λ (r : Resolved). r ∷ rs) (resolution-one build root c r s h.0 k.0)
    ∙ ap (λ (rs : List Resolved). s ∷ rs) (resolutions-one build root cs rs ss h.1 k.1)

-- there is one list of resolutions
pub one_enumeration : (build : Build) (root : ℕ) (rs ss : List Resolved) → Enumerates build root rs → Enumerates build root ss → rs ≡ ss
one_enumeration build root rs ss h k =
    resolutions-one build root h.choices rs ss h.resolved
    (subst (λ (cs : List (List ℕ)). AllZip (IsResolution build root) cs ss) (sym (one_list build root h.choices k.choices h.listed k.listed)) k.resolved)

-- a list of resolutions and a duplicate key exclude each other
pub no_duplicates : (build : Build) (root : ℕ) (rs : List Resolved) → Enumerates build root rs → (name : Name) (first second : Path) → ¬ IsChoiceDuplicate build root name first second
no_duplicates build root rs h name first second k = no_choice-duplicates build root rs h k.choice k.emissions k.emitted k.first k.second k.duplicates

-- the list of all choices is as long as their number
pub choices-counted : (build : Build) (root : ℕ) (cs : List (List ℕ)) → ListsChoices build root cs → length cs ≡ count_of_root build root
choices-counted build root cs h =
    ap length (one_list build root cs (choices_of_root build root) h (choices_listed build root)) ∙ root_count build root
