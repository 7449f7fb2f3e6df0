-- The texts of a tag, with the variants that they name.
use Rattle.std.proofs.Common.{◌≡◌, ◌≢◌, ◌⊎◌, ◌∙◌, inl, inr, refl, sym, ap, subst, ⊎_elim, ℕ, zero, suc, ◌+◌, ◌<◌, ◌≤◌}
use Rattle.std.proofs.Common.{true, false, List, [], ◌∷◌, ◌++◌, Option, Some, None, length, slice_get, get_or}
use Rattle.std.proofs.Common.{arith, Bor, Contains, IsPermutation, string_bytes}
use Rattle.std.specs.Prelude.{IfSome}
use Rattle.std.specs.Option.{option_copied}
use Rattle.std.proofs.Math.Dec.{eqb}
use Rattle.std.proofs.lemmas.Bool.{cases_lt}
use Rattle.std.proofs.lemmas.Bool.Decides.{eqb_tells}
use Rattle.std.proofs.lemmas.List.{map-append}
use Rattle.std.proofs.lemmas.List.Elements.{Contains-append_left, Contains-append_right}
use Rattle.std.proofs.lemmas.List.Sorted.{Contains-permutation, IsPermutation-map}
use Rattle.std.proofs.lemmas.Option.{slice_get_within, same_Some}
use Rattle.facet_solver_shape.specs.declared.shape.Variant.{Variant}
use Rattle.facet_solver_shape.specs.Catalogues.{Catalogue}
use Rattle.facet_solver_shape.specs.Names.{Name, names_of}
use Rattle.facet_solver_reader.specs.declared.tables.tags.TagTable.{TagTable}
use Rattle.facet_solver_reader.specs.Nodes.{AreByName, Named, entries, names_among}
use Rattle.facet_solver_reader.specs.Tags.{AreTags, HoldsVariants, IsTagTable}
use Rattle.facet_solver_reader.proofs.NodeNames.{Item, Stands, contains_at, name_at, stands}

-- a name that stands at an index
module _ (es : Named) (apart : AreByName es) (x : Name) where
  none : Item
  none = (record { ref_ptr = (0, 0); now = [] }, 0)

  name_is_at : (n : ℕ) (s : Stands es x n)
      → slice_get (names_of (names_among es)) s.index ≡ Some x
  name_is_at n s = name_at es s.index none s.within ∙ ap (λ y. Some y) (s.name_is none)

  not_before : (m n : ℕ) (a : Stands es x m) (b : Stands es x n) → a.index < b.index → ⊥
  not_before m n a b less =
      apart.apart
      (record {
        name = x;
        first = a.index;
        second = b.index;
        apart = less;
        at_first = name_is_at m a;
        at_second = name_is_at n b;
      })

  -- where each name stands once, it stands with one number
  pub one_number : (m n : ℕ) → Contains (entries es) (x, m) → Contains (entries es) (x, n) → m ≡ n
  one_number m n a b = go (stands es x m a) (stands es x n b)
    where
      go : (s : Stands es x m) (u : Stands es x n) → m ≡ n
      go s u = elim (cases_lt s.index u.index) [
        | inl less ↦ absurd (not_before m n s u less)
        | inr past ↦
            elim (cases_lt u.index s.index) [
              | inl less ↦ absurd (not_before n m u s less)
              | inr upto ↦
                  let same : s.index ≡ u.index = omega (arith, past, upto) in
                  sym (s.number_is none) ∙ ap (λ i. (get_or es i none).1) same ∙ u.number_is none
            ]
      ]

-- the names of the first variants are there with their indices
abbrev pub HoldsUpto : List (Name × ℕ) → List Variant → ℕ → Type 0
HoldsUpto texts vs n =
    (k : ℕ) (v : Variant) → k < n → slice_get vs k ≡ Some v
    → Contains texts (string_bytes v.name, k)

module _ (texts : Named) (vs : List Variant) (n : ℕ) (v : Variant) (name : Bor Name)
    (is : name.now ≡ string_bytes v.name) where
  -- one more has its name and its index
  last_there : (w : Variant) (k : ℕ) → v ≡ w → k ≡ n
      → Contains (entries texts ++ (name.now, n) ∷ []) (string_bytes w.name, k)
  last_there w k same at =
      subst (λ u. Contains (entries texts ++ (name.now, n) ∷ []) (string_bytes u.name, k)) same
      (subst (λ x. Contains (entries texts ++ (name.now, n) ∷ []) (x, k)) is
      (subst (λ i. Contains (entries texts ++ (name.now, n) ∷ []) (name.now, i)) (sym at)
      (Contains-append_right (entries texts) ((name.now, n) ∷ []) (name.now, n)
      (contains_at ((name.now, n) ∷ []) 0 (name.now, n) refl))))

  -- so that of one more is there
  pub holds_more : HoldsUpto (entries texts) vs n → slice_get vs n ≡ Some v
      → HoldsUpto (entries (texts ++ (name, n) ∷ [])) vs (n + 1)
  holds_more before at k w below here =
      let entry : Bor Name × ℕ → Name × ℕ = λ e. (e.0.now, e.1) in
      subst (λ es. Contains es (string_bytes w.name, k)) (sym (map-append entry texts ((name, n) ∷ [])))
      (⊎_elim
      (λ (p : (eqb k n ≡ true) × (k ≡ n)).
      let there : slice_get vs n ≡ Some w = subst (λ i. slice_get vs i ≡ Some w) p.1 here in
      last_there w k (same_Some v w (sym at ∙ there)) p.1)
      (λ (p : (eqb k n ≡ false) × (k ≢ n)).
      Contains-append_left (entries texts) ((name.now, n) ∷ []) (string_bytes w.name, k)
      (before k w (omega (arith, below, p.1)) here))
      (eqb_tells k n))

-- at the end those of all are there
pub holds_all : (texts : List (Name × ℕ)) (vs : List Variant) (n : ℕ) → length vs ≤ n
    → HoldsUpto texts vs n → HoldsVariants texts vs
holds_all texts vs n past upto k v at =
    upto k v (omega (arith, past, slice_get_within vs k v at)) at

-- and stay so in another order
pub holds_sorted : (old new : Named) (vs : List Variant) → IsPermutation old new
    → HoldsVariants (entries old) vs → HoldsVariants (entries new) vs
holds_sorted old new vs same holds k v at =
    let entry : Bor Name × ℕ → Name × ℕ = λ e. (e.0.now, e.1) in
    Contains-permutation (entries old) (entries new) (string_bytes v.name, k)
    (IsPermutation-map entry old new same) (holds k v at)

-- what stands in a list with one more at its end stands in the list, or is that
last_or_earlier : {X : Type 0} (xs : List X) (x y : X) (i : ℕ)
    → slice_get (xs ++ x ∷ []) i ≡ Some y
    → (slice_get xs i ≡ Some y) ⊎ ((i ≡ length xs) × (x ≡ y))
last_or_earlier [] x y zero e = inr (refl, same_Some x y e)
last_or_earlier [] x y (suc i) e = absurd (cc)
last_or_earlier (z ∷ xs) x y zero e = inl e
last_or_earlier (z ∷ xs) x y (suc i) e =
    ⊎_elim (λ (h : slice_get xs i ≡ Some y). inl h)
    (λ (h : (i ≡ length xs) × (x ≡ y)). inr (ap suc h.0, h.1)) (last_or_earlier xs x y i e)

-- where each is the tag of the enum at its index, so is one more
pub tags_more : (shapes : Catalogue) (tags : List (Option TagTable)) (x : Option TagTable)
    → AreTags shapes tags → IfSome x (IsTagTable shapes (length tags))
    → AreTags shapes (tags ++ x ∷ [])
tags_more shapes tags x are is id t at =
    ⊎_elim (λ (h : slice_get tags id ≡ Some (Some t)). are id t h)
    (λ (h : (id ≡ length tags) × (x ≡ Some t)).
    subst (λ i. IsTagTable shapes i t) (sym h.0)
    (subst (λ o. IfSome o (IsTagTable shapes (length tags))) h.1 is))
    (last_or_earlier tags x (Some t) id at)

-- what is found at an index is the tag of the enum there
pub tag_found : (shapes : Catalogue) (tags : List (Option TagTable)) (id : ℕ)
    (x : Option TagTable) (found : Option (Bor TagTable))
    → AreTags shapes tags → slice_get tags id ≡ Some x → option_copied found ≡ x
    → IfSome found (λ tag. IsTagTable shapes id tag.now)
tag_found shapes tags id x None are at is = tt
tag_found shapes tags id x (Some tag) are at is = are id tag.now (at ∙ ap (λ o. Some o) (sym is))
