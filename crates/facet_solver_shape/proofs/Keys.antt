-- The orders of keys and names.
use Rattle.std.proofs.Common.{◌≡◌, true, ℕ, zero, suc, ◌+◌, Option, Some, None, refl, ap, sym, ◌∙◌, arith}
use Rattle.std.specs.declared.cmp.Ordering.{Ordering}
use Rattle.std.specs.declared.cmp.Ordering.TheVariants.{Less, Equal, Greater}
use Rattle.std.specs.Ordering.{nat_cmp, ordering_then}
use Rattle.std.specs.Cmp.{IsTotalOrder}
use Rattle.std.specs.Cmp.Lexicographic.{slice_cmp}
use Rattle.std.proofs.lemmas.Cmp.{then_total, on_total, nat_cmp_total, nat_list_cmp_total, lists_total}
use Rattle.std.specs.FinMap.{IsAntisymmetric, nat_cmp-IsAntisymmetric, slice_cmp-IsAntisymmetric}
use Rattle.facet_solver_shape.specs.declared.resolution.key.FieldCategory.{FieldCategory}
use Rattle.facet_solver_shape.specs.declared.resolution.key.FieldCategory.TheVariants.{Flat, Attribute, Element, Text, Tag, Elements}
use Rattle.facet_solver_shape.specs.declared.resolution.key.FieldKey.{FieldKey}
use Rattle.facet_solver_shape.specs.declared.resolution.key.FieldKey.TheVariants.{Flat as FlatKey, Dom as DomKey}
use Rattle.facet_solver_shape.specs.contracts.resolution.key.FieldKeyOrd.TheImpl as key_order
use Rattle.facet_solver_shape.specs.contracts.resolution.key.FieldCategoryOrd.TheImpl as category_order
use Rattle.facet_solver_shape.specs.contracts.resolution.key.FieldKeyPartialEq.TheImpl as key_equality
use Rattle.std.specs.Ordering.{is_eq}
use Rattle.std.specs.Cmp.Lexicographic.{texts_ties}
use Rattle.facet_solver_shape.proofs.Finite.{equal}
use Rattle.facet_solver_shape.specs.Keys.{Key, rank, key_cmp, key_of, category_index, category_cmp}

pub key_cmp_total : IsTotalOrder key_cmp
key_cmp_total = then_total (on_total (λ (k : Key). rank k.dom) nat_cmp_total) (on_total (λ (k : Key). k.name) nat_list_cmp_total)

both_equal : (r t : Ordering) → ordering_then r t ≡ Equal → (r ≡ Equal) × (t ≡ Equal)
both_equal Less t e = cc
both_equal Equal t e = (refl, e)
both_equal Greater t e = cc

-- the category at an index among the six
category_from : ℕ → FieldCategory
category_from zero = Flat
category_from (suc zero) = Attribute
category_from (suc (suc zero)) = Element
category_from (suc (suc (suc zero))) = Text
category_from (suc (suc (suc (suc zero)))) = Tag
category_from (suc (suc (suc (suc (suc n))))) = Elements

category_back : (c : FieldCategory) → category_from (category_index c) ≡ c
unfolding category_from
category_back Flat = refl
category_back Attribute = refl
category_back Element = refl
category_back Text = refl
category_back Tag = refl
category_back Elements = refl

-- a category is known by its rank
rank_same : (c d : Option FieldCategory) → rank c ≡ rank d → c ≡ d
rank_same None None e = refl
rank_same None (Some d) e = absurd (omega arith)
rank_same (Some c) None e = absurd (omega arith)
rank_same (Some c) (Some d) e =
    let same : category_index c ≡ category_index d = omega arith in
    ap (λ c. Some c) (sym (category_back c) ∙ ap category_from same ∙ category_back d)

pub category_cmp_total : IsTotalOrder category_cmp
category_cmp_total = on_total category_index nat_cmp_total

pub category_cmp_same : IsAntisymmetric category_cmp
category_cmp_same c d e = sym (category_back c) ∙ ap category_from (nat_cmp-IsAntisymmetric (category_index c) (category_index d) e) ∙ category_back d

pub key_cmp_same : IsAntisymmetric key_cmp
key_cmp_same x y e =
    let parts = both_equal (nat_cmp (rank x.dom) (rank y.dom)) (slice_cmp nat_cmp x.name y.name) e in
    let dom = rank_same x.dom y.dom (nat_cmp-IsAntisymmetric (rank x.dom) (rank y.dom) parts.0) in
    let name = slice_cmp-IsAntisymmetric nat_cmp-IsAntisymmetric x.name y.name parts.1 in
    λ i. record { dom = dom i; name = name i }

-- the derived orders are those of the numbers and the names
pub category_agrees : (x y : FieldCategory) → (category_order.ghosts).cmp x y ≡ nat_cmp (category_index x + 1) (category_index y + 1)
category_agrees Flat Flat = refl
category_agrees Flat _ = refl
category_agrees Attribute Flat = refl
category_agrees Attribute _ = refl
category_agrees Element Flat = refl
category_agrees Element _ = refl
category_agrees Text Flat = refl
category_agrees Text _ = refl
category_agrees Tag Flat = refl
category_agrees Tag _ = refl
category_agrees Elements Flat = refl
category_agrees Elements _ = refl

pub category_cmp_agrees : (x y : FieldCategory) → (category_order.ghosts).cmp x y ≡ category_cmp x y
category_cmp_agrees Flat Flat = refl
category_cmp_agrees Flat _ = refl
category_cmp_agrees Attribute Flat = refl
category_cmp_agrees Attribute _ = refl
category_cmp_agrees Element Flat = refl
category_cmp_agrees Element _ = refl
category_cmp_agrees Text Flat = refl
category_cmp_agrees Text _ = refl
category_cmp_agrees Tag Flat = refl
category_cmp_agrees Tag _ = refl
category_cmp_agrees Elements Flat = refl
category_cmp_agrees Elements _ = refl

flat_first : (x : FieldCategory) → Less ≡ nat_cmp 0 (category_index x + 1)
flat_first Flat = refl
flat_first _ = refl

dom_last : (x : FieldCategory) → Greater ≡ nat_cmp (category_index x + 1) 0
dom_last Flat = refl
dom_last _ = refl

pub key_agrees : (x y : FieldKey) → (key_order.ghosts).cmp x y ≡ key_cmp (key_of x) (key_of y)
key_agrees (FlatKey n) (FlatKey m) = refl
key_agrees (FlatKey n) (DomKey d m) = ap (λ r. ordering_then r (slice_cmp nat_cmp n.now m.now)) (flat_first d)
key_agrees (DomKey c n) (FlatKey m) = ap (λ r. ordering_then r (slice_cmp nat_cmp n.now m.now)) (dom_last c)
key_agrees (DomKey c n) (DomKey d m) = ap (λ r. ordering_then r (slice_cmp nat_cmp n.now m.now)) (category_agrees c d)

pub name_cmp_same : IsAntisymmetric (slice_cmp nat_cmp)
name_cmp_same = slice_cmp-IsAntisymmetric nat_cmp-IsAntisymmetric

pub path_cmp_total : IsTotalOrder (slice_cmp (slice_cmp nat_cmp))
path_cmp_total = lists_total nat_list_cmp_total

pub path_cmp_same : IsAntisymmetric (slice_cmp (slice_cmp nat_cmp))
path_cmp_same = slice_cmp-IsAntisymmetric name_cmp_same

-- `==` tells whether the order ties two keys
key_eq_by_cmp : (x y : FieldKey) → (key_equality.ghosts).eq x y ≡ is_eq ((key_order.ghosts).cmp x y)
key_eq_by_cmp (FlatKey n) (FlatKey m) = texts_ties n.now m.now
key_eq_by_cmp (FlatKey n) (DomKey d m) = refl
key_eq_by_cmp (DomKey c n) (FlatKey m) = refl
key_eq_by_cmp (DomKey Flat n) (DomKey Flat m) = texts_ties n.now m.now
key_eq_by_cmp (DomKey Flat n) (DomKey _ m) = refl
key_eq_by_cmp (DomKey Attribute n) (DomKey Attribute m) = texts_ties n.now m.now
key_eq_by_cmp (DomKey Attribute n) (DomKey _ m) = refl
key_eq_by_cmp (DomKey Element n) (DomKey Element m) = texts_ties n.now m.now
key_eq_by_cmp (DomKey Element n) (DomKey _ m) = refl
key_eq_by_cmp (DomKey Text n) (DomKey Text m) = texts_ties n.now m.now
key_eq_by_cmp (DomKey Text n) (DomKey _ m) = refl
key_eq_by_cmp (DomKey Tag n) (DomKey Tag m) = texts_ties n.now m.now
key_eq_by_cmp (DomKey Tag n) (DomKey _ m) = refl
key_eq_by_cmp (DomKey Elements n) (DomKey Elements m) = texts_ties n.now m.now
key_eq_by_cmp (DomKey Elements n) (DomKey _ m) = refl

-- the order ties exactly the keys that are equal
pub key_ties_equal : (x y : FieldKey) → ((key_order.ghosts).cmp x y ≡ Equal → (key_equality.ghosts).eq x y ≡ true) × ((key_equality.ghosts).eq x y ≡ true → (key_order.ghosts).cmp x y ≡ Equal)
key_ties_equal x y = (λ tie. key_eq_by_cmp x y ∙ ap is_eq tie, λ same. equal ((key_order.ghosts).cmp x y) (sym (key_eq_by_cmp x y) ∙ same))
