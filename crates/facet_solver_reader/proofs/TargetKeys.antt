-- Targets as keys of maps are told apart by the order of keys.
use Rattle.std.proofs.Common.{◌≡◌, true, refl, ap, ◌∙◌, subst}
use Rattle.std.specs.declared.cmp.Ordering.{Ordering}
use Rattle.std.specs.declared.cmp.Ordering.TheVariants.{Less, Equal, Greater}
use Rattle.std.specs.Ordering.{is_eq, nat_cmp, ordering_then}
use Rattle.std.specs.Cmp.Lexicographic.{slice_cmp}
use Rattle.std.specs.FinMap.{nat_cmp-IsAntisymmetric, slice_cmp-IsAntisymmetric}
use Rattle.std.proofs.lemmas.Cmp.{eq_by_cmp_equiv, nat_cmp_total, nat_list_cmp_total}
use Rattle.facet_solver_reader.specs.declared.plan.target_key.TargetKey.{TargetKey}
use Rattle.facet_solver_reader.specs.declared.plan.target_key.TargetKey.TheVariants.{Shape, Content, Tag}
use Rattle.facet_solver_reader.specs.contracts.plan.target_key.TargetKeyOrd.TheImpl as order
use Rattle.facet_solver_reader.specs.Parts.{of_shape, of_content, of_tag}
use Rattle.facet_solver_reader.specs.TargetKeys.{key_view}

-- a test that the order passes
equal : (r : Ordering) → is_eq r ≡ true → r ≡ Equal
equal Less e = cc
equal Equal e = refl
equal Greater e = cc

-- both parts of an order that ties
both_equal : (r t : Ordering) → ordering_then r t ≡ Equal → (r ≡ Equal) × (t ≡ Equal)
both_equal Less t e = cc
both_equal Equal t e = (refl, e)
both_equal Greater t e = cc

-- keys that tie are of one target
tied : (x y : TargetKey) → (order.ghosts).cmp x y ≡ Equal → key_view x ≡ key_view y
tied (Shape a) (Shape b) e = ap of_shape (nat_cmp-IsAntisymmetric a b e)
tied (Shape a) (Content b k) e = cc
tied (Shape a) (Tag n) e = cc
tied (Content a j) (Shape b) e = cc
tied (Content a j) (Content b k) e =
    let parts = both_equal (nat_cmp a b) (nat_cmp j k) e in
    ap (λ i. of_content i j) (nat_cmp-IsAntisymmetric a b parts.0)
    ∙ ap (of_content b) (nat_cmp-IsAntisymmetric j k parts.1)
tied (Content a j) (Tag n) e = cc
tied (Tag n) (Shape b) e = cc
tied (Tag n) (Content b k) e = cc
tied (Tag n) (Tag m) e =
    ap of_tag (slice_cmp-IsAntisymmetric nat_cmp-IsAntisymmetric n.now m.now e)

-- keys that pass for equal are of one target
pub same_target : (x y : TargetKey) → is_eq ((order.ghosts).cmp x y) ≡ true
    → key_view x ≡ key_view y
same_target x y e = tied x y (equal ((order.ghosts).cmp x y) e)

-- keys of one target pass for equal
pub same_key : (x y : TargetKey) → key_view x ≡ key_view y
    → is_eq ((order.ghosts).cmp x y) ≡ true
same_key (Shape a) (Shape b) e =
    let same : a ≡ b = cc in
    subst (λ i. is_eq (nat_cmp a i) ≡ true) same ((eq_by_cmp_equiv nat_cmp_total).refl a)
same_key (Shape a) (Content b k) e = cc
same_key (Shape a) (Tag n) e = cc
same_key (Content a j) (Shape b) e = cc
same_key (Content a j) (Content b k) e =
    let first : a ≡ b = cc in
    let second : j ≡ k = cc in
    let here = subst (λ i. is_eq (nat_cmp a i) ≡ true) first ((eq_by_cmp_equiv nat_cmp_total).refl a)
    in
    let there =
    subst (λ i. is_eq (nat_cmp j i) ≡ true) second ((eq_by_cmp_equiv nat_cmp_total).refl j) in
    ap (λ r. is_eq (ordering_then r (nat_cmp j k))) (equal (nat_cmp a b) here) ∙ there
same_key (Content a j) (Tag n) e = cc
same_key (Tag n) (Shape b) e = cc
same_key (Tag n) (Content b k) e = cc
same_key (Tag n) (Tag m) e =
    let same : n.now ≡ m.now = cc in
    subst (λ x. is_eq (slice_cmp nat_cmp n.now x) ≡ true) same
    ((eq_by_cmp_equiv nat_list_cmp_total).refl n.now)
