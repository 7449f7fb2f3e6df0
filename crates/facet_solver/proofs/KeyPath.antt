-- Key paths, by the path to a key and the key apart.
use Rattle.std.proofs.Common.{◌≡◌, Bool, true, false, ◌&&◌, List, [], ◌∷◌, ◌++◌, nat_eq, refl, ap, sym, ◌∙◌}
use Rattle.std.proofs.lemmas.Bool.{and_right}
use Rattle.std.proofs.lemmas.List.{map-append}
use Rattle.std.specs.Ordering.{nat_cmp}
use Rattle.std.specs.Cmp.Lexicographic.{slice_cmp, lists_ties, texts_ties}
use denote.Bor.{Bor}
use lib.Pointwise.{pointwise}
use Rattle.facet_solver_shape.specs.Names.{Name, name_eq, names_of}
use Rattle.facet_solver_shape.specs.Paths.{key_path_eq}
use Rattle.facet_solver_shape.proofs.Finite.{equal}
use Rattle.facet_solver_shape.proofs.Keys.{path_cmp_same}
use Rattle.facet_solver_shape.proofs.Resolved.{names_agree}

swap : (a b c : Bool) → (a && (b && c)) ≡ (b && (a && c))
swap true true c = refl
swap true false c = refl
swap false true c = refl
swap false false c = refl

-- no key path is empty that ends in a key
not_empty : (path : List Name) (key : Name) → key_path_eq (path ++ key ∷ []) [] ≡ false
not_empty [] key = refl
not_empty (n ∷ path) key = refl

empty_not : (path : List Name) (key : Name) → key_path_eq [] (path ++ key ∷ []) ≡ false
empty_not [] key = refl
empty_not (n ∷ path) key = refl

-- two key paths are equal where their last keys are, and what stands before these
same_ends : (path before : List Name) (key last : Name) → key_path_eq (path ++ key ∷ []) (before ++ last ∷ []) ≡ (name_eq key last && key_path_eq path before)
same_ends [] [] key last = refl
same_ends [] (m ∷ before) key last =
    ap (λ b. name_eq key m && b) (empty_not before last)
    ∙ and_right (name_eq key m) false refl
    ∙ sym (and_right (name_eq key last) false refl)
same_ends (n ∷ path) [] key last =
    ap (λ b. name_eq n last && b) (not_empty path key)
    ∙ and_right (name_eq n last) false refl
    ∙ sym (and_right (name_eq key last) false refl)
same_ends (n ∷ path) (m ∷ before) key last =
    ap (λ b. name_eq n m && b) (same_ends path before key last)
    ∙ swap (name_eq n m) (name_eq key last) (key_path_eq path before)

-- the same of names behind references, where one path has its last name apart
pub is_path_to : (path before known : List (Bor Name)) (key : Name) (last : Bor Name) → known ≡ before ++ last ∷ []
    → (name_eq key last.now && pointwise (λ (x y : Bor Name). pointwise nat_eq x.now y.now) path before) ≡ key_path_eq (names_of path ++ key ∷ []) (names_of known)
is_path_to path before known key last is =
    ap (λ b. name_eq key last.now && b) (names_agree path before)
    ∙ sym (same_ends (names_of path) (names_of before) key last.now)
    ∙ ap (key_path_eq (names_of path ++ key ∷ [])) (sym (map-append (λ (n : Bor Name). n.now) before (last ∷ [])) ∙ ap names_of (sym is))

-- equal key paths are one
pub key_path_same : (p q : List Name) → key_path_eq p q ≡ true → p ≡ q
key_path_same p q e = path_cmp_same p q (equal (slice_cmp (slice_cmp nat_cmp) p q) (sym (lists_ties (slice_cmp nat_cmp) texts_ties p q) ∙ e))
