-- The text of a path, and equality of paths, by their segments.
use Rattle.std.proofs.Common.{◌≡◌, List, [], ◌∷◌, ◌++◌, map, codes, refl, ap, Bool, true, false, ◌&&◌, subst}
use Rattle.std.specs.List.{flat_map}
use Rattle.facet_solver_shape.specs.declared.resolution.path.PathSegment.{PathSegment}
use Rattle.facet_solver_shape.specs.Paths.{segment_of, segment_text, path_text, Segment, by_field, by_variant, segment_eq, segment_eq_equiv, path_eq}
use Rattle.facet_solver_shape.proofs.Lists.{flat_map-map}
use lib.Pointwise.{pointwise, pointwise_decides, bytes_decides}
use Rattle.std.proofs.lemmas.Bool.{false≢true}
use Rattle.facet_solver_shape.specs.Names.{Name, name_eq}
use Rattle.facet_solver_shape.specs.declared.resolution.path.PathSegment.TheVariants.{Field, Variant}
use Rattle.facet_solver_shape.specs.contracts.resolution.path.PathSegmentPartialEq.TheImpl as segments

pub text_of_segments : (s : PathSegment) (rest : List PathSegment) → segment_text (segment_of s) ++ flat_map (λ t. codes "." ++ segment_text (segment_of t)) rest ≡ path_text (map segment_of (s ∷ rest))
text_of_segments s rest = ap (λ ys. segment_text (segment_of s) ++ ys) (flat_map-map (λ t. codes "." ++ segment_text t) segment_of rest)

pub segment_agrees : (x y : PathSegment) → (segments.ghosts).eq x y ≡ segment_eq (segment_of x) (segment_of y)
segment_agrees (Field a) (Field b) = refl
segment_agrees (Field a) (Variant b w) = refl
segment_agrees (Variant a v) (Field b) = refl
segment_agrees (Variant a v) (Variant b w) = refl

pub path_agrees : (xs ys : List PathSegment) → pointwise (segments.ghosts).eq xs ys ≡ path_eq (map segment_of xs) (map segment_of ys)
path_agrees [] [] = refl
path_agrees [] (y ∷ ys) = refl
path_agrees (x ∷ xs) [] = refl
path_agrees (x ∷ xs) (y ∷ ys) = λ i. segment_agrees x y i && path_agrees xs ys i

name_decides : (a b : Name) → (name_eq a b ≡ true → a ≡ b) × (a ≡ b → name_eq a b ≡ true)
name_decides = bytes_decides

both_true : (a b : Bool) → (a && b) ≡ true → (a ≡ true) × (b ≡ true)
both_true true b e = (refl, e)
both_true false b e = absurd (false≢true e)

same_step : (s t : Segment) → segment_eq s t ≡ true → s ≡ t
same_step (by_field a) (by_field b) e = ap by_field ((name_decides a b).0 e)
same_step (by_field a) (by_variant b w) e = absurd (false≢true e)
same_step (by_variant a v) (by_field b) e = absurd (false≢true e)
same_step (by_variant a v) (by_variant b w) e =
    let parts = both_true (name_eq a b) (name_eq v w) e in
    λ i. by_variant ((name_decides a b).0 parts.0 i) ((name_decides v w).0 parts.1 i)

-- two paths are equal exactly if their segments are
pub path_decides : (a b : List Segment) → (path_eq a b ≡ true → a ≡ b) × (a ≡ b → path_eq a b ≡ true)
path_decides = pointwise_decides (λ s t. (same_step s t, λ e. subst (λ u. segment_eq s u ≡ true) e (segment_eq_equiv.refl s)))
