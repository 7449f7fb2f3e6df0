-- Paths as lists of segments, whose names are lists of bytes, and their equality.
use Rattle.std.specs.Prelude.{ℕ, List, [], ◌∷◌, ◌++◌, codes, ◌≡◌, Bool, true, false, ◌&&◌, refl}
use Rattle.std.specs.List.{flat_map}
use Rattle.facet_solver_shape.specs.Names.{Name, name_eq}
use Rattle.facet_solver_shape.specs.declared.resolution.path.PathSegment.{PathSegment}
use Rattle.facet_solver_shape.specs.declared.resolution.path.PathSegment.TheVariants.{Field, Variant}
use Rattle.std.proofs.lemmas.Bool.{false≢true}
use lib.Pointwise.{pointwise}
use Rattle.std.specs.Cmp.{IsEquivalence}
use Rattle.std.specs.Cmp.Lexicographic.{nat_list_eq_equiv, lists_equiv}

-- one segment of a path
pub data Segment : Type 0 where
  by_field : Name → Segment
  by_variant : Name → Name → Segment

-- what a segment says, wherever its names lie
abbrev pub segment_of : PathSegment → Segment
segment_of (Field name) = by_field name.now
segment_of (Variant field variant) = by_variant field.now variant.now

-- the text of a segment
abbrev pub segment_text : Segment → List ℕ
segment_text (by_field name) = name
segment_text (by_variant field variant) = field ++ (codes "::" ++ variant)

-- the text of a path: its segments with dots between them
abbrev pub path_text : List Segment → List ℕ
path_text [] = codes "<root>"
path_text (s ∷ rest) = segment_text s ++ flat_map (λ t. codes "." ++ segment_text t) rest

-- whether two segments are of one form and have the same names
abbrev pub segment_eq : Segment → Segment → Bool
segment_eq (by_field a) (by_field b) = name_eq a b
segment_eq (by_variant a v) (by_variant b w) = name_eq a b && name_eq v w
segment_eq _ _ = false

-- whether two paths have the same segments
abbrev pub path_eq : List Segment → List Segment → Bool
path_eq = pointwise segment_eq

-- whether two key paths have the same names
abbrev pub key_path_eq : List Name → List Name → Bool
key_path_eq = pointwise name_eq

-- that of segments is an equivalence
pub segment_eq_equiv : IsEquivalence segment_eq
segment_eq_equiv = record { refl = itself; symm = either_way; congr = alike }
  where
    both : (a b : Bool) → a ≡ true → b ≡ true → (a && b) ≡ true
    both true b p q = q
    both false b p q = p

    parts : (a b : Bool) → (a && b) ≡ true → (a ≡ true) × (b ≡ true)
    parts true b p = (refl, p)
    parts false b p = absurd (false≢true p)

    itself : (x : Segment) → segment_eq x x ≡ true
    itself (by_field a) = nat_list_eq_equiv.refl a
    itself (by_variant a v) = both _ _ (nat_list_eq_equiv.refl a) (nat_list_eq_equiv.refl v)

    either_way : (x y : Segment) → segment_eq x y ≡ segment_eq y x
    either_way (by_field a) (by_field b) = nat_list_eq_equiv.symm a b
    either_way (by_field a) (by_variant b w) = refl
    either_way (by_variant a v) (by_field b) = refl
    either_way (by_variant a v) (by_variant b w) =
        λ i. nat_list_eq_equiv.symm a b i && nat_list_eq_equiv.symm v w i

    alike : (x y z : Segment) → segment_eq x y ≡ true → segment_eq x z ≡ segment_eq y z
    alike (by_field a) (by_field b) (by_field c) p = nat_list_eq_equiv.congr a b c p
    alike (by_field a) (by_field b) (by_variant c u) p = refl
    alike (by_field a) (by_variant b w) z p = absurd (false≢true p)
    alike (by_variant a v) (by_field b) z p = absurd (false≢true p)
    alike (by_variant a v) (by_variant b w) (by_field c) p = refl
    alike (by_variant a v) (by_variant b w) (by_variant c u) p =
        let q = parts (name_eq a b) (name_eq v w) p in
        λ i. nat_list_eq_equiv.congr a b c q.0 i && nat_list_eq_equiv.congr v w u q.1 i

-- that of paths is an equivalence
pub path_eq_equiv : IsEquivalence path_eq
path_eq_equiv = lists_equiv segment_eq_equiv
