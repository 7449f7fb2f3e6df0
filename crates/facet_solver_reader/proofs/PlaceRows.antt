-- Where values of a document stand, and which names stand twice: the definitions, row by row.
use Rattle.std.proofs.Common.{◌≡◌, ℕ, zero, suc, false, List, [], ◌∷◌, Some, None, slice_get, refl, sym, ap, subst, ◌∙◌, arith, codes}
use Rattle.std.proofs.lemmas.Bool.{false≢true}
use Rattle.std.specs.Cmp.Lexicographic.{slice_cmp}
use Rattle.std.specs.Ordering.{is_lt, nat_cmp}
use Rattle.facet_solver_shape.specs.Catalogues.{RepeatsName}
use Rattle.facet_solver_shape.specs.Names.{Name, name_eq}
use Rattle.facet_solver_reader.specs.Documents.{Members, Tree, item, list, member, no_items, no_members, null, number, object, truth}
use Rattle.facet_solver_reader.specs.Nodes.{AreByName}
use Rattle.facet_solver_reader.specs.Places.{IsLeastRepeated, IsNameTwice, IsRepeated, PlaceStep, at, to_item, to_member}
use Rattle.facet_solver_reader.specs.Readers.{HasNoCount}
use Rattle.facet_solver_reader.specs.declared.nodes.DocumentError.TheVariants as document
use Rattle.facet_solver_reader.proofs.SampleTypes.{document_a, five}

-- places lead into objects by names, and into lists by indices
pub at_rows :
    (at document_a [] ≡ Some document_a)
    × (at document_a (to_member (codes "a") ∷ []) ≡ Some (number five))
    × (at document_a (to_member (codes "b") ∷ []) ≡ None)
    × (at document_a (to_item 0 ∷ []) ≡ None)
    × (at (list (item null (item (truth false) no_items))) (to_item 1 ∷ []) ≡ Some (truth false))
    × (at (list (item null no_items)) (to_item 1 ∷ []) ≡ None)
    × (at null (to_member (codes "a") ∷ []) ≡ None)
at_rows = (refl, refl, refl, refl, refl, refl, refl)

-- the names of a document in which `a` stands twice
abbrev names : List Name
names = codes "a" ∷ codes "a" ∷ []

a_repeated : IsRepeated names (codes "a")
a_repeated = record {
  twice = record {
    name = codes "a";
    first = 0;
    second = 1;
    apart = omega arith;
    at_first = refl;
    at_second = refl;
  };
  name_is = refl;
}

-- what is repeated there is `a`
is_a : (y : Name) → IsRepeated names y → codes "a" ≡ y
is_a y h = go h.twice.first h.twice.at_first ∙ h.name_is
  where
    go : (i : ℕ) → slice_get names i ≡ Some h.twice.name → codes "a" ≡ h.twice.name
    go zero is = cc
    go (suc zero) is = cc
    go (suc (suc i)) is = let no : ⊥ = cc in absurd no

-- `a` is repeated, and `b` is not; nothing is in a list of one name
pub repeated_rows :
    IsRepeated names (codes "a")
    × (¬ (IsRepeated names (codes "b")))
    × IsLeastRepeated names (codes "a")
    × (¬ (IsLeastRepeated names (codes "b")))
repeated_rows = (a_repeated, not_b, record { repeated = a_repeated; least = least }, λ h. not_b h.repeated)
  where
    not_b : ¬ (IsRepeated names (codes "b"))
    not_b h = false≢true (ap (λ x. name_eq x (codes "b")) (is_a (codes "b") h))

    least : (y : Name) → IsRepeated names y → is_lt (slice_cmp nat_cmp y (codes "a")) ≡ false
    least y h = subst (λ x. is_lt (slice_cmp nat_cmp x (codes "a")) ≡ false) (is_a y h) refl

-- `{"a": 5, "a": 5}`
abbrev doubled : Tree
doubled = object (member (codes "a") (number five) (member (codes "a") (number five) no_members))

-- its name stands twice, at its member
pub name_twice_holds :
    IsNameTwice doubled (to_member (codes "a") ∷ [])
    × HasNoCount doubled document.OutOfMemory
name_twice_holds = (
  record {
    around = [];
    name = codes "a";
    inner = member (codes "a") (number five) (member (codes "a") (number five) no_members);
    object_at = refl;
    twice = repeated_rows.2;
    place_is = refl;
  },
  tt,
)

-- a number has no object with a name
pub name_twice_fails : (place : List PlaceStep) → ¬ (IsNameTwice (number five) place)
name_twice_fails place h = go h.around h.object_at
  where
    go : (around : List PlaceStep) → ¬ (at (number five) around ≡ Some (object h.inner))
    go [] is = cc
    go (to_member x ∷ rest) is = cc
    go (to_item k ∷ rest) is = cc
