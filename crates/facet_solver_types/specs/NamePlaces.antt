-- The places of names.
use Rattle.std.specs.Prelude.{◌≡◌, ℕ, ◌+◌, ◌<◌, ◌≤◌, Bool, if◌then◌else◌, List, [], ◌∷◌, ◌++◌, drop, length, slice_index, slice_index_or}
use Rattle.std.specs.BTreeMap.{BTreeMap, get_by}
use Rattle.std.specs.Cmp.Lexicographic.{slice_cmp}
use Rattle.std.specs.List.{list_any}
use Rattle.std.specs.Option.{unwrap_or}
use Rattle.std.specs.Ordering.{nat_cmp}
use denote.Bor.{Bor}
use Rattle.facet_solver_shape.specs.Names.{Name, name_eq}
use Rattle.facet_solver_types.specs.Links.{place_in}

-- whether a name is one of some
abbrev pub has_name : List Name → Name → Bool
has_name names name = list_any (λ one. name_eq one name) names

-- the places of a name among names, the first of which has a place
abbrev pub places_from : ℕ → Name → List Name → List ℕ
places_from place name [] = []
places_from place name (one ∷ others) =
    (if name_eq one name then place ∷ [] else []) ++ places_from (place + 1) name others

-- the places of a name
abbrev pub places_of : Name → List Name → List ℕ
places_of name names = places_from 0 name names

-- the first place of a name, from a place on, or else the number of names
abbrev pub next_place : List Name → ℕ → Name → ℕ
next_place names place name = place + place_in (drop place names) name

-- what a map has for a name, or else a number
abbrev pub place_or : BTreeMap (Bor Name) ℕ → Name → ℕ → ℕ
place_or first name count = unwrap_or (get_by (λ k. slice_cmp nat_cmp name k.now) first) count

-- a map has the first place of each name, of those from a place on
abbrev pub HasFirst : List Name → ℕ → BTreeMap (Bor Name) ℕ → Type 0
HasFirst names place first =
    (name : Name) → place_or first name (length names) ≡ next_place names place name

-- numbers are as many as names, and for each place from one on the next one of the same name
pub record HasNext (names : List Name) (place : ℕ) (next : List ℕ) : Type 0 where
  pub long : length next ≡ length names
  pub told : (k : ℕ) (d : Name) → place ≤ k → k < length names
      → slice_index next k ≡ next_place names (k + 1) (slice_index_or names k d)
