-- Places in a document, as lists of steps, and the value at each.
use Rattle.std.specs.Prelude.{◌≡◌, ℕ, List, [], ◌∷◌, ◌++◌, map, codes, Option, Some, None, slice_get, false}
use Rattle.std.specs.List.{flat_map}
use Rattle.std.specs.Option.{option_and_then}
use Rattle.std.specs.Fmt.{decimal}
use Rattle.std.specs.Cmp.Lexicographic.{slice_cmp}
use Rattle.std.specs.Ordering.{is_lt, nat_cmp}
use Rattle.facet_solver_shape.specs.Catalogues.{RepeatsName}
use Rattle.facet_solver_shape.specs.Names.{Name}
use Rattle.facet_solver_reader.specs.declared.place.PlaceSegment.{PlaceSegment}
use Rattle.facet_solver_reader.specs.declared.place.PlaceSegment.TheVariants.{Name as NameSegment, Index}
use Rattle.facet_solver_reader.specs.Documents.{Tree, list, object, items, Member, Members, members}
use Rattle.facet_solver_reader.specs.Objects.{find}

-- a step into a value: to the member of a name, or to an item of a list
pub data PlaceStep : Type 0 where
  to_member : Name → PlaceStep
  to_item : ℕ → PlaceStep

-- the step that a segment says, wherever its name lies
abbrev pub step_of : PlaceSegment → PlaceStep
step_of (NameSegment name) = to_member name.now
step_of (Index k) = to_item k

-- the value to which a step leads
abbrev pub inside : Tree → PlaceStep → Option Tree
inside (object ms) (to_member x) = find (members ms) x
inside (list ts) (to_item k) = slice_get (items ts) k
inside _ _ = None

-- the value at a place of a document
abbrev pub at : Tree → List PlaceStep → Option Tree
at v [] = Some v
at v (s ∷ rest) = option_and_then (λ w. at w rest) (inside v s)

-- the text of a step
abbrev pub step_text : PlaceStep → List ℕ
step_text (to_member x) = x
step_text (to_item k) = decimal k

-- the text of a place: its steps with dots between them
abbrev pub place_text : List PlaceStep → List ℕ
place_text [] = codes "the document"
place_text (s ∷ rest) = step_text s ++ flat_map (λ t. codes "." ++ step_text t) rest

-- the names of members
abbrev pub names_in : List Member → List Name
names_in ms = map (λ m. m.name) ms

-- two of the names are this one
pub record IsRepeated (names : List Name) (x : Name) : Type 0 where
  pub twice : RepeatsName names
  pub name_is : twice.name ≡ x

-- of the names that stand twice this is the least by its bytes
pub record IsLeastRepeated (names : List Name) (x : Name) : Type 0 where
  pub repeated : IsRepeated names x
  pub least : (y : Name) → IsRepeated names y → is_lt (slice_cmp nat_cmp y x) ≡ false

-- a place is that of the least name which stands twice in the object around it
pub record IsNameTwice (v : Tree) (place : List PlaceStep) : Type 0 where
  pub around : List PlaceStep
  pub name : Name
  pub inner : Members
  pub object_at : at v around ≡ Some (object inner)
  pub twice : IsLeastRepeated (names_in (members inner)) name
  pub place_is : place ≡ around ++ to_member name ∷ []

-- no name stands twice in an object, anywhere in a document
abbrev pub NamesStandOnce : Tree → Type 0
NamesStandOnce v = (place : List PlaceStep) (ms : Members)
    → at v place ≡ Some (object ms) → ¬ RepeatsName (names_in (members ms))
