-- The values of a document, by numbers.
use Rattle.std.specs.Prelude.{◌≡◌, ◌+◌, ◌<◌, ◌≤◌, ℕ, ⊤, List, [], ◌∷◌, ◌++◌, map, length, take, drop, slice_get, slice_index, slice_index_or, Some, IsPermutation, IsSorted}
use Rattle.std.specs.Borrow.{Bor}
use Rattle.facet_solver_shape.specs.Catalogues.{RepeatsName}
use Rattle.facet_solver_shape.specs.Names.{Name, name_ref_cmp, names_of}
use Rattle.facet_solver_reader.specs.declared.nodes.Node as code_node
use Rattle.facet_solver_reader.specs.declared.nodes.Opening.{Opening}
use Rattle.facet_solver_reader.specs.declared.nodes.Nodes.{Nodes}
use Rattle.facet_solver_reader.specs.declared.nodes.DocumentError.{DocumentError}
use Rattle.facet_solver_reader.specs.declared.nodes.DocumentError.TheVariants.{NameTwice, OutOfMemory}
use Rattle.facet_solver_reader.specs.Documents.{Tree, null, list, object, items, Member, Members, members, view}
use Rattle.facet_solver_reader.specs.Places.{IsNameTwice}

-- the values right inside a value, in order
abbrev pub children : Tree → List Tree
children (list ts) = items ts
children (object ms) = map (λ m. m.value) (members ms)
children _ = []

-- the members of a value, in order
abbrev pub members_in : Tree → List Member
members_in (object ms) = members ms
members_in _ = []

-- a value, and the number of the value around it
pub record Node : Type 0 where
  pub value : Tree
  pub parent : ℕ

-- values in memory
abbrev pub nodes_view : List code_node.Node → List Node
nodes_view ns = map (λ n. record { value = view n.document.now; parent = n.parent }) ns

-- values in the order of their numbers
abbrev pub values_in : List Node → List Tree
values_in ns = map (λ n. n.value) ns

-- the values right inside the value of a number
abbrev pub under : ℕ → List Tree → List Node
under parent vs = map (λ v. record { value = v; parent = parent }) vs

-- names in memory, each with a number
abbrev pub Named : Type 0
Named = List (Bor Name × ℕ)

-- the names of numbers
abbrev pub names_among : Named → List (Bor Name)
names_among es = map (λ e. e.0) es

-- what names in memory say, each with its number
abbrev pub entries : Named → List (Name × ℕ)
entries es = map (λ e. (e.0.now, e.1)) es

-- the names of members, each with the number of its value, from the number of the first on
abbrev pub numbered : ℕ → List Member → List (Name × ℕ)
numbered first [] = []
numbered first (m ∷ ms) = (m.name, first) ∷ numbered (first + 1) ms

-- names are sorted, and each is there once
pub record AreByName (es : Named) : Type 0 where
  pub sorted : IsSorted name_ref_cmp (names_among es)
  pub apart : ¬ RepeatsName (names_of (names_among es))

-- names in memory are those of members, sorted by name, where each name stands once
pub record AreNamesOf (ms : List Member) (first : ℕ) (es : Named) : Type 0 where
  pub same : IsPermutation (numbered first ms) (entries es)
  pub by_name : AreByName es

-- what is inside a value stands where its opening says: its children from a number on, and, if it
-- is an object, its members by name from an index on
pub record IsOpened (ns : List Node) (es : Named) (o : Opening) (v : Tree) : Type 0 where
  pub children_at : (k : ℕ) (c : Tree) → slice_get (children v) k ≡ Some c
      → slice_get (values_in ns) (o.first + k) ≡ Some c
  pub within : o.names + length (members_in v) ≤ length es
  pub names_are : AreNamesOf (members_in v) o.first (take (length (members_in v)) (drop o.names es))

-- the value of a number is right inside the value of a lower number, which has an opening
pub record IsInside (ns : List Node) (os : List Opening) (number : ℕ) (n : Node) : Type 0 where
  pub opening : Opening
  pub around : Tree
  pub index : ℕ
  pub earlier : n.parent < number
  pub opening_at : slice_get os n.parent ≡ Some opening
  pub around_at : slice_get (values_in ns) n.parent ≡ Some around
  pub number_is : opening.first + index ≡ number
  pub child_at : slice_get (children around) index ≡ Some n.value

-- values are numbered, of which the first ones are opened
pub record AreNumbered (ns : List Node) (os : List Opening) (es : Named) : Type 0 where
  pub opened : (i : ℕ) (o : Opening) (v : Tree) → slice_get os i ≡ Some o
      → slice_get (values_in ns) i ≡ Some v → IsOpened ns es o v
  pub inside : (i : ℕ) (n : Node) → slice_get ns i ≡ Some n → 0 < i → IsInside ns os i n
  pub upto : length os ≤ length ns

-- the values of nodes
abbrev pub nodes_of : Nodes → List Node
nodes_of nodes = nodes_view nodes.nodes.items

-- nodes are numbered, of which the first ones are opened
abbrev pub IsNumberedSoFar : Nodes → Type 0
IsNumberedSoFar nodes = AreNumbered (nodes_of nodes) nodes.openings.items nodes.by_name.items

-- how many values there are
abbrev pub count : Nodes → ℕ
count nodes = length nodes.nodes.items

-- how many of them are opened
abbrev pub opened : Nodes → ℕ
opened nodes = length nodes.openings.items

-- the value of a number below their count
abbrev pub value_of : Nodes → ℕ → Tree
value_of nodes i = slice_index_or (values_in (nodes_of nodes)) i null

-- the number of the value around the value of a number
abbrev pub parent_of : Nodes → ℕ → ℕ
parent_of nodes i = slice_index (map (λ n. n.parent) (nodes_of nodes)) i

-- the number of the first value inside the value of a number
abbrev pub first_in : Nodes → ℕ → ℕ
first_in nodes i = slice_index (map (λ o. o.first) nodes.openings.items) i

-- names are added whose entries are these
pub record IsAppended (old new : Named) (es : List (Name × ℕ)) : Type 0 where
  pub names : Named
  pub is : new ≡ old ++ names
  pub entries_are : entries names ≡ es

-- the members of an object are added by name
pub record AreAddedByName (old new : Nodes) (ms : Members) : Type 0 where
  pub nodes_are : nodes_of new ≡ nodes_of old
  pub openings_are : new.openings.items ≡ old.openings.items
  pub names : Named
  pub by_name_is : new.by_name.items ≡ old.by_name.items ++ names
  pub names_are : AreNamesOf (members ms) (count old) names

-- what is inside the value of a number is added: its children, and its members by name
pub record IsAdded (old new : Nodes) (number : ℕ) (v : Tree) : Type 0 where
  pub nodes_are : nodes_of new ≡ nodes_of old ++ under number (children v)
  pub openings_are : new.openings.items ≡ old.openings.items
  pub names : Named
  pub by_name_is : new.by_name.items ≡ old.by_name.items ++ names
  pub names_are : AreNamesOf (members_in v) (count old) names

-- all values of a document are numbered, each is opened, and the root has the number 0
pub record IsNumbering (nodes : Nodes) : Type 0 where
  pub under_way : IsNumberedSoFar nodes
  pub all_opened : opened nodes ≡ count nodes
  pub root : 0 < count nodes

-- why a document has no numbering: a name that stands twice, where it does, or refused memory
abbrev pub IsWhy : Tree → DocumentError → Type 0
IsWhy document (NameTwice place) = IsNameTwice document place
IsWhy document OutOfMemory = ⊤
