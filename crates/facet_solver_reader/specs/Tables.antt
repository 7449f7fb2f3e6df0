-- What tables hold of a type.
use Rattle.std.specs.Prelude.{not, ◌≡◌, ◌↔◌, ◌<◌, ◌+◌, ℕ, Bool, IsTrue, IsSorted, List, All, Some, MatchOption, slice_get, length, ⊤}
use Rattle.std.specs.List.{list_any}
use Rattle.std.specs.List.Sorted.{IsStrictlyIncreasing}
use Rattle.std.specs.Str.{bytes_eq}
use Rattle.facet_solver_shape.specs.Names.{name_ref_cmp}
use Rattle.facet_solver_reader.specs.declared.tables.List.{List as ListEntry}
use Rattle.facet_solver_reader.specs.declared.end.End as code
use Rattle.facet_solver_reader.specs.declared.tables.Tables.{Tables}
use Rattle.facet_solver_reader.specs.Documents.{Member}
use Rattle.facet_solver_reader.specs.Known.{Chooses, HasChoice, IsDistinct, IsKnown, Key, named, rest}
use Rattle.facet_solver_reader.specs.Parts.{of_map, of_anything, ListId, Part, a_member, a_selection, a_catch_all, Target, of_shape, of_content, of_tag}
use Rattle.facet_solver_reader.specs.Reached.{IsRanked}
use Rattle.facet_solver_reader.specs.Rules.{Rules, End, Content, no_content, as_shape, as_tuple, as_object, an_option, a_list, a_tuple, a_map, an_object, a_named_variant, an_untagged_variant}
use Rattle.facet_solver_reader.specs.SelectionNames.{PartHasBranchNames}
use Rattle.facet_solver_reader.specs.Slots.{index_of}
use Rattle.facet_solver_reader.specs.Tags.{AreTags}
use Rattle.facet_solver_reader.specs.Types.{rules_of}
use Rattle.facet_solver_reader.specs.Views.{end_view, list_view, parts_view}

-- the rules of the type that tables are of
abbrev pub rules_at : Tables → Rules
rules_at t = rules_of t.shapes.now t.strict

-- whether the choices of a list have the key
abbrev pub knows : ListEntry → Key → Bool
knows l (named x) = list_any (λ n. bytes_eq n.now x) l.names.items
knows l rest = l.takes_rest

-- whether an object has a member of a name that no choice of a list has
abbrev pub has_unknown : ListEntry → List Member → Bool
has_unknown l ms = list_any (λ m. not (knows l (named m.name))) ms

-- a list of the tables has the name
pub record IsListOf (t : Tables) (id : ListId) (l : ListEntry) : Type 0 where
  pub index : ℕ
  pub listed : slice_get t.lists.items index ≡ Some l
  pub same : list_view l.id ≡ id

-- the list at an index is of the name
pub record IsListAt (t : Tables) (id : ListId) (index : ℕ) : Type 0 where
  pub entry : ListEntry
  pub is_there : slice_get t.lists.items index ≡ Some entry
  pub same : list_view entry.id ≡ id

-- a list has its index in the tables, or has no choice
abbrev pub ListIsServed : Tables → ListId → Type 0
ListIsServed t id =
    MatchOption (index_of t.slots id) (HasChoice (Chooses (rules_at t).lists id) → ⊥)
    (IsListAt t id)

-- the tables have what the shape at an index comes to
abbrev pub ShapeIsServed : Tables → ℕ → Type 0
ShapeIsServed t id = (e : code.End) × (slice_get t.ends.items id ≡ Some (Some e))

-- the tables have what content leads to
abbrev pub ContentIsServed : Tables → Content → Type 0
ContentIsServed t no_content = ⊤
ContentIsServed t (as_shape id) = ShapeIsServed t id
ContentIsServed t (as_tuple ids) = All (ShapeIsServed t) ids
ContentIsServed t (as_object id) = ListIsServed t id

-- the tables have what a target leads to
abbrev pub IsServed : Tables → Target → Type 0
IsServed t (of_shape id) = ShapeIsServed t id
IsServed t (of_content id k) = ContentIsServed t ((rules_at t).content_of id k)
IsServed t (of_tag name) = ⊤

-- the tables have what an end leads to
abbrev pub EndIsServed : Tables → End → Type 0
EndIsServed t (an_option id) = ShapeIsServed t id
EndIsServed t (a_list id) = ShapeIsServed t id
EndIsServed t (a_tuple ids) = All (ShapeIsServed t) ids
EndIsServed t (a_map key value) = ShapeIsServed t value
EndIsServed t (an_object id) = ListIsServed t id
EndIsServed t (a_named_variant vs) = All (λ v. IsServed t v.content) vs
EndIsServed t (an_untagged_variant joined alone) =
    ListIsServed t joined × All (λ a. IsServed t a.content) alone
EndIsServed t _ = ⊤

-- the tables have what a part leads to
abbrev pub PartIsServed : Tables → Part → Type 0
PartIsServed t (a_member m) = IsServed t m.target
PartIsServed t (a_selection s) = All (ListIsServed t) s.branches
PartIsServed t (a_catch_all (of_map key value)) = ShapeIsServed t value
PartIsServed t (a_catch_all of_anything) = ⊤

-- what a shape comes to is as its type says, and asks the same value on in a bounded way, which
-- leaves one of the tables' steps to spare
pub record IsEnd (t : Tables) (id : ℕ) (e : code.End) : Type 0 where
  pub same : end_view e ≡ (rules_at t).end_of id
  pub served : EndIsServed t (end_view e)
  pub ranked : (n : ℕ) × (n < t.steps) × IsRanked n (rules_at t) (of_shape id)

-- the index of each branch with a choice stands before a position of a list of indices
abbrev pub BranchIsBefore : Tables → List ℕ → ℕ → ListId → Type 0
BranchIsBefore t below position branch =
    MatchOption (index_of t.slots branch) ⊤
    (λ index. (q : ℕ) × (q < position) × (slice_get below q ≡ Some index))

-- the same of each branch of a part
abbrev pub PartIsBefore : Tables → List ℕ → ℕ → Part → Type 0
PartIsBefore t below position (a_selection s) = All (BranchIsBefore t below position) s.branches
PartIsBefore t below position _ = ⊤

-- indices of lists, each after those of its branches
abbrev pub AreInOrder : Tables → List ℕ → Type 0
AreInOrder t below =
    (position index : ℕ) → slice_get below position ≡ Some index
    → (l : ListEntry) × (slice_get t.lists.items index ≡ Some l)
    × All (PartIsBefore t below position) (parts_view l.parts.items)

-- the list at an index is as its type says, some choice has it, and none has a key twice
pub record IsList (t : Tables) (index : ℕ) (l : ListEntry) : Type 0 where
  pub same : (rules_at t).lists (list_view l.id) ≡ Some (parts_view l.parts.items)
  pub served : All (PartIsServed t) (parts_view l.parts.items)
  pub chosen : HasChoice (Chooses (rules_at t).lists (list_view l.id))
  pub distinct : IsDistinct (Chooses (rules_at t).lists (list_view l.id))
  pub known : (x : Key)
      → IsTrue (knows l x) ↔ IsKnown (Chooses (rules_at t).lists (list_view l.id)) x
  pub sorted : IsSorted name_ref_cmp l.names.items
  pub named : All (PartHasBranchNames (rules_at t).lists) l.parts.items
  pub in_order : AreInOrder t l.below.items
  pub rising : IsStrictlyIncreasing l.below.items
  pub last : (q : ℕ) × (length l.below.items ≡ q + 1) × (slice_get l.below.items q ≡ Some index)

-- a part is one of those of a list
pub record IsPartOfList (t : Tables) (p : Part) : Type 0 where
  pub list : ListId
  pub parts : List Part
  pub parts_are : (rules_at t).lists list ≡ Some parts
  pub index : ℕ
  pub is_at : slice_get parts index ≡ Some p

-- tables are of the type that their shapes are, and allow a step
pub record AreTables (t : Tables) : Type 0 where
  pub some_steps : 0 < t.steps
  pub ends : (id : ℕ) (e : code.End) → slice_get t.ends.items id ≡ Some (Some e) → IsEnd t id e
  pub lists : (index : ℕ) (l : ListEntry) → slice_get t.lists.items index ≡ Some l
      → IsList t index l
  pub tags : AreTags t.shapes.now t.tags.items
