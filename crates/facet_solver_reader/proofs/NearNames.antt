-- What the list of a branch has, the list around it has too.
use Rattle.std.proofs.Common.{◌≡◌, ℕ, Bor, IfSome, IsSorted, IsTrue, List, MatchOption, Option, Some, None}
use Rattle.std.proofs.Common.{slice_get, subst}
use Rattle.facet_solver_shape.specs.Names.{name_ref_cmp}
use Rattle.facet_solver_reader.specs.declared.tables.List.{List as ListEntry}
use Rattle.facet_solver_reader.specs.declared.tables.Tables.{Tables}
use Rattle.facet_solver_reader.specs.Known.{Chooses, ChoosesAll, ChoosesAt, IsKnown, named}
use Rattle.facet_solver_reader.specs.Parts.{ListId, Part, Selection, a_selection}
use Rattle.facet_solver_reader.specs.SmallerLists.{KnowsAllOf}
use Rattle.facet_solver_reader.specs.Tables.{AreTables, IsListOf, knows, rules_at}
use Rattle.facet_solver_reader.specs.Views.{list_view, parts_view}
use Rattle.facet_solver_reader.proofs.Knowledge.{known_in_some, known_of_selection, known_of_some}
use Rattle.facet_solver_reader.proofs.Lists.{choice_of_list, known_of_list}
use Rattle.facet_solver_reader.proofs.Quantifiers.{any_at}

-- the list of a branch of a part
pub branch_knows : (t : Tables) (l near : ListEntry) (index i k : ℕ) (s : Selection) (b : ListId)
    → AreTables t → slice_get t.lists.items index ≡ Some l
    → slice_get (parts_view l.parts.items) i ≡ Some (a_selection s)
    → slice_get s.branches k ≡ Some b → IsListOf t b near → KnowsAllOf near l
branch_knows t l near index i k s b tables listed part branch of x has =
    let lists = (rules_at t).lists in
    let ps : List Part = parts_view l.parts.items in
    let around = tables.lists index l listed in
    let inner = tables.lists of.index near of.listed in
    let by_branch : IsKnown (Chooses lists b) (named x) =
    subst (λ id. IsKnown (Chooses lists id) (named x)) of.same ((inner.known (named x)).0 has) in
    let in_some = any_at (λ id. IsKnown (Chooses lists id) (named x)) s.branches k b branch by_branch in
    let in_part = (known_of_selection lists s (named x)).1
    ((known_in_some lists s (named x)).1 in_some) in
    let in_parts = any_at (λ p. IsKnown (ChoosesAt lists p) (named x)) ps i (a_selection s) part
    in_part in
    let choice = (choice_of_list lists (list_view l.id) ps around.same).1 around.chosen in
    (around.known (named x)).1
    ((known_of_list lists (list_view l.id) ps around.same (named x)).0
    ((known_of_some lists ps (named x)).1 (choice, in_parts)))

-- it is sorted, if it is there
pub near_sorted : (t : Tables) (b : ListId) (r : Option (Bor ListEntry)) (N : Type 0) → AreTables t
    → MatchOption r N (λ l. IsListOf t b l.now)
    → IfSome r (λ near. IsSorted name_ref_cmp near.now.names.items)
near_sorted t b None N tables h = tt
near_sorted t b (Some l) N tables h = (tables.lists h.index l.now h.listed).sorted

-- and the list around it has all that it has
pub near_within : (t : Tables) (l : ListEntry) (index i k : ℕ) (s : Selection) (b : ListId)
    (r : Option (Bor ListEntry)) (N : Type 0) → AreTables t
    → slice_get t.lists.items index ≡ Some l
    → slice_get (parts_view l.parts.items) i ≡ Some (a_selection s)
    → slice_get s.branches k ≡ Some b → MatchOption r N (λ e. IsListOf t b e.now)
    → IfSome r (λ near. KnowsAllOf near.now l)
near_within t l index i k s b None N tables listed part branch h = tt
near_within t l index i k s b (Some e) N tables listed part branch h =
    branch_knows t l e.now index i k s b tables listed part branch h
