-- The numbers of the targets of a plan, as they are given.
use Rattle.std.specs.Prelude.{◌≡◌, ◌⊎◌, ◌++◌, ⊤, ℕ, List, [], ◌∷◌, All, Some, map, slice_get}
use Rattle.std.specs.BTreeMap as tree
use Rattle.facet_solver_reader.specs.declared.end.End as code
use Rattle.facet_solver_reader.specs.declared.plan.numbers.Numbers.{Numbers}
use Rattle.facet_solver_reader.specs.declared.plan.target_key.TargetKey.{TargetKey}
use Rattle.facet_solver_reader.specs.contracts.plan.target_key.TargetKeyOrd.TheImpl as order
use Rattle.facet_solver_reader.specs.declared.tables.List.{List as ListEntry}
use Rattle.facet_solver_reader.specs.declared.tables.Tables.{Tables}
use Rattle.facet_solver_reader.specs.Parts.{CatchAll, of_map, of_anything, Part, a_member, Target, of_shape}
use Rattle.facet_solver_reader.specs.Plans.{AreAskedFirst, Meaning, meaning}
use Rattle.facet_solver_reader.specs.Rules.{End, an_option, a_list, a_tuple, a_map, a_named_variant, an_untagged_variant}
use Rattle.facet_solver_reader.specs.TargetKeys.{key_view}
use Rattle.facet_solver_reader.specs.Tables.{IsServed, rules_at}
use Rattle.facet_solver_reader.specs.Views.{end_view, list_view, parts_view}

-- the targets that have numbers, in order
abbrev pub targets_of : Numbers → List Target
targets_of n = map key_view n.targets.items

-- a target is one of a list
abbrev pub IsAmong : List Target → Target → Type 0
IsAmong targets t = (k : ℕ) × (slice_get targets k ≡ Some t)

-- a target has a number
abbrev pub HasNumber : Numbers → Target → Type 0
HasNumber n t = IsAmong (targets_of n) t

-- the map has the number of each target, and no others
pub record AreFound (n : Numbers) : Type 0 where
  pub found : (t : TargetKey) (k : ℕ)
      → tree.get (order.ghosts).cmp n.by_target t ≡ Some k
      → slice_get (targets_of n) k ≡ Some (key_view t)
  pub given : (t : TargetKey) (k : ℕ) → slice_get (targets_of n) k ≡ Some (key_view t)
      → tree.get (order.ghosts).cmp n.by_target t ≡ Some k

-- a target is one of a list, or is put at its end
abbrev pub IsPut : Target → List Target → List Target → Type 0
IsPut t old new = ((new ≡ old) × IsAmong old t) ⊎ (new ≡ old ++ t ∷ [])

-- tables have what each target with a number leads to, and what it asks has a lower number
pub record AreNumbers (t : Tables) (n : Numbers) : Type 0 where
  pub found : AreFound n
  pub served : All (IsServed t) (targets_of n)
  pub asked_first : AreAskedFirst (rules_at t) (targets_of n)

-- targets that had numbers have them still
abbrev pub StayNumbered : Numbers → Numbers → Type 0
StayNumbered old new = (t : Target) → HasNumber old t → HasNumber new t

-- more targets have numbers
pub record AreMore (t : Tables) (old new : Numbers) : Type 0 where
  pub kept : StayNumbered old new
  pub numbers : AreNumbers t new

-- what the variants of an end are read as has a property
abbrev pub VariantsHave : (Target → Type 0) → End → Type 0
VariantsHave P (a_named_variant vs) = All (λ v. P v.content) vs
VariantsHave P (an_untagged_variant joined alone) = All (λ a. P a.content) alone
VariantsHave P _ = ⊤

-- what a part is read as has a number, if it is a member
abbrev pub PartIsNumbered : Numbers → Part → Type 0
PartIsNumbered n (a_member m) = HasNumber n m.target
PartIsNumbered n _ = ⊤

-- what a catch-all reads values as has a number
abbrev pub CatchAllIsNumbered : Numbers → CatchAll → Type 0
CatchAllIsNumbered n (of_map key value) = HasNumber n (of_shape value)
CatchAllIsNumbered n of_anything = ⊤

-- the shapes that have ends have numbers, and so has what their variants are read as
pub record EndsAreNumbered (t : Tables) (n : Numbers) : Type 0 where
  pub shapes : (id : ℕ) (e : code.End) → slice_get t.ends.items id ≡ Some (Some e)
      → HasNumber n (of_shape id)
  pub variants : (id : ℕ) (e : code.End) → slice_get t.ends.items id ≡ Some (Some e)
      → VariantsHave (HasNumber n) (end_view e)

-- what the members of lists are read as has numbers
abbrev pub ListsAreNumbered : Tables → Numbers → Type 0
ListsAreNumbered t n =
    (index : ℕ) (l : ListEntry) → slice_get t.lists.items index ≡ Some l
    → All (PartIsNumbered n) (parts_view l.parts.items)

-- all that tables have has numbers
pub record AreNumbersOf (t : Tables) (n : Numbers) : Type 0 where
  pub numbers : AreNumbers t n
  pub ends : EndsAreNumbered t n
  pub lists : ListsAreNumbered t n

-- the shapes and the contents of variants that an end names have numbers
abbrev pub EndIsNumbered : Numbers → End → Type 0
EndIsNumbered n (an_option id) = HasNumber n (of_shape id)
EndIsNumbered n (a_list id) = HasNumber n (of_shape id)
EndIsNumbered n (a_tuple ids) = All (λ id. HasNumber n (of_shape id)) ids
EndIsNumbered n (a_map key value) = HasNumber n (of_shape value)
EndIsNumbered n e = VariantsHave (HasNumber n) e

-- what the numbers of targets, and the indices of lists in tables, stand for
abbrev pub meaning_of : Tables → Numbers → Meaning
meaning_of t n =
    meaning t.shapes.now (rules_at t) (targets_of n) (map (λ l. list_view l.id) t.lists.items)
