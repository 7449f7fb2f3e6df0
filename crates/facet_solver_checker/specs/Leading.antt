-- To which selection or enum a way leads from a target, as the steps of a difference do.
use Rattle.std.specs.Prelude.{◌≡◌, ℕ, Any, List, [], ◌∷◌, Some, slice_get}
use Rattle.facet_solver_checker.specs.Differing.{Step, at_part, into_branch, into_member}
use Rattle.facet_solver_checker.specs.Differing.{into_taken}
use Rattle.facet_solver_checker.specs.Differing.{into_value, into_variant}
use Rattle.facet_solver_reader.specs.Parts.{ListId, MemberPart, Part, Selection, Target}
use Rattle.facet_solver_reader.specs.Parts.{a_catch_all}
use Rattle.facet_solver_reader.specs.Parts.{a_member, a_selection, of_map, of_shape}
use Rattle.facet_solver_reader.specs.Reached.{asked, list_of, within}
use Rattle.facet_solver_reader.specs.Rules.{Rules}

-- what can be read in several ways: a part of a list, by its index, or the enum that is a shape
pub data Spot : Type 0 where
  part_of : ListId → ℕ → Spot
  enum_of : ℕ → Spot

-- a target asks another of the same value
abbrev pub IsAsked : Rules → Target → Target → Type 0
IsAsked rules t u = Any (λ a. a ≡ u) (asked rules t)

-- the values within one of a target are read as another
abbrev pub IsWithin : Rules → Target → Target → Type 0
IsWithin rules t u = Any (λ a. a ≡ u) (within rules t)

mutual
  -- a way leads from a target
  pub data Leads (rules : Rules) : Target → List Step → Spot → Type 0 where
    -- it is the enum
    is_enum : (id : ℕ) → Leads rules (of_shape id) [] (enum_of id)
    -- on from another target that is asked of the same value
    by_asked : (t u : Target) (way : List Step) (spot : Spot) → IsAsked rules t u
        → Leads rules u way spot → Leads rules t way spot
    -- through a variant, whose content is asked of the same value
    into_asked : (k : ℕ) (t u : Target) (way : List Step) (spot : Spot) → IsAsked rules t u
        → Leads rules u way spot → Leads rules t (into_variant k ∷ way) spot
    -- through a variant that is named, whose content is a value within
    into_content : (k : ℕ) (t u : Target) (way : List Step) (spot : Spot) → IsWithin rules t u
        → Leads rules u way spot → Leads rules t (into_variant k ∷ way) spot
    -- through an item of a list or a value of a map
    into_item : (k : ℕ) (t u : Target) (way : List Step) (spot : Spot) → IsWithin rules t u
        → Leads rules u way spot → Leads rules t (into_value k ∷ way) spot
    -- through the list of parts by which an object is read
    into_object : (t : Target) (id : ListId) (way : List Step) (spot : Spot)
        → list_of rules t ≡ Some id → LeadsIn rules id way spot → Leads rules t way spot

  -- a way leads from a list of parts
  pub data LeadsIn (rules : Rules) : ListId → List Step → Spot → Type 0 where
    -- it is one of its parts
    is_part : (id : ListId) (k : ℕ) → LeadsIn rules id (at_part k ∷ []) (part_of id k)
    -- on from one of its parts
    by_part : (id : ListId) (ps : List Part) (k : ℕ) (p : Part) (way : List Step) (spot : Spot)
        → rules.lists id ≡ Some ps → slice_get ps k ≡ Some p → LeadsOn rules p way spot
        → LeadsIn rules id (at_part k ∷ way) spot

  -- a way leads from a part
  pub data LeadsOn (rules : Rules) : Part → List Step → Spot → Type 0 where
    -- through a branch of a selection
    by_branch : (s : Selection) (j : ℕ) (id : ListId) (way : List Step) (spot : Spot)
        → slice_get s.branches j ≡ Some id → LeadsIn rules id way spot
        → LeadsOn rules (a_selection s) (into_branch j ∷ way) spot
    -- through the value of a member
    by_member : (m : MemberPart) (way : List Step) (spot : Spot) → Leads rules m.target way spot
        → LeadsOn rules (a_member m) (into_member ∷ way) spot
    -- through a value that a map takes
    by_rest : (key value i : ℕ) (way : List Step) (spot : Spot)
        → Leads rules (of_shape value) way spot
        → LeadsOn rules (a_catch_all (of_map key value)) (into_taken i ∷ way) spot
