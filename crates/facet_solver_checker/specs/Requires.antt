-- Which names the choices of a list require.
use Rattle.std.specs.Prelude.{◌≡◌, ◌⊎◌, ℕ, Bool, true, false, List, [], ◌∷◌, Some, slice_get}
use Rattle.std.specs.Borrow.{Bor}
use Rattle.std.specs.List.{list_all, list_any}
use Rattle.std.specs.Option.{option_map_or}
use Rattle.std.specs.Str.{bytes_eq}
use Rattle.std.specs.declared.alloc.Global.{Global}
use Rattle.std.specs.declared.vec.Vec.{Vec}
use Rattle.facet_solver_shape.specs.Names.{Name}
use Rattle.facet_solver_reader.specs.Choices.{Choice, ChoiceAt, Choosing, Item, member_of}
use Rattle.facet_solver_reader.specs.Choices.{catch_all_of, presence_of}
use Rattle.facet_solver_reader.specs.Known.{Chooses}
use Rattle.facet_solver_reader.specs.Parts.{ListId}
use Rattle.facet_solver_reader.specs.Plans.{IsNumberOfList, Meaning}
use Rattle.facet_solver_checker.specs.PlanMembers.{IsIn}

-- some item is a required member of the name
abbrev pub HasRequired : List Item → Name → Type 0
HasRequired [] x = ⊥
HasRequired (member_of part r ∷ items) x =
    ((part.name ≡ x) × (part.required ≡ true)) ⊎ HasRequired items x
HasRequired (catch_all_of k t ∷ items) x = HasRequired items x
HasRequired (presence_of s ∷ items) x = HasRequired items x

-- each choice has a required member of the name
abbrev pub Requires : {X : Type 0} → Choosing X → Name → Type 0
Requires {X} S x = (c : X) (items : List Item) → S c items → HasRequired items x

-- each choice of the list of a number does
abbrev pub IsRequiredBy : Meaning → ℕ → Name → Type 0
IsRequiredBy m n x = (id : ListId) → IsNumberOfList m id n → Requires (Chooses m.rules.lists id) x

-- lists of names, one for each number of a list
abbrev pub NameLists : Type 0
NameLists = List (Vec (Bor Name) Global)

-- each choice of the list of each number requires the names that stand there
abbrev pub AreRequired : Meaning → NameLists → Type 0
AreRequired m table =
    (n : ℕ) (names : Vec (Bor Name) Global) (id : ListId) (x : Bor Name)
    → slice_get table n ≡ Some names → IsNumberOfList m id n → IsIn x names.items
    → Requires (Chooses m.rules.lists id) x.now

-- whether a name stands at a number
abbrev pub requires_at : NameLists → Name → ℕ → Bool
requires_at table x n =
    option_map_or (λ names. list_any (λ y. bytes_eq y.now x) names.items) (slice_get table n) false

-- whether it stands at each of several numbers
abbrev pub all_require : NameLists → Name → List ℕ → Bool
all_require table x branches = list_all (requires_at table x) branches
