-- Lists of parts by their names: the choices, readings and keys of one are those of its parts.
use Rattle.std.proofs.Common.{◌≡◌, ◌↔◌, sym, ◌∙◌, subst, List, Some, None}
use Rattle.facet_solver_reader.specs.declared.count.Count.{Count}
use Rattle.facet_solver_reader.specs.Branches.{ReadsList, ReadsParts}
use Rattle.facet_solver_reader.specs.Choices.{Choice, Item}
use Rattle.facet_solver_reader.specs.Counted.{Counted}
use Rattle.facet_solver_reader.specs.Known.{Chooses, ChoosesAll, HasChoice, IsDistinct, IsKnown}
use Rattle.facet_solver_reader.specs.Known.{Key}
use Rattle.facet_solver_reader.specs.Objects.{Object, Reads}
use Rattle.facet_solver_reader.specs.Parts.{ListId, Lists, Part}
use Rattle.facet_solver_reader.specs.Rules.{Rules}
use Rattle.facet_solver_reader.proofs.SameChoices.{Same, same_choice, same_known, same_distinct}
use Rattle.facet_solver_reader.proofs.SameChoices.{same_readings, count_of_same}

-- the choices of a list are those of its parts
pub choices_of_list : (lists : Lists) (id : ListId) (ps : List Part) → lists id ≡ Some ps
    → Same (ChoosesAll lists ps) (Chooses lists id)
choices_of_list lists id ps e c items = (
  λ h. record { parts = ps; parts_are = e; chooses = h },
  λ h.
      let same : h.parts ≡ ps = some_same (sym h.parts_are ∙ e) in
      subst (λ qs. ChoosesAll lists qs c items) same h.chooses,
)
  where
    some_same : {x y : List Part} → Some x ≡ Some y → x ≡ y
    some_same p = cc

-- a list that has no parts has no choice
pub no_list : (lists : Lists) (id : ListId) (c : Choice) (items : List Item)
    → lists id ≡ None → Chooses lists id c items → ⊥
no_list lists id c items e h = let p : lists id ≡ Some h.parts = h.parts_are in cc

-- so there is no choice of it
pub no_choice_of_no_list : (lists : Lists) (id : ListId) → lists id ≡ None
    → HasChoice (Chooses lists id) → ⊥
no_choice_of_no_list lists id e h = no_list lists id h.choice h.items e h.chooses

module _ (lists : Lists) (id : ListId) (ps : List Part) (e : lists id ≡ Some ps) where
  -- a list has a choice where its parts have one
  pub choice_of_list : HasChoice (ChoosesAll lists ps) ↔ HasChoice (Chooses lists id)
  choice_of_list =
      same_choice (ChoosesAll lists ps) (Chooses lists id) (choices_of_list lists id ps e)

  -- a list knows the keys that its parts know
  pub known_of_list : (x : Key) → IsKnown (ChoosesAll lists ps) x ↔ IsKnown (Chooses lists id) x
  known_of_list x =
      same_known (ChoosesAll lists ps) (Chooses lists id) (choices_of_list lists id ps e) x

  -- no choice of a list has a key twice where none of its parts has
  pub distinct_of_list : IsDistinct (ChoosesAll lists ps) ↔ IsDistinct (Chooses lists id)
  distinct_of_list =
      same_distinct (ChoosesAll lists ps) (Chooses lists id) (choices_of_list lists id ps e)

module _ (rules : Rules) (reads : Reads) (object : Object) (id : ListId) where
  -- the readings of a list are those of its parts
  pub readings_of_list : (ps : List Part) → rules.lists id ≡ Some ps → (c : Choice)
      → ReadsParts rules reads object ps c ↔ ReadsList rules reads object id c
  readings_of_list ps e c =
      same_readings (ChoosesAll rules.lists ps) (Chooses rules.lists id)
      (choices_of_list rules.lists id ps e) rules reads object c

  -- and as many
  pub count_of_list : (ps : List Part) (n : Count) → rules.lists id ≡ Some ps
      → Counted (ReadsParts rules reads object ps) n → Counted (ReadsList rules reads object id) n
  count_of_list ps n e h =
      count_of_same (ChoosesAll rules.lists ps) (Chooses rules.lists id)
      (choices_of_list rules.lists id ps e) rules reads object n h
