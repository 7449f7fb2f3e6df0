-- What a choice asks of an object: the names of its members, in order, and which of them have to be
-- there.
use Rattle.std.specs.Prelude.{◌≡◌, Bool, true, false, List, [], ◌∷◌, if◌then◌else◌}
use Rattle.facet_solver_shape.specs.Catalogues.{Catalogue}
use Rattle.facet_solver_shape.specs.Fields.{FieldView}
use Rattle.facet_solver_shape.specs.Names.{Name}
use Rattle.facet_solver.specs.build.Emissions.{Emission, a_field, some_key_paths, a_selection}
use Rattle.facet_solver.specs.build.Emissions.{a_catch_all}
use Rattle.facet_solver_reader.specs.Choices.{Item, member_of, catch_all_of, presence_of}
use Rattle.facet_solver_reader.specs.Parts.{MemberPart, Target, of_shape, of_content, of_tag}
use Rattle.facet_solver_reader.specs.Types.{repr_at}
use Rattle.facet_solver_agreement.specs.Alike.{is_adjacent}

-- a name that is asked for, and whether it has to be there
pub record Asked : Type 0 where
  pub name : Name
  pub required : Bool

-- a name is one that has to be there
pub record IsRequiredOf (x : Name) (asked : Asked) : Type 0 where
  pub same_name : asked.name ≡ x
  pub required : asked.required ≡ true

-- what a member asks
abbrev pub asked_by_member : MemberPart → Asked
asked_by_member m = record { name = m.name; required = m.required }

-- what the items of a reader's choice ask: its members, without those of some targets
abbrev pub asked_but : (Target → Bool) → List Item → List Asked
asked_but left_out [] = []
asked_but left_out (member_of m r ∷ items) =
    if left_out m.target then asked_but left_out items
    else asked_by_member m ∷ asked_but left_out items
asked_but left_out (catch_all_of k t ∷ items) = asked_but left_out items
asked_but left_out (presence_of s ∷ items) = asked_but left_out items

-- what all its members ask
abbrev pub asked_by_items : List Item → List Asked
asked_by_items items = asked_but (λ target. false) items

-- whether a target is the content of an adjacently tagged enum
abbrev pub is_adjacent_content : Catalogue → Target → Bool
is_adjacent_content shapes (of_shape id) = false
is_adjacent_content shapes (of_content id k) = is_adjacent (repr_at shapes id)
is_adjacent_content shapes (of_tag name) = false

-- what a reader's choice asks without the content of adjacently tagged enums, of which a schema has
-- no field
abbrev pub asked_of_schema : Catalogue → List Item → List Asked
asked_of_schema shapes items = asked_but (is_adjacent_content shapes) items

-- what a field asks that is emitted
abbrev pub asked_by_field : FieldView → Asked
asked_by_field f = record { name = f.name; required = f.is_required }

-- what the walk of a schema's choice asks: the fields that it emits
abbrev pub asked_by_walk : List Emission → List Asked
asked_by_walk [] = []
asked_by_walk (a_field f ∷ es) = asked_by_field f ∷ asked_by_walk es
asked_by_walk (some_key_paths paths ∷ es) = asked_by_walk es
asked_by_walk (a_selection s ∷ es) = asked_by_walk es
asked_by_walk (a_catch_all f ∷ es) = asked_by_walk es
