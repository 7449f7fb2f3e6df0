-- The choice of a schema that a reader's choice is, by its indices: one for each enum, and one for
-- each selection that may be absent.
use Rattle.std.specs.Prelude.{ℕ, Bool, List, [], ◌∷◌, ◌++◌, if◌then◌else◌, slice_get}
use Rattle.std.specs.Option.{option_map_or}
use Rattle.facet_solver_shape.specs.Catalogues.{Catalogue}
use Rattle.facet_solver_reader.specs.Choices.{Choice, ChoiceAt, next}
use Rattle.facet_solver_reader.specs.Choices.{without, choosing}
use Rattle.facet_solver_reader.specs.Parts.{ListId, Lists, of_branch, of_struct, Part, a_selection}
use Rattle.facet_solver_reader.specs.Types.{parts_of}

-- the index of a present selection, if it may be absent
abbrev pub index_of_presence : Bool → List ℕ
index_of_presence optional = if optional then 1 ∷ [] else []

-- the index of a branch, if it is one of an enum
abbrev pub index_of_branch : ListId → List ℕ
index_of_branch (of_branch id k) = k ∷ []
index_of_branch _ = []

abbrev mutual
  -- the indices of a choice of a list of parts
  pub indices_of_parts : Lists → Choice → List Part → List ℕ
  indices_of_parts lists (next a c) (p ∷ ps) =
      indices_of_part lists a p ++ indices_of_parts lists c ps
  indices_of_parts lists _ _ = []

  -- those of a choice at one part: 0 where a selection is absent, and those of a branch where it is
  -- present
  pub indices_of_part : Lists → ChoiceAt → Part → List ℕ
  indices_of_part lists without (a_selection s) = 0 ∷ []
  indices_of_part lists (choosing k c) (a_selection s) =
      index_of_presence s.optional
      ++ option_map_or
      (λ id.
      index_of_branch id ++ option_map_or (λ ps. indices_of_parts lists c ps) (lists id) [])
      (slice_get s.branches k) []
  indices_of_part lists _ _ = []

-- those of a choice of the parts of a list
abbrev pub indices_of_list : Lists → ListId → Choice → List ℕ
indices_of_list lists id c = option_map_or (λ ps. indices_of_parts lists c ps) (lists id) []

-- those of a choice of a root's parts
abbrev pub indices_of : Catalogue → ℕ → Choice → List ℕ
indices_of shapes root c = indices_of_list (parts_of shapes) (of_struct root) c
