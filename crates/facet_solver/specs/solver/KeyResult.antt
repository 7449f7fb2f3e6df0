-- What a solver answers to a key.
use Rattle.std.specs.Prelude.{◌≡◌, ℕ, List, [], ◌∷◌, map, ⊤}
use Rattle.std.specs.List.{filter_map}
use Rattle.std.specs.Option.{ForSome}
use denote.Bor.{Bor}
use Rattle.facet_solver_shape.specs.Keys.{Key}
use Rattle.facet_solver_shape.specs.Fields.{FieldView}
use Rattle.facet_solver_shape.specs.Resolved.{Resolved}
use Rattle.facet_solver_shape.specs.Scores.{score_of}
use Rattle.facet_solver.specs.declared.solver.key_result.KeyResult.{KeyResult}
use Rattle.facet_solver.specs.declared.solver.key_result.KeyResult.TheVariants.{Unambiguous, Ambiguous, Solved, Unknown}
use Rattle.facet_solver.specs.schema.Schema.{SchemaView}
use Rattle.facet_solver.specs.schema.ResolutionHandle.{index_of, IsHandleOf}
use Rattle.facet_solver.specs.set.IndexSet.{HowMany, no_index, one_index, several_indices, how_many}
use Rattle.facet_solver.specs.solver.State.{State, passing}
use Rattle.facet_solver.specs.Resolutions.{field_at, has_key}
use Rattle.facet_solver.specs.build.Build.{Catalogue, type_identifier}
use Rattle.facet_solver.specs.solver.FirstOfEach.{first_of_each}

-- no candidate has the key; one is left; the value has one shape; or it has one of several, each
-- shown by a field with the score of the shape
pub data KeyResultView : Type 0 where
  unknown : KeyResultView
  solved : ℕ → KeyResultView
  unambiguous : ℕ → KeyResultView
  ambiguous : List (FieldView × ℕ) → KeyResultView

-- no candidate has the key, or one is left
abbrev pub IsUnknownOrSolved : KeyResultView → Type 0
IsUnknownOrSolved unknown = ⊤
IsUnknownOrSolved (solved index) = ⊤
IsUnknownOrSolved (unambiguous shape) = ⊥
IsUnknownOrSolved (ambiguous fields) = ⊥

-- a field with a score, wherever the field lies
abbrev pub scored_view : Bor FieldView × ℕ → FieldView × ℕ
scored_view e = (e.0.now, e.1)

-- what the answer says
abbrev pub key_result_view : KeyResult → KeyResultView
key_result_view (Unambiguous shape) = unambiguous shape
key_result_view (Ambiguous fields) = ambiguous (map scored_view fields.items)
key_result_view (Solved handle) = solved (index_of handle)
key_result_view Unknown = unknown

-- the handle of an answer is one of the schema
abbrev pub IsKeyResultOf : SchemaView → KeyResult → Type 0
IsKeyResultOf schema (Unambiguous shape) = ⊤
IsKeyResultOf schema (Ambiguous fields) = ⊤
IsKeyResultOf schema (Solved handle) = IsHandleOf schema handle
IsKeyResultOf schema Unknown = ⊤

-- the score of a shape. One that is not there scores as a shape of any name without a score of its
-- own
abbrev pub score_at : Catalogue → ℕ → ℕ
score_at cat id = score_of (type_identifier cat id)

-- a field with the score of its shape
abbrev pub with_score : Catalogue → FieldView → FieldView × ℕ
with_score cat f = (f, score_at cat f.shape)

-- each field that a key means in some resolutions has the shape
abbrev pub HaveShape : ℕ → Key → List Resolved → Type 0
HaveShape shape key resolutions =
    (index : ℕ) → ForSome (field_at key resolutions index) (λ f. f.shape ≡ shape)

-- the fields that a key means in the resolutions at some indices, one for each that has one, in
-- order
abbrev pub fields_by_key : Key → List Resolved → List ℕ → List FieldView
fields_by_key key resolutions indices = filter_map (field_at key resolutions) indices

-- of the fields that a key means, the first of each shape, with the score of the shape
abbrev pub distinct_fields : Key → SchemaView → List ℕ → List (FieldView × ℕ)
distinct_fields key schema indices =
    map (with_score schema.build.catalogue)
    (first_of_each (λ f. f.shape) (fields_by_key key schema.resolutions indices))

-- fields of different shapes: one says what the value is, more do not
abbrev pub of_fields : List (FieldView × ℕ) → KeyResultView
of_fields (e ∷ []) = unambiguous e.0.shape
of_fields es = ambiguous es

-- by how many candidates there are: where there are several, an answer is given for them
abbrev pub solved_or : KeyResultView → HowMany → KeyResultView
solved_or several no_index = unknown
solved_or several (one_index index) = solved index
solved_or several several_indices = several

-- the answer to a key, by how many candidates have it
abbrev pub key_result : Key → State → KeyResultView
key_result key s =
    solved_or (of_fields (distinct_fields key s.schema s.candidates))
    (how_many (passing (has_key key) s))
