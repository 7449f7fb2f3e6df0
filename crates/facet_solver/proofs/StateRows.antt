-- What calls leave of a solver and answer: the definitions, row by row.
use Rattle.std.proofs.Common.{◌≡◌, ℕ, true, false, List, [], ◌∷◌, map, filter, find, is_some, refl, ap, codes}
use Rattle.std.specs.List.{filter_map, list_any}
use Rattle.facet_solver_shape.specs.Fields.{FieldView, matches}
use Rattle.facet_solver_shape.specs.Keys.{Key, flat_key}
use Rattle.facet_solver_shape.specs.Resolved.{Resolved, nothing}
use Rattle.facet_solver.specs.Resolutions.{has_key}
use Rattle.facet_solver.specs.set.IndexSet.{has_index, how_many}
use Rattle.facet_solver.specs.solver.FirstOfEach.{first_of_each}
use Rattle.facet_solver.specs.solver.KeyResult.{IsUnknownOrSolved, KeyResultView, ambiguous, distinct_fields, key_result, of_fields, solved, solved_or, unambiguous, unknown, with_score}
use Rattle.facet_solver.specs.solver.State.{State, has_shape_among, hint_variant, mark_seen, new_solver, or_all, satisfy_shapes, see_key, was_field_seen}
use Rattle.facet_solver.proofs.SampleResolutions.{entry, has, only_a, only_b, passing_two, two, values_of}

-- a new solver of a resolution with `a` and one with `b`
abbrev start : State
start = new_solver (two only_a only_b)

-- the keys of three names
abbrev key_a : Key
key_a = flat_key (codes "a")

abbrev key_b : Key
key_b = flat_key (codes "b")

abbrev key_z : Key
key_z = flat_key (codes "z")

-- at first all resolutions are candidates, and no key was seen
pub start_rows : (start.candidates ≡ 0 ∷ 1 ∷ []) × (start.seen ≡ [])
start_rows = (refl, refl)

-- a seen key leaves the candidates that have it, and all where none has
pub see_key_rows :
    ((see_key key_a start).candidates ≡ 0 ∷ [])
    × ((see_key key_b start).candidates ≡ 1 ∷ [])
    × ((see_key key_z start).candidates ≡ 0 ∷ 1 ∷ [])
    × ((see_key key_z start).seen ≡ key_z ∷ [])
    × ((see_key key_a (mark_seen key_b start)).seen ≡ key_a ∷ key_b ∷ [])
see_key_rows = (
  ap (λ left. or_all left (0 ∷ 1 ∷ [])) (passing_two (has_key key_a) only_a only_b (has key_a _ tt) (has key_a _ tt)),
  ap (λ left. or_all left (0 ∷ 1 ∷ [])) (passing_two (has_key key_b) only_a only_b (has key_b _ tt) (has key_b _ tt)),
  ap (λ left. or_all left (0 ∷ 1 ∷ [])) (passing_two (has_key key_z) only_a only_b (has key_z _ tt) (has key_z _ tt)),
  refl,
  refl,
)

-- a marked key leaves all candidates, and is seen once
pub mark_rows :
    ((mark_seen key_a start).candidates ≡ 0 ∷ 1 ∷ [])
    × ((mark_seen key_a (mark_seen key_a start)).seen ≡ key_a ∷ [])
    × (was_field_seen (codes "a") (mark_seen key_a start) ≡ true)
    × (was_field_seen (codes "b") (mark_seen key_a start) ≡ false)
mark_rows = (refl, refl, refl, refl)

-- shapes leave the candidates that have a field of one of them, and none where none has
pub satisfy_rows :
    ((satisfy_shapes (0 ∷ 7 ∷ []) start).candidates ≡ 0 ∷ 1 ∷ [])
    × ((satisfy_shapes (7 ∷ []) start).candidates ≡ [])
satisfy_rows = (
  passing_two (has_shape_among (0 ∷ 7 ∷ [])) only_a only_b
      (ap (list_any (λ f. has_index (0 ∷ 7 ∷ []) f.shape)) (values_of _ tt))
      (ap (list_any (λ f. has_index (0 ∷ 7 ∷ []) f.shape)) (values_of _ tt)),
  passing_two (has_shape_among (7 ∷ [])) only_a only_b
      (ap (list_any (λ f. has_index (7 ∷ []) f.shape)) (values_of _ tt))
      (ap (list_any (λ f. has_index (7 ∷ []) f.shape)) (values_of _ tt)),
)

-- a resolution in which a variant is selected
abbrev selecting : List ℕ → Resolved
selecting name =
    record nothing { selections = record { path = []; enum_name = codes "E"; variant_name = name } ∷ [] }

-- a hint leaves the candidates that select a variant of its name, and all where none does
pub hint_rows :
    ((hint_variant (codes "V") (new_solver (two (selecting (codes "V")) (selecting (codes "W"))))).candidates ≡ 0 ∷ [])
    × ((hint_variant (codes "X") (new_solver (two (selecting (codes "V")) (selecting (codes "W"))))).candidates ≡ 0 ∷ 1 ∷ [])
hint_rows = (refl, refl)

-- the answer to a key that two resolutions of these fields see
abbrev answer : Key → State → List FieldView → KeyResultView
answer key s fields =
    solved_or
    (of_fields (map (with_score s.schema.build.catalogue)
    (first_of_each (λ f. f.shape) (filter_map (λ (i : ℕ). find (matches key) fields) (0 ∷ 1 ∷ [])))))
    (how_many (filter (λ (i : ℕ). is_some (find (matches key) fields)) (0 ∷ 1 ∷ [])))

-- no candidate has the key, one has it, and two have it for one shape
pub answer_rows :
    (key_result key_z start ≡ unknown)
    × (key_result key_b start ≡ solved 1)
    × (key_result key_a (new_solver (two only_a only_a)) ≡ unambiguous 0)
answer_rows = (
  ap (λ left. solved_or (of_fields (distinct_fields key_z start.schema start.candidates)) (how_many left)) (passing_two (has_key key_z) only_a only_b (has key_z _ tt) (has key_z _ tt)),
  ap (λ left. solved_or (of_fields (distinct_fields key_b start.schema start.candidates)) (how_many left)) (passing_two (has_key key_b) only_a only_b (has key_b _ tt) (has key_b _ tt)),
  ap (answer key_a (new_solver (two only_a only_a))) (values_of (entry (codes "a") ∷ []) tt),
)

-- two fields of different shapes are both told
pub ambiguity_rows :
    (of_fields [] ≡ ambiguous [])
    × ((f g : FieldView × ℕ) → of_fields (f ∷ g ∷ []) ≡ ambiguous (f ∷ g ∷ []))
ambiguity_rows = (refl, λ f g. refl)

-- answers that need no field
pub unknown_or_solved_rows :
    IsUnknownOrSolved unknown
    × IsUnknownOrSolved (solved 0)
    × (¬ (IsUnknownOrSolved (unambiguous 0)))
    × (¬ (IsUnknownOrSolved (ambiguous [])))
unknown_or_solved_rows = (tt, tt, λ h. h, λ h. h)
