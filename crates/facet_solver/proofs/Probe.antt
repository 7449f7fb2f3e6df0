-- Keys at a path: the first field for each shape.
use Rattle.std.proofs.Common.{◌≡◌, ℕ, Bool, true, false, cond, List, [], ◌∷◌, ◌++◌, filter, map, nat_eq, refl, ap, sym, ◌∙◌, Option, Some, None, append-nil}
use Rattle.std.specs.List.{filter_map, list_any}
use Rattle.facet_solver_shape.specs.Fields.{FieldView}
use Rattle.facet_solver_shape.proofs.Lists.{list_any-map}
use Rattle.facet_solver.specs.solver.FirstOfEach.{first_of_each}
use Rattle.facet_solver.proofs.FirstOfEach.{first_of_each-told}
use Rattle.facet_solver.proofs.IndexSet.{filter_more}
use Rattle.facet_solver.proofs.KeyResultFields.{filter_map_found, filter_map_none}

-- ---- the first field for each shape, of the indices that pass

module _ (h : ℕ → Option (FieldView × ℕ)) (pass : ℕ → Bool) (seen : List ℕ) (i : ℕ) where
  abbrev firsts : List ℕ → List (FieldView × ℕ)
  firsts xs = first_of_each (λ (e : FieldView × ℕ). e.1) (filter_map h (filter pass xs))

  -- an index that does not pass
  pub firsts_failed : pass i ≡ false → firsts seen ≡ firsts (seen ++ i ∷ [])
  firsts_failed fails =
      sym (ap (λ xs. first_of_each (λ (e : FieldView × ℕ). e.1) (filter_map h xs)) (filter_more pass seen i false fails ∙ append-nil (filter pass seen)))

  passed : pass i ≡ true → firsts (seen ++ i ∷ []) ≡ first_of_each (λ (e : FieldView × ℕ). e.1) (filter_map h (filter pass seen ++ i ∷ []))
  passed passes = ap (λ xs. first_of_each (λ (e : FieldView × ℕ). e.1) (filter_map h xs)) (filter_more pass seen i true passes)

  -- one without a field
  pub firsts_none : h i ≡ None → firsts seen ≡ firsts (seen ++ i ∷ [])
  firsts_none none = go (pass i) refl
    where
      go : (b : Bool) → pass i ≡ b → firsts seen ≡ firsts (seen ++ i ∷ [])
      go true passes = sym (passed passes ∙ ap (first_of_each (λ (e : FieldView × ℕ). e.1)) (filter_map_none h (filter pass seen) i none))
      go false fails = firsts_failed fails

  after_one : (e : FieldView × ℕ) (told : Bool) → h i ≡ Some e → list_any (λ (d : FieldView × ℕ). nat_eq d.1 e.1) (firsts seen) ≡ told → pass i ≡ true → firsts (seen ++ i ∷ []) ≡ cond told (firsts seen) (firsts seen ++ e ∷ [])
  after_one e told found is passes =
      passed passes
      ∙ ap (first_of_each (λ (d : FieldView × ℕ). d.1)) (filter_map_found h (filter pass seen) i e found)
      ∙ first_of_each-told (λ (d : FieldView × ℕ). d.1) (filter_map h (filter pass seen)) e told is

  -- one whose shape stands there already
  pub firsts_old : (e : FieldView × ℕ) → h i ≡ Some e → list_any (λ (d : FieldView × ℕ). nat_eq d.1 e.1) (firsts seen) ≡ true → firsts seen ≡ firsts (seen ++ i ∷ [])
  firsts_old e found is_old = go (pass i) refl
    where
      go : (b : Bool) → pass i ≡ b → firsts seen ≡ firsts (seen ++ i ∷ [])
      go true passes = sym (after_one e true found is_old passes)
      go false fails = firsts_failed fails

  -- one of a new shape
  pub firsts_new : (e : FieldView × ℕ) → h i ≡ Some e → list_any (λ (d : FieldView × ℕ). nat_eq d.1 e.1) (firsts seen) ≡ false → pass i ≡ true → firsts seen ++ e ∷ [] ≡ firsts (seen ++ i ∷ [])
  firsts_new e found is_new passes = sym (after_one e false found is_new passes)

-- what a search told of the shapes so far
pub told_of : {shapes read : List ℕ} {told answer : Bool} (fields : List (FieldView × ℕ)) (id : ℕ) → shapes ≡ map (λ (e : FieldView × ℕ). e.1) fields → read ≡ shapes → told ≡ list_any (λ (other : ℕ). nat_eq other id) read → told ≡ answer
    → list_any (λ (d : FieldView × ℕ). nat_eq d.1 id) fields ≡ answer
told_of fields id so_far same told is =
    let has_it : ℕ → Bool = λ other. nat_eq other id in
    sym (list_any-map has_it (λ (e : FieldView × ℕ). e.1) fields)
    ∙ ap (list_any has_it) (sym so_far ∙ sym same)
    ∙ sym told
    ∙ is
