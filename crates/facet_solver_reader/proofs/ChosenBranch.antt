-- The branch by which an object is read, and its readings by the list of that branch.
use Rattle.std.proofs.Common.{◌≡◌, inl, inr, sym, subst, ℕ, [], ◌∷◌, ◌++◌, refl}
use Rattle.std.proofs.Common.{if◌then◌else◌, Some, Bool, true, false, slice_get}
use Rattle.facet_solver_reader.specs.declared.count.Count.{Count}
use Rattle.facet_solver_reader.specs.declared.count.Count.TheVariants.{None, One, Several}
use Rattle.facet_solver_reader.specs.Branches.{CanBePresent, Fits, ReadsAt, ReadsList, ReadsPart}
use Rattle.facet_solver_reader.specs.Choices.{Choice, ChoiceAt, lacking, having, without, choosing}
use Rattle.facet_solver_reader.specs.Choices.{taking, presence_of}
use Rattle.facet_solver_reader.specs.Counted.{Counted}
use Rattle.facet_solver_reader.specs.Known.{HasKey}
use Rattle.facet_solver_reader.specs.Objects.{Agrees, Object, Reads}
use Rattle.facet_solver_reader.specs.Parts.{ListId, Selection, a_selection}
use Rattle.facet_solver_reader.specs.Rules.{Rules}
use Rattle.facet_solver_reader.proofs.Selections.{at_branch, choice_at, key_behind, known_by_branch}
use Rattle.facet_solver_reader.proofs.TheOnly.{IsTheOnly}

-- where there are not none, there is one
pub some_counted : {X : Type 0} (P : X → Type 0) (n : Count) → (n ≡ None → ⊥) → Counted P n
    → (x : X) × P x
some_counted P None some h = absurd (some refl)
some_counted P One some h = (h.value, h.has)
some_counted P Several some h = (h.first, h.has_first)

module _ (rules : Rules) (reads : Reads) (object : Object) (s : Selection) where
  -- a reading of the selection
  abbrev R : ChoiceAt → Type 0
  R = ReadsPart rules reads object (a_selection s)

  -- where a branch has not no readings, there is a reading by it
  pub read_at : (k : ℕ) (n : Count) → (n ≡ None → ⊥)
      → Counted (ReadsAt (ReadsPart rules reads object (a_selection s)) k) n
      → (c : Choice) × ReadsPart rules reads object (a_selection s) (choosing k c)
  read_at k n some h = let a = some_counted (ReadsAt R k) n some h in go a.0 a.1
    where
      go : (a : ChoiceAt) → ReadsAt R k a → (c : Choice) × R (choosing k c)
      go lacking w = absurd w
      go (having r) w = absurd w
      go without w = absurd w
      go (taking t) w = absurd w
      go (choosing j c) w = (c, subst (λ i. R (choosing i c)) w.0 w.1)

  module _ (k : ℕ) (c : Choice) (r : R (choosing k c)) where
    -- a selection that is read by a branch can be present
    pub can_be_present : CanBePresent rules object s
    can_be_present =
        go s.optional refl (subst (Agrees rules reads object) r.chooses.items_are r.agrees)
      where
        go : (b : Bool) → s.optional ≡ b
            → Agrees rules reads object
            ((if b then presence_of s ∷ [] else []) ++ r.chooses.of_branch)
            → CanBePresent rules object s
        go true is a = inr a.0
        go false is a = inl is

    module _ (id : ListId) (e : slice_get s.branches k ≡ Some id) where
      -- and its list has each key of the object that the selection knows
      pub fits_where_read : Fits rules object s id
      fits_where_read = λ x has known.
          let of_branch = r.chooses.of_branch in
          record {
            choice = c;
            items = of_branch;
            chooses = choice_at rules.lists s k id c of_branch e r.chooses.chooses;
            has = key_behind s of_branch x
                (subst (λ is. HasKey is x) r.chooses.items_are
                (r.known x has (known_by_branch rules.lists s x known)));
          }

  -- of the only reading of a selection, which is by a branch, the rest is the only one of its list
  pub only_of_branch : (k : ℕ) (c : Choice) (id : ListId)
      → slice_get s.branches k ≡ Some id
      → IsTheOnly (ReadsPart rules reads object (a_selection s)) (choosing k c)
      → IsTheOnly (ReadsList rules reads object id) c
  only_of_branch k c id e h =
      let images = at_branch rules reads object s k id e (fits_where_read k c h.0 id e)
      (can_be_present k c h.0) in
      let f = images.out (choosing k c) (refl, h.0) in
      let same = images.same c f.0 f.2 in (
        subst (ReadsList rules reads object id) (sym same) f.1,
        λ d r. images.same d c (h.1 (choosing k d) (images.into d r).1),
      )
