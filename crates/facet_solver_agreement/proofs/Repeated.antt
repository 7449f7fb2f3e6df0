-- A type of which no choice of a reader has a name twice has no duplicate keys.
use Rattle.std.proofs.Common.{Bool, true, false, ◌≡◌, ◌⊎◌, inl, inr, ⊎_elim, sym, ap, ◌∙◌, subst, ℕ}
use Rattle.std.proofs.Common.{zero, suc, ◌<◌, List, []}
use Rattle.std.proofs.Common.{◌∷◌, Some, None, slice_get, arith}
use Rattle.std.specs.Prelude.{Any, if◌then◌else◌}
use Rattle.facet_solver_shape.specs.Catalogues.{Catalogue, IsChecked}
use Rattle.facet_solver_shape.specs.Fields.{FieldView}
use Rattle.facet_solver_shape.specs.Keys.{Key}
use Rattle.facet_solver_shape.specs.Names.{Name}
use Rattle.facet_solver.specs.declared.build.format.Format.{Format}
use Rattle.facet_solver.specs.build.Build.{build_with}
use Rattle.facet_solver.specs.build.Choice.{IsChoiceDuplicate}
use Rattle.facet_solver.specs.build.Emissions.{Emission, a_field, some_key_paths, a_selection}
use Rattle.facet_solver.specs.build.Emissions.{a_catch_all}
use Rattle.facet_solver.specs.build.Place.{Path}
use Rattle.facet_solver_reader.specs.Choices.{Item, member_of, catch_all_of, presence_of}
use Rattle.facet_solver_reader.specs.Known.{Chooses, HasKey, HasTwice, IsDistinct, named}
use Rattle.facet_solver_reader.proofs.Quantifiers.{any_of_more, any_of_none}
use Rattle.facet_solver_reader.specs.Parts.{Target, of_struct}
use Rattle.facet_solver_reader.specs.Types.{parts_of}
use Rattle.facet_solver_agreement.specs.Alike.{IsTakenAlike}
use Rattle.facet_solver_agreement.specs.Asked.{Asked, asked_but, asked_by_member, asked_by_walk}
use Rattle.facet_solver_agreement.specs.Asked.{is_adjacent_content}
use Rattle.facet_solver_agreement.proofs.Emitted.{IsEmitted}
use Rattle.facet_solver_agreement.proofs.Named.{IsNameOf, asked_of_emitted}
use Rattle.facet_solver_agreement.proofs.Root.{chosen_as}

-- one name is asked for twice
abbrev Twice : List Asked → Type 0
Twice [] = ⊥
Twice (a ∷ others) = Any (IsNameOf a.name) others ⊎ Twice others

-- what stands among emissions is emitted
emitted_there : (es : List Emission) (k : ℕ) (f : FieldView) → slice_get es k ≡ Some (a_field f)
    → IsEmitted f es
emitted_there [] k f e = absurd (cc)
emitted_there (a_field g ∷ es) zero f e = inl cc
emitted_there (a_field g ∷ es) (suc k) f e = inr (emitted_there es k f e)
emitted_there (some_key_paths p ∷ es) zero f e = absurd (cc)
emitted_there (some_key_paths p ∷ es) (suc k) f e = emitted_there es k f e
emitted_there (a_selection s ∷ es) zero f e = absurd (cc)
emitted_there (a_selection s ∷ es) (suc k) f e = emitted_there es k f e
emitted_there (a_catch_all g ∷ es) zero f e = absurd (cc)
emitted_there (a_catch_all g ∷ es) (suc k) f e = emitted_there es k f e

-- two fields of one name ask for it twice
asked_twice : (es : List Emission) (i j : ℕ) (f g : FieldView) → i < j
    → slice_get es i ≡ Some (a_field f) → slice_get es j ≡ Some (a_field g) → g.name ≡ f.name
    → Twice (asked_by_walk es)
asked_twice [] i j f g lt e h same = absurd (cc)
asked_twice (x ∷ es) i zero f g lt e h same = absurd (omega arith)
asked_twice (a_field y ∷ es) zero (suc j) f g lt e h same =
    let here : y ≡ f = cc in
    inl
    (asked_of_emitted (IsNameOf y.name) es g (emitted_there es j g h)
    (same ∙ ap (λ (x : FieldView). x.name) (sym here)))
asked_twice (some_key_paths p ∷ es) zero (suc j) f g lt e h same = absurd (cc)
asked_twice (a_selection s ∷ es) zero (suc j) f g lt e h same = absurd (cc)
asked_twice (a_catch_all y ∷ es) zero (suc j) f g lt e h same = absurd (cc)
asked_twice (a_field y ∷ es) (suc i) (suc j) f g lt e h same =
    inr (asked_twice es i j f g (omega arith) e h same)
asked_twice (some_key_paths p ∷ es) (suc i) (suc j) f g lt e h same =
    asked_twice es i j f g (omega arith) e h same
asked_twice (a_selection s ∷ es) (suc i) (suc j) f g lt e h same =
    asked_twice es i j f g (omega arith) e h same
asked_twice (a_catch_all y ∷ es) (suc i) (suc j) f g lt e h same =
    asked_twice es i j f g (omega arith) e h same

module _ (left_out : Target → Bool) where
  -- a name that is asked for, whatever else is left out, is a key
  key_of : (items : List Item) (x : Name) → Any (IsNameOf x) (asked_but left_out items)
      → HasKey items (named x)
  key_of [] x h = absurd (any_of_none (IsNameOf x) h)
  key_of (member_of m r ∷ items) x h = go (left_out m.target) h (λ later. key_of items x later)
    where
      go : (b : Bool)
          → Any (IsNameOf x)
          (if b then asked_but left_out items else asked_by_member m ∷ asked_but left_out items)
          → (Any (IsNameOf x) (asked_but left_out items) → HasKey items (named x))
          → HasKey (member_of m r ∷ items) (named x)
      go true h later = inr (later h)
      go false h later =
          ⊎_elim (λ (e : m.name ≡ x). inl (ap named e))
          (λ (q : Any (IsNameOf x) (asked_but left_out items)). inr (later q))
          ((any_of_more (IsNameOf x) (asked_by_member m) (asked_but left_out items)).0 h)
  key_of (catch_all_of k t ∷ items) x h = inr (key_of items x h)
  key_of (presence_of s ∷ items) x h = key_of items x h

  -- a choice that asks for a name twice has a key twice
  key_twice : (items : List Item) → Twice (asked_but left_out items) → HasTwice items
  key_twice [] h = absurd h
  key_twice (member_of m r ∷ items) h = go (left_out m.target) h (λ later. key_twice items later)
    where
      go : (b : Bool)
          → Twice
          (if b then asked_but left_out items else asked_by_member m ∷ asked_but left_out items)
          → (Twice (asked_but left_out items) → HasTwice items) → HasTwice (member_of m r ∷ items)
      go true h later = inr (later h)
      go false (inl h) later = inl (key_of items m.name h)
      go false (inr h) later = inr (later h)
  key_twice (catch_all_of k t ∷ items) h = inr (key_twice items h)
  key_twice (presence_of s ∷ items) h = key_twice items h

module _ (shapes : Catalogue) (root : ℕ) (format : Format) (checked : IsChecked shapes)
    (alike : IsTakenAlike shapes root)
  where
    -- so what a reader takes has no duplicate keys
    pub none_twice : IsDistinct (Chooses (parts_of shapes) (of_struct root))
        → (name : Name) (first second : Path)
        → ¬ IsChoiceDuplicate (build_with shapes None format) root name first second
    none_twice distinct name first second d =
        let c = chosen_as shapes root format checked alike d.choice d.emissions d.emitted in
        let pair = d.duplicates in
        let same : d.second.name ≡ d.first.name = sym (ap (λ (k : Key). k.name) pair.same_key) in
        let twice : Twice (asked_by_walk d.emissions) =
        asked_twice d.emissions pair.first_at pair.second_at d.first d.second pair.in_order
        pair.first_is pair.second_is same in
        distinct c.readers c.items c.chooses
        (key_twice (is_adjacent_content shapes) c.items (subst Twice (sym c.same) twice))
