-- What is marked stays met.
use Rattle.std.proofs.Common.{◌≡◌, ⊎_elim, sym, ap, subst, ◌∙◌, ℕ, ◌<◌, Bool, true, List, map, Some, get_or, length}
use Rattle.std.proofs.Common.{MatchOption}
use Rattle.std.proofs.Math.ListN.{set}
use Rattle.std.specs.List.{All}
use Rattle.std.specs.Option.{option_map}
use Rattle.std.proofs.lemmas.Option.{same_Some, slice_get-get_or, slice_get-map}
use Rattle.facet_solver_shape.specs.Catalogues.{Catalogue}
use Rattle.facet_solver_reader.specs.declared.tables.every.EveryList.{EveryList}
use Rattle.facet_solver_reader.specs.declared.tables.every.Listed.{Listed}
use Rattle.facet_solver_reader.specs.declared.tables.marks.Marks.{Marks}
use Rattle.facet_solver_reader.specs.EveryList.{AreEveryList, IsChosen, IsNumbered}
use Rattle.facet_solver_reader.specs.Marks.{HasChoiceAt}
use Rattle.facet_solver_reader.specs.Met.{IfChosen, ListIsMet, NumberIsMet, ShapeIsMet, StayMet}
use Rattle.facet_solver_reader.specs.OrderedLists.{IsMarked}
use Rattle.facet_solver_reader.specs.Parts.{ListId}
use Rattle.facet_solver_reader.specs.Slots.{index_of}
use Rattle.facet_solver_reader.specs.Views.{list_view}
use Rattle.facet_solver_reader.proofs.Marks.{marked_before}
use Rattle.facet_solver_reader.proofs.Quantifiers.{all_at}

module _ (shapes : Catalogue) (every : EveryList) where
  -- a shape that is marked
  pub shape_stays : (old new : Marks) (i id : ℕ) → new.shapes.items ≡ set old.shapes.items i true
      → i ≡ id → new.lists.items ≡ old.lists.items
      → StayMet shapes every old new (λ strict root. ShapeIsMet shapes strict root id)
  shape_stays old new i id set_is same lists strict root listed met h = record {
    of_shapes = λ k m.
        ⊎_elim
        (λ (e : k ≡ i). subst (ShapeIsMet shapes strict root) (sym (e ∙ same)) met)
        (λ (b : IsMarked old.shapes.items k). h.of_shapes k b)
        (marked_before old.shapes.items i k (subst (λ xs. IsMarked xs k) set_is m));
    of_lists = λ k m. h.of_lists k (subst (λ xs. IsMarked xs k) lists m);
  }

  -- one change after another
  pub stays_on : (a b c : Marks) (P Q : Bool → ℕ → Type 0)
      → ((strict : Bool) (root : ℕ) → P strict root → Q strict root)
      → StayMet shapes every a b P → StayMet shapes every b c Q → StayMet shapes every a c P
  stays_on a b c P Q f s t strict root listed p h =
      t strict root listed (f strict root p) (s strict root listed p h)

  -- a list of a number is met, if one is that some choice has
  pub number_met : (id : ListId) (number : ℕ) → AreEveryList shapes every
      → index_of every.numbers id ≡ Some number → HasChoiceAt every number
      → (strict : Bool) (root : ℕ) → IfChosen shapes strict root id
      → NumberIsMet shapes every strict root number
  number_met id number listed e has strict root met l at =
      let there : IsNumbered every id number =
      subst (λ i. MatchOption i (IsChosen shapes id → ⊥) (IsNumbered every id)) e (listed.numbered id) in
      let same : there.list ≡ l = same_Some there.list l (sym there.is_there ∙ at) in
      let named : list_view l.id ≡ id = ap (λ (x : Listed). list_view x.id) (sym same) ∙ there.same in
      let one : has.list ≡ l = same_Some has.list l (sym has.is_there ∙ at) in
      let told = subst (λ (x : Listed). x.has_choice ≡ true) one has.chosen in
      let chosen : IsChosen shapes id = subst (IsChosen shapes) named ((listed.listed number l at).chosen.0 told) in
      subst (ListIsMet shapes strict root) (sym named) (met chosen)

-- one element of those that all have a property
pub one_of_all : {X Y : Type 0} (P : X → Type 0) (see : Y → X) (ys : List Y) (i : ℕ) (y : Y)
    → i < length ys → y ≡ get_or ys i y → All P (map see ys) → P (see y)
one_of_all P see ys i y within read all =
    all_at P (map see ys) i (see y) all
    (slice_get-map see ys i
    ∙ ap (option_map see) (slice_get-get_or ys i y within ∙ ap Some (sym read)))
