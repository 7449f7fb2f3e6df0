-- A plan is made of tables and of the numbers of targets.
use Rattle.std.proofs.Common.{◌≡◌, ◌↔◌, refl, sym, ap, ◌∙◌, subst, ⊎_elim, ℕ, zero, suc, ◌<◌, ◌+◌, List, [], ◌∷◌, ◌++◌}
use Rattle.std.proofs.Common.{All, MatchOption, Option, Some, None, map, option_map, slice_get, length, length-append, arith, Bor, IsTrue}
use Rattle.std.specs.Prelude.{IsSorted}
use Rattle.std.specs.List.{cons_option, filter_map, list_any}
use Rattle.std.specs.Str.{bytes_eq}
use Rattle.std.proofs.lemmas.Option.{slice_get-map}
use Rattle.facet_solver_shape.specs.Catalogues.{Catalogue}
use Rattle.facet_solver_shape.specs.Names.{Name, name_ref_cmp}
use Rattle.facet_solver_reader.specs.declared.end.End as code
use Rattle.facet_solver_reader.specs.declared.part.ListId as code_list
use Rattle.facet_solver_reader.specs.declared.part.Selection.{Selection as Selected}
use Rattle.facet_solver_reader.specs.declared.plan.Plan.{Plan}
use Rattle.facet_solver_reader.specs.declared.plan.PlannedEnd.{PlannedEnd}
use Rattle.facet_solver_reader.specs.declared.plan.PlannedSelection.{PlannedSelection}
use Rattle.facet_solver_reader.specs.declared.plan.PlannedList.{PlannedList}
use Rattle.facet_solver_reader.specs.declared.plan.PlannedPart.{PlannedPart}
use Rattle.facet_solver_reader.specs.declared.plan.PlannedPart.TheVariants as planned
use Rattle.facet_solver_reader.specs.declared.plan.numbers.Numbers.{Numbers}
use Rattle.facet_solver_reader.specs.declared.plan.target_key.TargetKey.{TargetKey}
use Rattle.facet_solver_reader.specs.declared.tables.List.{List as ListEntry}
use Rattle.facet_solver_reader.specs.declared.tables.slots.Slots.{Slots}
use Rattle.facet_solver_reader.specs.declared.tables.Tables.{Tables}
use Rattle.facet_solver_reader.specs.FieldPlaces.{field_name}
use Rattle.facet_solver_reader.specs.Known.{Chooses, HasChoice, IsKnown, IsKnownIn, Key, named, rest}
use Rattle.facet_solver_reader.specs.Parts.{CatchAll, of_map, of_anything, ListId, Part, a_member, a_selection, a_catch_all, Target, of_shape}
use Rattle.facet_solver_reader.specs.PlanNumbers.{AreFound, AreNumbersOf, CatchAllIsNumbered, EndIsNumbered, HasNumber, PartIsNumbered, VariantsHave, meaning_of, targets_of}
use Rattle.facet_solver_reader.specs.PlannedLists.{HasIndices, IsListFrom, IsListed, IsPartFrom, branches_of, indices_of}
use Rattle.facet_solver_reader.specs.Plans.{AreBelow, AreBranchesBefore, AreDistinct, AreInPairs, AreThoseChosen, none_left, chosen, passed, HasFieldName, HaveFieldNames, IsNameOfList, IsPlanOf, IsPlannedEnd, IsPlannedList, IsPlannedPart, IsPlannedSelection, IsPlannedTarget, has_key}
use Rattle.facet_solver_reader.specs.SelectionNames.{HasBranchNames, PartHasBranchNames}
use Rattle.facet_solver_reader.specs.Rules.{End, an_option, a_list, a_tuple, a_map}
use Rattle.facet_solver_reader.specs.Slots.{index_of}
use Rattle.facet_solver_reader.specs.Tables.{AreTables, BranchIsBefore, EndIsServed, IsList, IsListAt, ListIsServed, PartIsBefore, PartIsServed, ShapeIsServed, knows, rules_at}
use Rattle.facet_solver_reader.specs.TargetKeys.{key_view}
use Rattle.facet_solver_reader.specs.Views.{end_view, list_view, parts_view, selection_view}
use Rattle.facet_solver_reader.proofs.Opened.{at_either}
use Rattle.facet_solver_reader.proofs.Pairs.{pair_at, pair_of, pairs_of, pairs_weaker}
use Rattle.facet_solver_reader.proofs.Quantifiers.{all_of_more, all_of_none}

-- the names of the lists of tables
abbrev pub lists_of : Tables → List ListId
lists_of t = map (λ l. list_view l.id) t.lists.items

-- there is no choice of a list
abbrev HasNone : Tables → ListId → Type 0
HasNone t id = HasChoice (Chooses (rules_at t).lists id) → ⊥

-- the index of a list is its number
pub list_number : (t : Tables) (id : ListId) → ListIsServed t id
    → MatchOption (index_of t.slots id) (HasNone t id)
    (λ n. slice_get (lists_of t) n ≡ Some id)
list_number t id served = go (index_of t.slots id) served
  where
    go : (o : Option ℕ) → MatchOption o (HasNone t id) (IsListAt t id)
        → MatchOption o (HasNone t id) (λ n. slice_get (lists_of t) n ≡ Some id)
    go None h = h
    go (Some n) at =
        slice_get-map (λ (l : ListEntry). list_view l.id) t.lists.items n
        ∙ ap (option_map (λ (l : ListEntry). list_view l.id)) at.is_there ∙ ap Some at.same

-- the indices of branches are the numbers of those that some choice has
pub those_chosen : (t : Tables) (n : Numbers) (ids : List ListId) → All (ListIsServed t) ids
    → AreThoseChosen (meaning_of t n) ids (indices_of t.slots ids)
those_chosen t n [] h = none_left
those_chosen t n (id ∷ ids) h =
    let both = (all_of_more (ListIsServed t) id ids).0 h in
    go (index_of t.slots id) (list_number t id both.0) (those_chosen t n ids both.1)
  where
    go : (o : Option ℕ)
        → MatchOption o (HasNone t id) (λ n. slice_get (lists_of t) n ≡ Some id)
        → AreThoseChosen (meaning_of t n) ids (indices_of t.slots ids)
        → AreThoseChosen (meaning_of t n) (id ∷ ids) (cons_option o (indices_of t.slots ids))
    go None none after = passed id ids (indices_of t.slots ids) none after
    go (Some k) at after = chosen id ids k (indices_of t.slots ids) at after

-- a number stands before a position of a list of numbers
abbrev Before : List ℕ → ℕ → ℕ → Type 0
Before below position n = (q : ℕ) × (q < position) × (slice_get below q ≡ Some n)

-- the indices of branches stand before a position where the branches do
indices_before : (t : Tables) (below : List ℕ) (position : ℕ) (ids : List ListId)
    → All (BranchIsBefore t below position) ids
    → All (Before below position) (indices_of t.slots ids)
indices_before t below position [] h = all_of_none (Before below position)
indices_before t below position (id ∷ ids) h =
    let both = (all_of_more (BranchIsBefore t below position) id ids).0 h in
    go (index_of t.slots id) both.0 (indices_before t below position ids both.1)
  where
    go : (o : Option ℕ) → MatchOption o (Unit {0}) (Before below position)
        → All (Before below position) (indices_of t.slots ids)
        → All (Before below position) (cons_option o (indices_of t.slots ids))
    go None none after = after
    go (Some k) at after =
        (all_of_more (Before below position) k (indices_of t.slots ids)).1 (at, after)

-- so do those of the branches of a part
branches_before : (t : Tables) (below : List ℕ) (position : ℕ) (part : Part)
    → PartIsBefore t below position part
    → All (BranchIsBefore t below position) (branches_of part)
branches_before t below position (a_member m) h = all_of_none (BranchIsBefore t below position)
branches_before t below position (a_selection s) h = h
branches_before t below position (a_catch_all k) h = all_of_none (BranchIsBefore t below position)

part_before : (t : Tables) (below : List ℕ) (position : ℕ) (part : Part) (p : PlannedPart)
    → HasIndices t.slots part p → PartIsBefore t below position part
    → AreBranchesBefore below position p
part_before t below position part (planned.Member p) is h = tt
part_before t below position part (planned.Selection p) is h =
    subst (λ ns. All (Before below position) ns) (sym is)
    (indices_before t below position (branches_of part)
    (branches_before t below position part h))
part_before t below position part (planned.CatchAll p) is h = tt

parts_before : (t : Tables) (below : List ℕ) (position : ℕ) (parts : List Part)
    (ps : List PlannedPart) → AreInPairs (HasIndices t.slots) parts ps
    → All (PartIsBefore t below position) parts → All (AreBranchesBefore below position) ps
parts_before t below position [] [] are h = all_of_none (AreBranchesBefore below position)
parts_before t below position [] (p ∷ ps) are h = absurd are
parts_before t below position (part ∷ parts) [] are h = absurd are
parts_before t below position (part ∷ parts) (p ∷ ps) are h =
    let both = (all_of_more (PartIsBefore t below position) part parts).0 h in
    (all_of_more (AreBranchesBefore below position) p ps).1 (
      part_before t below position part p are.0 both.0,
      parts_before t below position parts ps are.1 both.1,
    )

-- what is below a list
module _ (t : Tables) (n : Numbers) (p : Plan) (are : AreInPairs (IsListFrom t n) t.lists.items p.lists.items) where
  each_before : (below : List ℕ) (position index : ℕ) (l : ListEntry)
      → slice_get t.lists.items index ≡ Some l
      → All (PartIsBefore t below position) (parts_view l.parts.items)
      → (made : PlannedList) × (slice_get p.lists.items index ≡ Some made)
      × All (AreBranchesBefore below position) made.parts.items
  each_before below position index l at before =
      let made = pair_of (IsListFrom t n) t.lists.items p.lists.items index l are at in (
        made.0,
        made.1,
        parts_before t below position (parts_view l.parts.items) made.0.parts.items
            made.2.branches before,
      )

  below_list : (index : ℕ) (l : ListEntry) (made : PlannedList) → IsList t index l
      → IsListFrom t n l made → AreBelow p index made.below.items
  below_list index l made is from =
      subst (AreBelow p index) (sym from.below)
      (record {
        rising = is.rising;
        last = is.last;
        branches = λ q k at.
            let here = is.in_order q k at in
            each_before l.below.items q k here.0 here.1 here.2;
      })

  below_each : AreTables t → (index : ℕ) (made : PlannedList)
      → slice_get p.lists.items index ≡ Some made → AreBelow p index made.below.items
  below_each tables index made at =
      let pair = pair_at (IsListFrom t n) t.lists.items p.lists.items index made are at in
      below_list index pair.0 made (tables.lists index pair.0 pair.1) pair.2

-- the key of a target that stands in a list of keys
key_at : (xs : List TargetKey) (k : ℕ) (u : Target) → slice_get (map key_view xs) k ≡ Some u
    → (x : TargetKey) × (key_view x ≡ u)
key_at [] k u e = absurd (cc)
key_at (x ∷ xs) zero u e = let same : key_view x ≡ u = cc in (x, same)
key_at (x ∷ xs) (suc k) u e = key_at xs k u e

-- each target has one number
one_number : (n : Numbers) → AreFound n → AreDistinct (targets_of n)
one_number n found j k u first second =
    let x = key_at n.targets.items j u first in
    let one = found.given x.0 j (first ∙ ap Some (sym x.1)) in
    let two = found.given x.0 k (second ∙ ap Some (sym x.1)) in cc (one, two)

-- a plan of tables
pub plan_of : (t : Tables) (n : Numbers) (root : ℕ) (p : Plan) → AreTables t → AreNumbersOf t n
    → AreInPairs (IsPlannedTarget (meaning_of t n)) (targets_of n) p.targets.items
    → AreInPairs (IsListFrom t n) t.lists.items p.lists.items
    → slice_get (targets_of n) p.root ≡ Some (of_shape root) → p.strict ≡ t.strict
    → p.shapes.now ≡ t.shapes.now → IsPlanOf (rules_at t) t.shapes.now (of_shape root) p
plan_of t n root p tables are targets lists root_is strict keys = record {
  targets = targets_of n;
  lists = lists_of t;
  each_target = targets;
  each_list = pairs_of (IsListFrom t n) (IsPlannedList (meaning_of t n))
      (λ (l : ListEntry). list_view l.id) (λ l made from. from.planned) t.lists.items
      p.lists.items lists;
  distinct = one_number n are.numbers.found;
  asked_first = are.numbers.asked_first;
  below = below_each t n p lists tables;
  root_is = root_is;
  strict = strict;
  keys = keys;
}

-- a shape that tables have has a number
pub shape_numbered : (t : Tables) (n : Numbers) (id : ℕ) → AreNumbersOf t n → ShapeIsServed t id
    → HasNumber n (of_shape id)
shape_numbered t n id are served = are.ends.shapes id served.0 served.1

-- so have shapes
pub shapes_numbered : (t : Tables) (n : Numbers) (ids : List ℕ) → AreNumbersOf t n
    → All (ShapeIsServed t) ids → All (λ id. HasNumber n (of_shape id)) ids
shapes_numbered t n ids are served = λ k d l. shape_numbered t n _ are (served k d l)

-- what a catch-all of tables reads values as has a number
pub catch_all_numbered : (t : Tables) (n : Numbers) (k : CatchAll) → AreNumbersOf t n
    → PartIsServed t (a_catch_all k) → CatchAllIsNumbered n k
catch_all_numbered t n (of_map key value) are served = shape_numbered t n value are served
catch_all_numbered t n of_anything are served = tt

-- what an end names has numbers
pub end_numbered : (t : Tables) (n : Numbers) (e : End) → AreNumbersOf t n → EndIsServed t e
    → VariantsHave (HasNumber n) e → EndIsNumbered n e
end_numbered t n (an_option id) are served variants = shape_numbered t n id are served
end_numbered t n (a_list id) are served variants = shape_numbered t n id are served
end_numbered t n (a_tuple ids) are served variants =
    λ k d l. shape_numbered t n _ are (served k d l)
end_numbered t n (a_map key value) are served variants = shape_numbered t n value are served
end_numbered t n _ are served variants = variants

-- a list that was pushed to is longer by one
pub one_longer : {X : Type 0} (old : List X) (x : X) (new : List X) (i : ℕ) → new ≡ old ++ x ∷ []
    → length old ≡ i → length new ≡ i + 1
one_longer old x new i grown count =
    let long : length new ≡ length old + 1 = ap length grown ∙ length-append old (x ∷ []) in
    omega (arith, long, count)

-- one selection more has the name of its field
pub fields_more : (shapes : Catalogue) (id : ListId) (i : ℕ) (old new : List PlannedPart)
    (p : PlannedPart) → HaveFieldNames shapes id old → length old ≡ i → new ≡ old ++ p ∷ []
    → HasFieldName (field_name shapes id i) p → HaveFieldNames shapes id new
fields_more shapes id i old new p before count grown here k q at =
    ⊎_elim (λ (front : slice_get old k ≡ Some q). before k q front)
    (λ (after : (j : ℕ) × (k ≡ length old + j) × (slice_get (p ∷ []) j ≡ Some q)).
    go after.0 after.1 after.2)
    (at_either old (p ∷ []) k q (ap (λ ps. slice_get ps k) (sym grown) ∙ at))
  where
    go : (j : ℕ) → k ≡ length old + j → slice_get (p ∷ []) j ≡ Some q
        → HasFieldName (field_name shapes id k) q
    go zero is there =
        let same : p ≡ q = cc in
        let index : i ≡ k = omega arith in
        subst (λ n. HasFieldName (field_name shapes id n) q) index
        (subst (HasFieldName (field_name shapes id i)) same here)
    go (suc j) is there = absurd (cc)

-- whether a list has a key is as in tables
key_same : (l : ListEntry) (p : PlannedList) → p.names.items ≡ l.names.items
    → p.takes_rest ≡ l.takes_rest → (x : Key) → knows l x ≡ has_key p x
key_same l p names takes_rest (named x) =
    ap (λ ns. list_any (λ n. bytes_eq n.now x) ns) (sym names)
key_same l p names takes_rest rest = sym takes_rest

-- a list of tables as it is planned
module _ (t : Tables) (n : Numbers) (index : ℕ) (l : ListEntry) (p : PlannedList) (tables : AreTables t) (at : slice_get t.lists.items index ≡ Some l) (made : AreInPairs (IsPartFrom t n) (parts_view l.parts.items) p.parts.items) where
  pub list_from : IsNameOfList t.shapes.now (list_view l.id) p.name
      → HaveFieldNames t.shapes.now (list_view l.id) p.parts.items
      → p.names.items ≡ l.names.items → p.takes_rest ≡ l.takes_rest
      → p.below.items ≡ l.below.items → IsListFrom t n l p
  list_from name fields names takes_rest below =
      let is : IsList t index l = tables.lists index l at in
      record {
        planned = record {
          name = name;
          parts = parts_view l.parts.items;
          parts_are = is.same;
          each = pairs_weaker (IsPartFrom t n) (IsPlannedPart (meaning_of t n))
              (λ part q from. from.planned) (parts_view l.parts.items) p.parts.items made;
          fields = fields;
          sorted = subst (IsSorted name_ref_cmp) (sym names) is.sorted;
          known = λ x.
              subst (λ b. IsTrue b ↔ IsKnown (Chooses (rules_at t).lists (list_view l.id)) x)
              (key_same l p names takes_rest x) (is.known x);
          chosen = is.chosen;
          distinct = is.distinct;
        };
        branches = pairs_weaker (IsPartFrom t n) (HasIndices t.slots) (λ part q from. from.indices)
            (parts_view l.parts.items) p.parts.items made;
        below = below;
      }

-- a selection of tables as it is planned
pub selection_from : (t : Tables) (n : Numbers) (s : Selected) (p : PlannedSelection)
    → All (ListIsServed t) (selection_view s).branches → HasBranchNames (rules_at t).lists s
    → p.optional ≡ s.optional → p.branches.items ≡ indices_of t.slots (selection_view s).branches
    → p.names.items ≡ s.names.items
    → IsPlannedSelection (meaning_of t n) (selection_view s) p
selection_from t n s p served has optional branches names = record {
  optional = optional;
  branches = subst (AreThoseChosen (meaning_of t n) (selection_view s).branches) (sym branches)
      (those_chosen t n (selection_view s).branches served);
  sorted = subst (IsSorted name_ref_cmp) (sym names) has.sorted;
  known = λ x.
      subst
      (λ (ns : List (Bor Name)). IsTrue (list_any (λ n. bytes_eq n.now x) ns)
      ↔ IsKnownIn (rules_at t).lists (selection_view s) (named x)) (sym names) (has.known x);
}

-- the indices of branches, wherever they lie
pub indices_viewed : (slots : Slots) (ids : List code_list.ListId)
    → filter_map (λ id. index_of slots (list_view id)) ids ≡ indices_of slots (map list_view ids)
indices_viewed slots [] = refl
indices_viewed slots (id ∷ ids) =
    ap (cons_option (index_of slots (list_view id))) (indices_viewed slots ids)

-- a listed list leads to what tables have and what has numbers
module _ (t : Tables) (n : Numbers) (l : ListEntry) (listed : IsListed t l) where
  pub listed_served : AreTables t → All (PartIsServed t) (parts_view l.parts.items)
  listed_served tables = (tables.lists listed.0 l listed.1).served

  pub listed_named : AreTables t → All (PartHasBranchNames (rules_at t).lists) l.parts.items
  listed_named tables = (tables.lists listed.0 l listed.1).named

  pub listed_numbered : AreNumbersOf t n → All (PartIsNumbered n) (parts_view l.parts.items)
  listed_numbered are = are.lists listed.0 l listed.1

-- what the shape at an index comes to, with all that it needs
module _ (t : Tables) (n : Numbers) (id : ℕ) (e : code.End) (tables : AreTables t) (are : AreNumbersOf t n) (at : slice_get t.ends.items id ≡ Some (Some e)) where
  pub end_here_served : EndIsServed t (end_view e)
  end_here_served = (tables.ends id e at).served

  pub end_here_numbered : EndIsNumbered n (end_view e)
  end_here_numbered =
      end_numbered t n (end_view e) are (tables.ends id e at).served (are.ends.variants id e at)

  pub end_here_planned : (p : PlannedEnd) → IsPlannedEnd (meaning_of t n) (end_view e) p
      → IsPlannedEnd (meaning_of t n) ((rules_at t).end_of id) p
  end_here_planned p h =
      subst (λ x. IsPlannedEnd (meaning_of t n) x p) (tables.ends id e at).same h
