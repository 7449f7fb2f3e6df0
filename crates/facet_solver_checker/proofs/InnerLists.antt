-- The choices of a list that is one selection are those of its branches.
use Rattle.std.proofs.Common.{◌≡◌, ◌∙◌, sym, ap, subst, refl, ℕ, zero, suc, List, [], ◌∷◌, ◌++◌}
use Rattle.std.proofs.Common.{Option, Some, None, Bool, true, false, slice_get, if◌then◌else◌}
use Rattle.std.specs.Option.{option_map_or, unwrap_or}
use Rattle.std.proofs.lemmas.List.{append-nil}
use Rattle.facet_solver_reader.specs.declared.plan.Plan.{Plan}
use Rattle.facet_solver_reader.specs.declared.plan.PlannedList.{PlannedList}
use Rattle.facet_solver_reader.specs.declared.plan.PlannedPart.{PlannedPart}
use Rattle.facet_solver_reader.specs.declared.plan.PlannedPart.TheVariants as planned
use Rattle.facet_solver_reader.specs.declared.plan.PlannedSelection.{PlannedSelection}
use Rattle.facet_solver_reader.specs.Choices.{Choice, ChoiceAt, ChoosesPart, ChoosesParts, done}
use Rattle.facet_solver_reader.specs.Choices.{next, lacking, having, without, choosing, taking}
use Rattle.facet_solver_reader.specs.Choices.{Item, presence_of, presence}
use Rattle.facet_solver_reader.specs.Known.{Chooses}
use Rattle.facet_solver_reader.specs.Parts.{ListId, Part, a_member, a_selection, a_catch_all}
use Rattle.facet_solver_reader.specs.Parts.{Selection}
use Rattle.facet_solver_reader.specs.Plans.{AreInPairs, IsNumberOfList, IsPlannedPart}
use Rattle.facet_solver_reader.specs.Plans.{IsPlannedSelection, Meaning}
use Rattle.facet_solver_checker.specs.Inners.{AreInners, IsThrough, IsThroughSome, all_inners}
use Rattle.facet_solver_checker.specs.Inners.{branches_of_only, inners_at}
use Rattle.facet_solver_checker.specs.PlanMembers.{AreListsOf, IsIn}
use Rattle.facet_solver_checker.proofs.Among.{in_flat_map}
use Rattle.facet_solver_checker.proofs.ListItems.{ListThere, list_there, number_of_branch}

-- items of a selection that is always present are those of a branch
only_items : (s : Selection) (first second of_branch items : List Item) → s.optional ≡ false
    → items ≡ first ++ second → first ≡ presence s ++ of_branch → second ≡ [] → items ≡ of_branch
only_items s first second of_branch items optional is first_is second_is =
    is ∙ ap (λ (x : List Item). x ++ second) (first_is ∙ ap (λ (b : Bool).
    (if b then presence_of s ∷ [] else []) ++ of_branch) optional)
    ∙ ap (λ (x : List Item). of_branch ++ x) second_is ∙ append-nil of_branch

module _ (m : Meaning) where
  -- a choice of such parts is one of a branch
  through_branch : (s : Selection) (q : PlannedSelection) → IsPlannedSelection m s q
      → q.optional ≡ false → (c : Choice) (items : List Item)
      → ChoosesParts m.rules.lists c (a_selection s ∷ []) items
      → IsThroughSome m items q.branches.items
  through_branch s q is optional done items h = absurd h
  through_branch s q is optional (next a (next b c)) items h = absurd h.chooses_second
  through_branch s q is optional (next lacking done) items h = absurd h.chooses_first
  through_branch s q is optional (next (having r) done) items h = absurd h.chooses_first
  through_branch s q is optional (next (taking t) done) items h = absurd h.chooses_first
  through_branch s q is optional (next without done) items h =
      let yes : s.optional ≡ true = h.chooses_first.0 in
      let no : s.optional ≡ false = sym is.optional ∙ optional in absurd (cc)
  through_branch s q is optional (next (choosing k c) done) items h =
      let f = h.chooses_first in
      let b = f.chooses in
      let number = number_of_branch m s.branches q.branches.items is.branches k b.list b.branch_is
      (record { choice = c; items = f.of_branch; chooses = b.chooses }) in
      let same = only_items s h.first h.second f.of_branch items (sym is.optional ∙ optional)
      h.items_are f.items_are h.chooses_second in
      record {
        number = number.0;
        among = number.2;
        through = record {
          id = b.list;
          is = number.1;
          choice = c;
          chooses = subst (λ (is : List Item). Chooses m.rules.lists b.list c is) (sym same)
              b.chooses;
        };
      }

  -- so is one of a list whose parts are so planned
  through_parts : (n : ℕ) (ps : List Part) (qs : List PlannedPart)
      → AreInPairs (IsPlannedPart m) ps qs
      → (c : Choice) (items : List Item) → ChoosesParts m.rules.lists c ps items
      → IsThrough m items n → IsThroughSome m items (unwrap_or (branches_of_only qs) (n ∷ []))
  through_parts n ps [] are c items h itself =
      record { number = n; among = (zero, refl); through = itself }
  through_parts n ps (planned.Member q ∷ qs) are c items h itself =
      record { number = n; among = (zero, refl); through = itself }
  through_parts n ps (planned.CatchAll q ∷ qs) are c items h itself =
      record { number = n; among = (zero, refl); through = itself }
  through_parts n ps (planned.Selection q ∷ r ∷ qs) are c items h itself =
      record { number = n; among = (zero, refl); through = itself }
  through_parts n [] (planned.Selection q ∷ []) are c items h itself = absurd are
  through_parts n (p ∷ o ∷ ps) (planned.Selection q ∷ []) are c items h itself = absurd are.1
  through_parts n (a_member part ∷ []) (planned.Selection q ∷ []) are c items h itself =
      absurd are.0
  through_parts n (a_catch_all k ∷ []) (planned.Selection q ∷ []) are c items h itself =
      absurd are.0
  through_parts n (a_selection s ∷ []) (planned.Selection q ∷ []) are c items h itself =
      go q.optional refl
    where
      go : (b : Bool) → q.optional ≡ b
          → IsThroughSome m items
          (unwrap_or (if b then None else Some q.branches.items) (n ∷ []))
      go true e = record { number = n; among = (zero, refl); through = itself }
      go false e = through_branch s q are.0 e c items h

  -- a choice of a list has the items of a choice of one of its branches, or of itself
  module _ (p : Plan) (is : AreListsOf m p) where
    through_inner : (n : ℕ) (items : List Item) → IsThrough m items n
        → IsThroughSome m items (inners_at p.lists.items n)
    through_inner n items t =
        let l = list_there m p.lists.items [] is.each n t.id t.chooses.parts t.is
        t.chooses.parts_are in
        subst
        (λ (o : Option PlannedList). IsThroughSome m items
        (option_map_or (λ x. unwrap_or (branches_of_only x.parts.items) (n ∷ [])) o (n ∷ [])))
        (sym l.1)
        (through_parts n t.chooses.parts l.0.parts.items l.2 t.choice items t.chooses.chooses t)

    -- going on from lists to their branches
    pub inners_more : (n : ℕ) (numbers : List ℕ) → AreInners m n numbers
        → AreInners m n (all_inners p.lists.items numbers)
    inners_more n numbers are items t =
        let some = are items t in
        let inner = through_inner some.number items some.through in
        record {
          number = inner.number;
          among = in_flat_map (inners_at p.lists.items) some.number inner.number inner.among
              numbers some.among;
          through = inner.through;
        }

  -- beginning with a list itself
  pub inners_begin : (n : ℕ) (numbers : List ℕ) → numbers ≡ n ∷ [] → AreInners m n numbers
  inners_begin n numbers e items t =
      record { number = n; among = (zero, ap (λ ns. slice_get ns zero) e); through = t }
