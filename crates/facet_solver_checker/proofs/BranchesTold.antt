-- Two branches of a selection that read no object in common, whatever the numbers of a plan stand
-- for.
use Rattle.std.proofs.Common.{◌≡◌, ◌∙◌, sym, ap, subst, refl, ℕ, Bool, true, false, Ok, Err, Result}
use Rattle.std.proofs.Common.{Some, slice_get, ◌||◌, List}
use Rattle.std.specs.Result.{IfOk}
use Rattle.std.specs.declared.alloc.AllocError.{AllocError}
use Rattle.facet_solver_shape.specs.Names.{Name}
use Rattle.facet_solver_reader.specs.declared.plan.Plan.{Plan}
use Rattle.facet_solver_reader.specs.declared.plan.PlannedList.{PlannedList}
use Rattle.facet_solver_reader.specs.declared.plan.PlannedPart.TheVariants as parts
use Rattle.facet_solver_reader.specs.declared.plan.PlannedSelection.{PlannedSelection}
use Rattle.facet_solver_reader.specs.Objects.{Reads, Touches}
use Rattle.facet_solver_reader.specs.Parts.{ListId}
use Rattle.facet_solver_reader.specs.Plans.{IsNumberOfList, Meaning}
use Rattle.facet_solver_reader.specs.Values.{ReadsDown}
use Rattle.facet_solver_checker.specs.declared.apart.Apart.{Apart}
use Rattle.facet_solver_checker.specs.Apartness.{AreNamesRequired}
use Rattle.facet_solver_checker.specs.Aparts.{LeavesAll}
use Rattle.facet_solver_checker.specs.Atoms.{IsPlanFor}
use Rattle.facet_solver_checker.specs.BranchesMeet.{AreApartIn, IsMemberApart}
use Rattle.facet_solver_checker.specs.Comes.{TouchesList}
use Rattle.facet_solver_checker.specs.Forks.{AreBranchesApart, IsSelectionApart, ReadsNone}
use Rattle.facet_solver_checker.specs.Forks.{SelectionMeets}
use Rattle.facet_solver_checker.specs.PlanMembers.{AreListsOf}
use Rattle.facet_solver_checker.specs.Requires.{AreRequired, IsRequiredBy, NameLists}
use Rattle.facet_solver_checker.specs.Touched.{AreTouched, is_touched}
use Rattle.facet_solver_checker.proofs.BranchesApart.{none_read, touches_of}
use Rattle.facet_solver_checker.proofs.TouchedLists.{only_selection, touches_only}

-- what is told of two branches for one meaning is so for each
pub branches_told : (plan : Plan) (apart : Apart) (names : NameLists) (n : ℕ) (must : Bool)
    (branches : ℕ × ℕ) → AreNamesRequired plan names → (r : Result Bool AllocError)
    → ((m : Meaning) → AreListsOf m plan → AreRequired m names → LeavesAll m apart
    → IfOk r (λ b. b ≡ true → AreApartIn m must branches.0 branches.1))
    → IfOk r (λ b. b ≡ true → AreBranchesApart plan apart n must branches)
branches_told plan apart names n must branches required (Ok b) f =
    λ h m is leaves s x y at_x at_y d j k branch_x branch_y meet comes touch.
    let lists = is.meaning.lists in
    f m lists (required m lists) leaves h s x y at_x at_y d j k branch_x branch_y meet touch
branches_told plan apart names n must branches required (Err e) f = tt

-- so is what is told of a list
pub none_told : (plan : Plan) (apart : Apart) (names : NameLists) (n : ℕ)
    → AreNamesRequired plan names → (b : Bool)
    → ((m : Meaning) → AreListsOf m plan → AreRequired m names
    → b ≡ true → (x : Name) × IsRequiredBy m n x × IsMemberApart m apart n n x)
    → b ≡ true → ReadsNone plan apart n
none_told plan apart names n required b f = λ h m is leaves d object comes.
    let lists = is.meaning.lists in
    let w = f m lists (required m lists) h in
    none_read m apart n w.0 w.1 w.2 leaves comes.id comes.numbered d object comes.choice
    comes.is_read

-- where no object comes to a list, none is read by two branches
pub none_comes : (plan : Plan) (apart : Apart) (n : ℕ) (must : Bool) (branches : ℕ × ℕ)
    → ReadsNone plan apart n → AreBranchesApart plan apart n must branches
none_comes plan apart n must branches none =
    λ m is leaves s x y at_x at_y d j k branch_x branch_y meet comes touch.
    none m is leaves d meet.object comes

-- what is there is one thing
some_is : {A : Type 0} {x y : A} → Some x ≡ Some y → x ≡ y
some_is p = cc

-- one selection
selection_is : {p q : PlannedSelection}
    → Some (parts.Selection p) ≡ Some (parts.Selection q) → p ≡ q
selection_is e = cc

module _ (plan : Plan) (apart : Apart) (at ways : ℕ × ℕ) (l : PlannedList) (p : PlannedSelection)
    (a b : ℕ) (list_is : slice_get plan.lists.items at.0 ≡ Some l)
    (part_is : slice_get l.parts.items at.1 ≡ Some (parts.Selection p))
    (first_is : slice_get p.branches.items ways.0 ≡ Some a)
    (second_is : slice_get p.branches.items ways.1 ≡ Some b) where
  -- the selection that stands there
  module _ (m : Meaning) (reads : Reads) (w : SelectionMeets m plan reads at ways) where
    planned_same : p ≡ w.there.planned
    planned_same =
        let same_list : l ≡ w.there.list = some_is (sym list_is ∙ w.there.list_is) in
        selection_is (sym part_is
        ∙ (ap (λ (z : PlannedList). slice_get z.parts.items at.1) same_list ∙ w.there.planned_is))

    first_same : a ≡ w.first.number
    first_same =
        some_is (sym first_is
        ∙ (ap (λ (z : PlannedSelection). slice_get z.branches.items ways.0) planned_same
        ∙ w.first.stands))

    second_same : b ≡ w.second.number
    second_same =
        some_is (sym second_is
        ∙ (ap (λ (z : PlannedSelection). slice_get z.branches.items ways.1) planned_same
        ∙ w.second.stands))

    -- an object that comes to it has a member that it knows, where that is told
    must_touch : IsPlanFor m plan → (flags : List Bool) → AreTouched plan flags
        → (p.optional || is_touched flags at.0) ≡ true
        → Touches m.rules w.meet.object w.selection
    must_touch is flags are = go p.optional refl
      where
        go : (o : Bool) → p.optional ≡ o → (o || is_touched flags at.0) ≡ true
            → Touches m.rules w.meet.object w.selection
        go true optional e =
            let same : w.selection.optional ≡ p.optional =
            sym w.there.is_planned.optional
            ∙ ap (λ (z : PlannedSelection). z.optional) (sym planned_same) in
            touches_of m reads w.selection w.meet.object w.j w.meet.first_choice (same ∙ optional)
            w.meet.first_reads
        go false optional e =
            let id_same : w.comes.id ≡ w.there.id =
            some_is (sym w.comes.numbered ∙ w.there.numbered) in
            touches_only m.rules w.meet.object w.there.id w.selection
            (only_selection m plan at.0 at.1 w.selection w.there is flags are e)
            (subst (λ i. TouchesList m.rules w.meet.object i) id_same
            (w.comes.touched flags are e))

  -- the branches that stand at a place
  pub selection_told : (must : Bool) (flags : List Bool) → AreTouched plan flags
      → must ≡ (p.optional || is_touched flags at.0)
      → AreBranchesApart plan apart at.0 must (a, b) → IsSelectionApart plan apart at ways
  selection_told must flags are must_is h = λ m is leaves d w.
      let reads = ReadsDown m.rules d in
      let first_index : w.first.index_of ≡ w.j = let e = w.first.side in cc in
      let second_index : w.second.index_of ≡ w.k = let e = w.second.side in cc in
      h m is leaves w.selection w.first.list w.second.list
      (subst (λ i. IsNumberOfList m w.first.list i) (sym (first_same m reads w)) w.first.numbered)
      (subst (λ i. IsNumberOfList m w.second.list i) (sym (second_same m reads w))
      w.second.numbered)
      d w.j w.k
      (subst (λ i. slice_get w.selection.branches i ≡ Some w.first.list) first_index
      w.first.is_branch)
      (subst (λ i. slice_get w.selection.branches i ≡ Some w.second.list) second_index
      w.second.is_branch)
      w.meet w.comes (λ e. must_touch m reads w is flags are (sym must_is ∙ e))
