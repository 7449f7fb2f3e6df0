-- An object that comes to a list of parts has a member that the list knows, where the list reads no
-- other objects.
use Rattle.std.proofs.Common.{◌≡◌, ◌∙◌, sym, ap, subst, refl, ℕ, zero, suc, List, [], ◌∷◌, ◌++◌}
use Rattle.std.proofs.Common.{All, Bool, true, false, Option, None, Some, arith, length, slice_get}
use Rattle.std.proofs.lemmas.List.{append-nil}
use Rattle.facet_solver_reader.specs.declared.plan.Plan.{Plan}
use Rattle.facet_solver_reader.specs.declared.plan.PlannedEnd.{PlannedEnd}
use Rattle.facet_solver_reader.specs.declared.plan.PlannedEnd.TheVariants as planned
use Rattle.facet_solver_reader.specs.declared.plan.PlannedList.{PlannedList}
use Rattle.facet_solver_reader.specs.declared.plan.PlannedPart.{PlannedPart}
use Rattle.facet_solver_reader.specs.declared.plan.PlannedPart.TheVariants as parts
use Rattle.facet_solver_reader.specs.declared.plan.PlannedTarget.{PlannedTarget}
use Rattle.facet_solver_reader.specs.Branches.{ReadsPart}
use Rattle.facet_solver_reader.specs.Choices.{Choice, ChoiceAt, ChoosesParts, Item, choosing, done}
use Rattle.facet_solver_reader.specs.Choices.{next}
use Rattle.facet_solver_reader.specs.Known.{Chooses, ChoosesAll, ChoosesAt, HasChoice, HasKey}
use Rattle.facet_solver_reader.specs.Known.{IsKnown, Key}
use Rattle.facet_solver_reader.specs.Objects.{Object, Reads, Touches}
use Rattle.facet_solver_reader.specs.Parts.{ListId, Lists, Part, Selection, Target, a_selection}
use Rattle.facet_solver_reader.specs.Parts.{of_content, of_shape, of_tag}
use Rattle.facet_solver_reader.specs.Plans.{IsNumberIfChosen, IsNumberOf, IsNumberOfList}
use Rattle.facet_solver_reader.specs.Plans.{IsPlannedAs, IsPlannedContent, IsPlannedEnd}
use Rattle.facet_solver_reader.specs.Plans.{IsPlannedList, IsPlannedPart, IsPlannedTarget, Meaning}
use Rattle.facet_solver_reader.specs.Reached.{list_of, list_of_content, list_of_end}
use Rattle.facet_solver_reader.specs.Rules.{Content, End, Rules, an_object, an_untagged_variant}
use Rattle.facet_solver_reader.specs.Rules.{as_object}
use Rattle.facet_solver_reader.proofs.Lists.{known_of_list}
use Rattle.facet_solver_reader.proofs.Pairs.{pair_of, pairs_length}
use Rattle.facet_solver_reader.proofs.Quantifiers.{all_at}
use Rattle.facet_solver_reader.proofs.Selections.{known_in_branch}
use Rattle.facet_solver_checker.specs.Atoms.{IsPlanFor}
use Rattle.facet_solver_checker.specs.Comes.{MustTouchList, TouchesList}
use Rattle.facet_solver_checker.specs.Forks.{IsSelectionAt}
use Rattle.facet_solver_checker.specs.PlanMembers.{IsIn}
use Rattle.facet_solver_checker.specs.Touched.{AreTouched, BearsOutBranches, BearsOutEnd}
use Rattle.facet_solver_checker.specs.Touched.{is_touched, list_in}
use Rattle.facet_solver_checker.proofs.BranchesApart.{branch_has, known_of_branch, touches_of}

-- what is there is one thing
some_is : {A : Type 0} {x y : A} → Some x ≡ Some y → x ≡ y
some_is p = cc

-- a list of one is what stands in it
pub only_one : {A : Type 0} (xs : List A) (k : ℕ) (x : A) → slice_get xs k ≡ Some x
    → length xs ≡ 1 → xs ≡ x ∷ []
only_one [] k x at one = absurd (cc)
only_one (y ∷ []) zero x at one = cc
only_one (y ∷ []) (suc k) x at one = absurd (cc)
only_one (y ∷ z ∷ ys) k x at one = absurd (omega (arith, one))

module _ (lists : Lists) where
  -- what one part alone knows, the part does
  known_first : (p : Part) (x : Key) → IsKnown (ChoosesAll lists (p ∷ [])) x
      → IsKnown (ChoosesAt lists p) x
  known_first p x h = go h.choice h.items h.chooses h.has
    where
      go : (c : Choice) (items : List Item) → ChoosesParts lists c (p ∷ []) items
          → HasKey items x → IsKnown (ChoosesAt lists p) x
      go done items chooses has = absurd chooses
      go (next a (next b c)) items chooses has = absurd chooses.chooses_second
      go (next a done) items chooses has =
          let same : items ≡ chooses.first =
          chooses.items_are ∙ ap (λ (is : List Item). chooses.first ++ is) chooses.chooses_second
          ∙ append-nil chooses.first in
          record {
            choice = a;
            items = chooses.first;
            chooses = chooses.chooses_first;
            has = subst (λ (is : List Item). HasKey is x) same has;
          }

module _ (rules : Rules) (object : Object) (id : ListId) (s : Selection) where
  -- a member that a list knows which is one selection alone, the selection knows
  pub touches_only : rules.lists id ≡ Some (a_selection s ∷ []) → TouchesList rules object id
      → Touches rules object s
  touches_only are t =
      record {
        key = t.key;
        has = t.has;
        known = known_in_branch rules.lists s t.key
            (known_first rules.lists (a_selection s) t.key
            ((known_of_list rules.lists id (a_selection s ∷ []) are t.key).1 t.known));
      }

module _ (m : Meaning) (reads : Reads) (object : Object) (s : Selection) where
  -- a member that a selection knows, the branch that is chosen knows
  pub touches_branch : (k : ℕ) (c : Choice)
      → (r : ReadsPart m.rules reads object (a_selection s) (choosing k c))
      → Touches m.rules object s → TouchesList m.rules object r.chooses.chooses.list
  touches_branch k c r t =
      record {
        key = t.key;
        has = t.has;
        known = record {
          choice = c;
          items = r.chooses.of_branch;
          chooses = r.chooses.chooses.chooses;
          has = branch_has m reads s object k c r t.key t.has
              (known_of_branch m reads s object t.key t.known);
        };
      }

-- a list has as many parts as it is planned with
all_length : (m : Meaning) (plan : Plan) (n part : ℕ) (s : Selection)
    → (q : IsSelectionAt m plan (n, part) s) → IsPlanFor m plan
    → length q.all ≡ length q.list.parts.items
all_length m plan n part s q is =
    let each = is.meaning.lists.each in
    let l = pair_of (IsPlannedList m) m.lists plan.lists.items n q.id each q.numbered in
    let same : l.0 ≡ q.list = some_is (sym l.1 ∙ q.list_is) in
    let all : q.all ≡ l.2.parts = some_is (sym q.all_are ∙ l.2.parts_are) in
    ap length all ∙ pairs_length (IsPlannedPart m) l.2.parts l.0.parts.items l.2.each
    ∙ ap (λ (z : PlannedList). length z.parts.items) same

-- the parts of a list that is told to read only such objects are one selection alone
pub only_selection : (m : Meaning) (plan : Plan) (n part : ℕ) (s : Selection)
    → (q : IsSelectionAt m plan (n, part) s) → IsPlanFor m plan → (flags : List Bool)
    → AreTouched plan flags → is_touched flags n ≡ true
    → m.rules.lists q.id ≡ Some (a_selection s ∷ [])
only_selection m plan n part s q is flags are e =
    q.all_are
    ∙ ap (λ z. Some z)
    (only_one q.all part (a_selection s) q.selection_is
    (all_length m plan n part s q is ∙ (are.lists n q.list q.list_is).alone e))

module _ (m : Meaning) (plan : Plan) (n part : ℕ) (s : Selection)
    (q : IsSelectionAt m plan (n, part) s) (is : IsPlanFor m plan) (reads : Reads)
    (object : Object) (touch : MustTouchList plan n m.rules object q.id) where
  -- where the branch of a number is told to read only such objects, the object has a member that
  -- the selection knows
  touches_selection : (k b : ℕ) (c : Choice) → IsIn b q.planned.branches.items
      → ReadsPart m.rules reads object (a_selection s) (choosing k c) → (flags : List Bool)
      → AreTouched plan flags → is_touched flags b ≡ true → Touches m.rules object s
  touches_selection k b c among r flags are e = of_list (is_touched flags n) refl
    where
      of_part : (o : Bool) → q.planned.optional ≡ o
          → BearsOutBranches flags (parts.Selection q.planned) → Touches m.rules object s
      of_part true optional bears =
          touches_of m reads s object k c (sym q.is_planned.optional ∙ optional) r
      of_part false optional bears =
          let no : is_touched flags b ≡ false =
          all_at (λ (i : ℕ). is_touched flags i ≡ false) q.planned.branches.items among.0 b
          (bears optional) among.1 in
          absurd (cc)

      of_list : (o : Bool) → is_touched flags n ≡ o → Touches m.rules object s
      of_list true told =
          touches_only m.rules object q.id s (only_selection m plan n part s q is flags are told)
          (touch flags are told)
      of_list false told =
          of_part q.planned.optional refl
          (all_at (BearsOutBranches flags) q.list.parts.items part (parts.Selection q.planned)
          ((are.lists n q.list q.list_is).branches told) q.planned_is)

  -- so the branch knows one
  pub touches_below : (k b : ℕ) (c : Choice) → IsIn b q.planned.branches.items
      → (r : ReadsPart m.rules reads object (a_selection s) (choosing k c))
      → MustTouchList plan b m.rules object r.chooses.chooses.list
  touches_below k b c among r flags are e =
      touches_branch m reads object s k c r (touches_selection k b c among r flags are e)

-- the list by which a target reads an object is the one that it is planned with
planned_list : (m : Meaning) (t : Target) (p : PlannedEnd) → IsPlannedAs m t p → (id : ListId)
    → list_of m.rules t ≡ Some id → IsNumberIfChosen m id (list_in p)
planned_list m (of_shape s) p h id list_is = go (m.rules.end_of s) p h list_is
  where
    go : (e : End) (p : PlannedEnd) → IsPlannedEnd m e p → list_of_end e ≡ Some id
        → IsNumberIfChosen m id (list_in p)
    go (an_object i) (planned.Object n) h is = subst (λ z. IsNumberIfChosen m z n) (some_is is) h
    go (an_object i) p h is = absurd h
    go (an_untagged_variant i alone) (planned.Untagged n ps) h is =
        subst (λ z. IsNumberIfChosen m z n) (some_is is) h.0
    go (an_untagged_variant i alone) p h is = absurd h
    go e p h is = absurd (cc)
planned_list m (of_content s k) p h id list_is = go (m.rules.content_of s k) p h list_is
  where
    go : (c : Content) (p : PlannedEnd) → IsPlannedContent m c p → list_of_content c ≡ Some id
        → IsNumberIfChosen m id (list_in p)
    go (as_object i) (planned.Object n) h is = subst (λ z. IsNumberIfChosen m z n) (some_is is) h
    go (as_object i) p h is = absurd h
    go c p h is = absurd (cc)
planned_list m (of_tag name) p h id list_is = absurd (cc)

-- the number of the list by which a target reads an object
pub record ListNumber (m : Meaning) (plan : Plan) (rules : Rules) (object : Object) (id : ListId)
    : Type 0 where
  pub number : ℕ
  pub numbered : IsNumberOfList m id number
  pub touch : MustTouchList plan number rules object id

-- no value is read as an object by a list that is told to read only such objects
pub list_number : (m : Meaning) (plan : Plan) → IsPlanFor m plan → (t : Target) (n : ℕ)
    → IsNumberOf m t n → (id : ListId) → list_of m.rules t ≡ Some id
    → HasChoice (Chooses m.rules.lists id) → (object : Object)
    → ListNumber m plan m.rules object id
list_number m plan is t n at id list_is some object =
    let p = pair_of (IsPlannedTarget m) m.targets plan.targets.items n t is.each_target at in
    go (list_in p.0.end) (planned_list m t p.0.end p.2.end id list_is)
    (λ flags are.
    all_at (λ (t : PlannedTarget). BearsOutEnd flags t.end) plan.targets.items n p.0 are.ends p.1)
  where
    go : (o : Option ℕ) → IsNumberIfChosen m id o
        → ((flags : List Bool) → AreTouched plan flags → (k : ℕ) → o ≡ Some k
        → is_touched flags k ≡ false)
        → ListNumber m plan m.rules object id
    go None h untouched = absurd (h some)
    go (Some k) h untouched =
        record {
          number = k;
          numbered = h;
          touch = λ flags are e.
              let no : is_touched flags k ≡ false = untouched flags are k refl in absurd (cc);
        }
