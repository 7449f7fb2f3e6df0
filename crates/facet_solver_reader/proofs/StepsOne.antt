-- An object has one reading by its list where it has one at each step, and by each list that is under
-- way.
use Rattle.std.proofs.Common.{◌≡◌, ◌∙◌, sym, ap, subst, ℕ, suc, ◌+◌, ◌≤◌, List, [], ◌∷◌, ◌++◌}
use Rattle.std.proofs.Common.{⊎_elim, drop, drop-cons, drop_of_length-le, length, map, Some, slice_get, arith}
use Rattle.std.proofs.lemmas.List.{map-append}
use Rattle.std.proofs.lemmas.List.Elements.{All-append}
use Rattle.std.proofs.lemmas.Option.{get_or_from_slice_get, slice_get_within}
use Rattle.std.specs.List.{All}
use Rattle.facet_solver_reader.specs.declared.count.Count.TheVariants.{One}
use Rattle.facet_solver_reader.specs.declared.nodes.Nodes.{Nodes}
use Rattle.facet_solver_reader.specs.declared.read.steps.Frame.{Frame}
use Rattle.facet_solver_reader.specs.declared.read.steps.Step as code
use Rattle.facet_solver_reader.specs.declared.count.object.Object as read
use Rattle.facet_solver_reader.specs.declared.tables.List.{List as ListEntry}
use Rattle.facet_solver_reader.specs.declared.tables.Tables.{Tables}
use Rattle.facet_solver_reader.specs.Branches.{ReadsAt, ReadsBelow, ReadsList, ReadsPart, ReadsParts}
use Rattle.facet_solver_reader.specs.Choices.{ChoiceAt, choosing, lacking, having, taking}
use Rattle.facet_solver_reader.specs.Choices.{without}
use Rattle.facet_solver_reader.specs.Chosen.{IsPickedBranch, IsSure, ReadsChosen}
use Rattle.facet_solver_reader.specs.Counted.{Counted, IsOnly}
use Rattle.facet_solver_reader.specs.FieldPlaces.{Path}
use Rattle.facet_solver_reader.specs.Objects.{Object, Reads}
use Rattle.facet_solver_reader.specs.Parts.{CatchAll, MemberPart, Part, Selection, a_member}
use Rattle.facet_solver_reader.specs.Parts.{a_catch_all, a_selection}
use Rattle.facet_solver_reader.specs.Planned as planned
use Rattle.facet_solver_reader.specs.Planned.{IsOnlyPlanned, IsPlanIfOne, StepIsServed, step_view}
use Rattle.facet_solver_reader.specs.Reading.{IsListCount, IsObject, IsPartCount, object_view}
use Rattle.facet_solver_reader.specs.Readings.{ReadsValue}
use Rattle.facet_solver_reader.specs.Rules.{Rules}
use Rattle.facet_solver_reader.specs.Steps.{place_below}
use Rattle.facet_solver_reader.specs.Tables.{AreTables, BranchIsBefore, PartIsBefore}
use Rattle.facet_solver_reader.specs.Tables.{PartIsServed, rules_at}
use Rattle.facet_solver_reader.specs.Tells.{TellsNothing}
use Rattle.facet_solver_reader.specs.UnderWay.{IsBelow, IsEntered, IsGoing, IsOnlyLeft}
use Rattle.facet_solver_reader.specs.UnderWay.{IsLeftOut, IsSelected, IsUnderWay}
use Rattle.facet_solver_reader.specs.Views.{list_view, parts_view}
use Rattle.facet_solver_reader.proofs.Alone.{read_alone}
use Rattle.facet_solver_reader.proofs.CountingObjects.{before_at}
use Rattle.facet_solver_reader.proofs.Distinct.{distinct_from, distinct_parts}
use Rattle.facet_solver_reader.proofs.Lists.{count_of_list}
use Rattle.facet_solver_reader.proofs.Products.{count_of_none, count_of_parts}
use Rattle.facet_solver_reader.proofs.Quantifiers.{all_at, all_of_last, all_of_more, all_of_none}
use Rattle.facet_solver_reader.proofs.Selections.{by_branches, count_at_branch}
use Rattle.facet_solver_reader.proofs.StepsLeft.{behind_next, placed_next}
use Rattle.facet_solver_reader.proofs.StepsTaken.{absent_taken, all_found, branch_taken, catch_all_taken}
use Rattle.facet_solver_reader.proofs.StepsTaken.{first_under_way}
use Rattle.facet_solver_reader.proofs.StepsTaken.{member_taken, none_more, part_before}
use Rattle.facet_solver_reader.proofs.StepsTaken.{part_taken, served_absence, served_selected}

-- what each of two lists together has, each of both has
pub all_split : {A : Type 0} (P : A → Type 0) (xs ys : List A) → All P (xs ++ ys)
    → All P xs × All P ys
all_split P [] ys a = (all_of_none P, a)
all_split P (x ∷ xs) ys a =
    let b = (all_of_more P x (xs ++ ys)).0 a in
    let c = all_split P xs ys b.1 in
    ((all_of_more P x xs).1 (b.0, c.0), c.1)

-- the same of a list with one more at its end
pub all_but_last : {A : Type 0} (P : A → Type 0) (xs : List A) (y : A) → All P (xs ++ y ∷ [])
    → All P xs × P y
all_but_last P xs y a =
    let b = all_split P xs (y ∷ []) a in (b.0, ((all_of_more P y []).0 b.1).0)

module _ (t : Tables) (nodes : Nodes) (o : read.Object) where
  abbrev rules : Rules
  rules = rules_at t

  abbrev reads : Reads
  reads = ReadsValue (rules_at t)

  abbrev object : Object
  object = object_view nodes o

  -- by the next part of a list and those behind it, by the list
  pub one_more : AreTables t → (f : Frame) (p : Part) → IsBelow t o f.list.now
      → slice_get (parts_view f.list.now.parts.items) f.next ≡ Some p
      → IsPartCount t nodes o p One → IsOnlyLeft t nodes o (behind_next f)
      → IsOnlyLeft t nodes o f
  one_more tables f p below at one rest =
      let l = f.list.now in
      let id = list_view l.id in
      let all = parts_view l.parts.items in
      let i = f.next in
      let ps : List Part = drop (suc i) all in
      let whole : drop i all ≡ p ∷ ps =
      drop-cons all i p (slice_get_within all i p at)
      ∙ ap (λ (q : Part). q ∷ ps) (get_or_from_slice_get all i p p at) in
      let is = tables.lists below.index l below.listed in
      let distinct = distinct_from rules.lists all i p ps
      (distinct_parts rules.lists id all is.same is.chosen is.distinct) whole in
      let up : i + 1 ≡ suc i = omega arith in
      let behind : IsOnly (ReadsParts rules reads object ps) =
      subst (λ n. IsOnly (ReadsParts rules reads object (drop n all))) up rest in
      subst (λ (qs : List Part). IsOnly (ReadsParts rules reads object qs)) (sym whole)
      (count_of_parts rules reads object p ps One One distinct one behind)

  -- by no parts
  pub one_none : (f : Frame) → length (parts_view f.list.now.parts.items) ≤ f.next
      → IsOnlyLeft t nodes o f
  one_none f past =
      subst (λ (qs : List Part). IsOnly (ReadsParts rules reads object qs))
      (sym (drop_of_length-le (parts_view f.list.now.parts.items) past))
      (count_of_none rules reads object)

  -- by the branch alone by which it can be read, by the selection
  pub one_branch : AreTables t → (s : Selection) (k : ℕ) (x : IsPickedBranch t nodes o s k)
      (sure : IsSure t nodes o s x.branch)
      → IsOnly (ReadsParts (rules_at t) (ReadsValue (rules_at t)) (object_view nodes o)
      (parts_view sure.list.parts.items))
      → IsPartCount t nodes o (a_selection s) One
  one_branch tables s k x sure one =
      let ps = parts_view sure.list.parts.items in
      let is = tables.lists sure.index sure.list sure.listed in
      let R = ReadsPart rules reads object (a_selection s) in
      let of_list : Counted (ReadsList rules reads object x.branch) One =
      count_of_list rules reads object x.branch ps One (ap rules.lists (sym sure.same) ∙ is.same)
      one in
      let at : Counted (ReadsAt R k) One =
      count_at_branch rules reads object s k x.branch x.branch_is One sure.fits x.present of_list in
      record {
        value = at.value;
        has = into at.value at.has;
        only = λ z r.
            at.only z (out z r (by_branches rules reads object s x.present z r));
      }
    where
      into : (z : ChoiceAt) → ReadsAt (ReadsPart (rules_at t) (ReadsValue (rules_at t))
          (object_view nodes o) (a_selection s)) k z
          → ReadsPart (rules_at t) (ReadsValue (rules_at t)) (object_view nodes o) (a_selection s) z
      into lacking w = absurd w
      into (having q) w = absurd w
      into without w = absurd w
      into (taking u) w = absurd w
      into (choosing j c) w = w.1

      out : (z : ChoiceAt) → ReadsPart (rules_at t) (ReadsValue (rules_at t)) (object_view nodes o)
          (a_selection s) z
          → ReadsBelow (ReadsPart (rules_at t) (ReadsValue (rules_at t)) (object_view nodes o)
          (a_selection s)) (length s.branches) z
          → ReadsAt (ReadsPart (rules_at t) (ReadsValue (rules_at t))
          (object_view nodes o) (a_selection s)) k z
      out lacking r w = absurd w
      out (having q) r w = absurd w
      out without r w = absurd w
      out (taking u) r w = absurd w
      out (choosing j c) r w = (x.alone j c r, r)

  module _ (tables : AreTables t) (fs : List Frame) (f : Frame) (old : List code.Step)
      (g : IsGoing t nodes o (fs ++ f ∷ []) old) where
    -- the innermost list is one of those that the choices go through
    pub below_last : IsBelow t o f.list.now
    below_last = (all_but_last (λ (h : Frame). IsBelow t o h.list.now) fs f g.below).1

    -- so it stays when its next part is taken
    below_next : All (λ (h : Frame). IsBelow t o h.list.now) (fs ++ behind_next f ∷ [])
    below_next =
        all_of_last (λ (h : Frame). IsBelow t o h.list.now) fs (behind_next f)
        (all_but_last (λ (h : Frame). IsBelow t o h.list.now) fs f g.below).0 below_last

    -- where no part is left of the innermost list, the others go on
    pub going_end : length (parts_view f.list.now.parts.items) ≤ f.next → IsGoing t nodes o fs old
    going_end past =
        record {
          below = (all_but_last (λ (h : Frame). IsBelow t o h.list.now) fs f g.below).0;
          served = g.served;
          under_way = λ one. none_more t nodes o fs f old (g.under_way one) past;
          one = λ lefts steps.
              g.one (all_of_last (IsOnlyLeft t nodes o) fs f lefts (one_none f past)) steps;
        }

    module _ (p : Part) (at : slice_get (parts_view f.list.now.parts.items) f.next ≡ Some p) where
      -- the next part is served
      pub next_served : PartIsServed t p
      next_served =
          all_at (PartIsServed t) (parts_view f.list.now.parts.items) f.next p
          (tables.lists below_last.index f.list.now below_last.listed).served at

      -- where the object has one reading by its list, it has one by the part
      pub part_one : IsListCount t nodes o o.list.now One → IsPartCount t nodes o p One
      part_one one =
          let h = g.under_way one in
          let taken = part_taken t nodes o tables fs f p old h at in
          record { value = taken.choice; has = taken.only.0; only = taken.only.1 }

      -- a step is found there
      going_step : (s : code.Step) → StepIsServed t (step_view s)
          → (IsOnlyPlanned t nodes o (step_view s) → IsPartCount t nodes o p One)
          → (IsListCount t nodes o o.list.now One
          → IsUnderWay t nodes o (fs ++ behind_next f ∷ []) (old ++ s ∷ []))
          → IsGoing t nodes o (fs ++ behind_next f ∷ []) (old ++ s ∷ [])
      going_step s served part under_way =
          let views : map step_view (old ++ s ∷ []) ≡ map step_view old ++ step_view s ∷ [] =
          map-append step_view old (s ∷ []) in
          record {
            below = below_next;
            served =
                subst (All (StepIsServed t)) (sym views)
                (all_of_last (StepIsServed t) (map step_view old) (step_view s) g.served served);
            under_way = under_way;
            one = λ lefts steps.
                let ls = all_but_last (IsOnlyLeft t nodes o) fs (behind_next f) lefts in
                let ss = all_but_last (IsOnlyPlanned t nodes o) (map step_view old) (step_view s)
                (subst (All (IsOnlyPlanned t nodes o)) views steps) in
                g.one
                (all_of_last (IsOnlyLeft t nodes o) fs f ls.0
                (one_more tables f p below_last at (part ss.1) ls.1))
                ss.0;
          }

    -- a member is taken
    pub going_member : (m : MemberPart) (s : code.Step)
        → slice_get (parts_view f.list.now.parts.items) f.next ≡ Some (a_member m)
        → step_view s ≡ planned.a_field (placed_next t f (a_member m)).path m
        → IsGoing t nodes o (fs ++ behind_next f ∷ []) (old ++ s ∷ [])
    going_member m s at is =
        let served = next_served (a_member m) at in
        going_step (a_member m) at s (subst (StepIsServed t) (sym is) served)
        (λ one. subst (IsOnlyPlanned t nodes o) is one)
        (λ one.
        let h = g.under_way one in
        member_taken t nodes o fs f m old s h (part_taken t nodes o tables fs f (a_member m) old h at)
        is served)

    -- a catch-all is taken
    pub going_rest : (k : CatchAll) (s : code.Step)
        → slice_get (parts_view f.list.now.parts.items) f.next ≡ Some (a_catch_all k)
        → step_view s ≡ planned.a_rest k
        → IsGoing t nodes o (fs ++ behind_next f ∷ []) (old ++ s ∷ [])
    going_rest k s at is =
        let served = next_served (a_catch_all k) at in
        going_step (a_catch_all k) at s (subst (StepIsServed t) (sym is) served)
        (λ one. subst (IsOnlyPlanned t nodes o) is one)
        (λ one.
        let h = g.under_way one in
        catch_all_taken t nodes o fs f k old s h
        (part_taken t nodes o tables fs f (a_catch_all k) old h at) is served)

    -- a selection is absent
    pub going_absent : (s : Selection)
        → slice_get (parts_view f.list.now.parts.items) f.next ≡ Some (a_selection s)
        → (new : List code.Step) → ReadsChosen t nodes o s without
        → IsPartCount t nodes o (a_selection s) One
        → IsLeftOut (placed_next t f (a_selection s)).path s old new
        → IsGoing t nodes o (fs ++ behind_next f ∷ []) new
    going_absent s at new absent part passed =
        let views : map step_view new ≡ map step_view old ++ map step_view passed.taken =
        ap (map step_view) passed.steps_are ∙ map-append step_view old passed.taken in
        record {
          below = below_next;
          served =
              subst (All (StepIsServed t)) (sym views)
              (All-append (StepIsServed t) (map step_view old) (map step_view passed.taken) g.served
              (subst (All (StepIsServed t)) passed.taken_are
              (served_absence t nodes o (placed_next t f (a_selection s)).path s)));
          under_way = λ one.
              let h = g.under_way one in
              absent_taken t nodes o fs f s old new h
              (part_taken t nodes o tables fs f (a_selection s) old h at) absent passed;
          one = λ lefts steps.
              let ss = all_split (IsOnlyPlanned t nodes o) (map step_view old)
              (map step_view passed.taken) (subst (All (IsOnlyPlanned t nodes o)) views steps) in
              let ls = all_but_last (IsOnlyLeft t nodes o) fs (behind_next f) lefts in
              g.one
              (all_of_last (IsOnlyLeft t nodes o) fs f ls.0
              (one_more tables f (a_selection s) below_last at part ls.1))
              ss.0;
        }

    -- a selection is read by a branch, of which the list, if it tells anything, is under way
    pub going_branch : IsObject t nodes o → (s : Selection)
        → slice_get (parts_view f.list.now.parts.items) f.next ≡ Some (a_selection s)
        → (k : ℕ) (x : IsPickedBranch t nodes o s k) (gs : List Frame) (new : List code.Step)
        → IsSelected (placed_next t f (a_selection s)).path x.branch old new
        → IsEntered t x.branch
        (place_below t.shapes.now (placed_next t f (a_selection s)).path
        (placed_next t f (a_selection s)).name x.branch)
        (fs ++ behind_next f ∷ []) gs
        → IsGoing t nodes o gs new
    going_branch listed s at k x gs new selects e =
        record {
          below = ⊎_elim
              (λ (pushed : gs ≡ outer ++ e.frame ∷ []).
              subst (All (λ (h : Frame). IsBelow t o h.list.now)) (sym pushed)
              (all_of_last (λ (h : Frame). IsBelow t o h.list.now) outer e.frame below_next entered))
              (λ (passed : (gs ≡ outer) × TellsNothing t e.frame.list.now).
              subst (All (λ (h : Frame). IsBelow t o h.list.now)) (sym passed.0) below_next)
              e.frames_are;
          served =
              subst (All (StepIsServed t)) (sym views)
              (All-append (StepIsServed t) (map step_view old) (map step_view selects.taken) g.served
              (subst (All (StepIsServed t)) selects.taken_are
              (served_selected t nodes o (placed_next t f (a_selection s)).path x.branch)));
          under_way = λ one.
              let h = g.under_way one in
              let taken = part_taken t nodes o tables fs f (a_selection s) old h at in
              let r = read_alone rules reads object s x.present k x.alone taken.choice taken.only.0 in
              branch_taken t nodes o tables fs f s old h taken k r.0 x.branch r.1 x.branch_is gs new
              before selects e;
          one = λ lefts steps.
              let ss = all_split (IsOnlyPlanned t nodes o) (map step_view old)
              (map step_view selects.taken) (subst (All (IsOnlyPlanned t nodes o)) views steps) in
              let both = parts_one lefts in
              let ls = all_but_last (IsOnlyLeft t nodes o) fs (behind_next f) both.0 in
              g.one
              (all_of_last (IsOnlyLeft t nodes o) fs f ls.0
              (one_more tables f (a_selection s) below_last at both.1 ls.1))
              ss.0;
        }
      where
        outer : List Frame
        outer = fs ++ behind_next f ∷ []

        all : List ℕ
        all = o.list.now.below.items

        before : PartIsBefore t o.list.now.below.items (length o.list.now.below.items)
            (a_selection s)
        before = part_before t nodes o tables listed f.list.now below_last f.next (a_selection s) at

        views : map step_view new ≡ map step_view old ++ map step_view selects.taken
        views = ap (map step_view) selects.steps_are ∙ map-append step_view old selects.taken

        entered : IsBelow t o e.frame.list.now
        entered =
            let stands = before_at t all (length all) x.branch e.index (sym e.is_at)
            (all_at (BranchIsBefore t all (length all)) s.branches k x.branch before x.branch_is) in
            record {
              position = stands.0;
              index = e.index;
              is_below = stands.2;
              listed = e.listed;
            }

        same_list : (sure : IsSure t nodes o s x.branch) → e.frame.list.now ≡ sure.list
        same_list sure =
            let indices : Some e.index ≡ Some sure.index = sym e.is_at ∙ sure.is_at in
            let index : e.index ≡ sure.index = cc in
            let lists : Some e.frame.list.now ≡ Some sure.list =
            sym e.listed ∙ ap (slice_get t.lists.items) index ∙ sure.listed in
            cc

        -- the others, and the selection
        parts_one : All (IsOnlyLeft t nodes o) gs
            → All (IsOnlyLeft t nodes o) (fs ++ behind_next f ∷ [])
            × IsPartCount t nodes o (a_selection s) One
        parts_one lefts =
            ⊎_elim
            (λ (pushed : gs ≡ outer ++ e.frame ∷ []).
            let ls = all_but_last (IsOnlyLeft t nodes o) outer e.frame
            (subst (All (IsOnlyLeft t nodes o)) pushed lefts) in (
              ls.0,
              ⊎_elim
                  (λ (sure : IsSure t nodes o s x.branch).
                  one_branch tables s k x sure
                  (subst
                  (λ (l : ListEntry). IsOnly (ReadsParts (rules_at t) (ReadsValue (rules_at t))
                  (object_view nodes o) (parts_view l.parts.items)))
                  (same_list sure)
                  (subst
                  (λ n. IsOnly (ReadsParts (rules_at t) (ReadsValue (rules_at t))
                  (object_view nodes o) (drop n (parts_view e.frame.list.now.parts.items))))
                  e.first ls.1)))
                  (λ (one : IsPartCount t nodes o (a_selection s) One). one) x.sure,
            ))
            (λ (passed : (gs ≡ outer) × TellsNothing t e.frame.list.now). (
              subst (All (IsOnlyLeft t nodes o)) passed.0 lefts,
              ⊎_elim
                  (λ (sure : IsSure t nodes o s x.branch).
                  absurd (sure.tells (subst (TellsNothing t) (same_list sure) passed.1)))
                  (λ (one : IsPartCount t nodes o (a_selection s) One). one) x.sure,
            ))
            e.frames_are

  -- at first an object's list is under way
  pub first_going : AreTables t → IsObject t nodes o → (place : Path) → place ≡ []
      → IsGoing t nodes o (record { list = o.list; next = 0; place = place } ∷ []) []
  first_going tables listed place empty =
      let l = o.list.now in
      let is = tables.lists listed.index l listed.listed in
      let f : Frame = record { list = o.list; next = 0; place = place } in
      let below : IsBelow t o l =
      record {
        position = is.last.0;
        index = listed.index;
        is_below = is.last.2;
        listed = listed.listed;
      } in
      record {
        below = all_of_last (λ (h : Frame). IsBelow t o h.list.now) [] f
            (all_of_none (λ (h : Frame). IsBelow t o h.list.now)) below;
        served = all_of_none (StepIsServed t);
        under_way = λ one. first_under_way t nodes o tables listed one place empty;
        one = λ lefts steps.
            count_of_list rules reads object (list_view l.id) (parts_view l.parts.items) One is.same
            (all_but_last (IsOnlyLeft t nodes o) [] f lefts).1;
      }

  -- where no list is under way, the steps are all of them
  pub all_going : (found : List code.Step) → IsGoing t nodes o [] found
      → IsPlanIfOne t nodes o found
  all_going found g =
      record {
        served = g.served;
        plan = λ one. all_found t nodes o found (g.under_way one);
        one = λ steps. g.one (all_of_none (IsOnlyLeft t nodes o)) steps;
      }
