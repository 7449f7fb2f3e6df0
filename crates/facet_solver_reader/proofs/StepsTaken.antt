-- The next part of the innermost list is taken, and what it is goes behind the steps so far.
use Rattle.std.proofs.Common.{◌≡◌, ◌∙◌, sym, ap, subst, refl, ℕ, ◌<◌, ◌≤◌, List, [], ◌∷◌, ◌++◌}
use Rattle.std.proofs.Common.{⊎_elim, append_assoc, drop, length, map, Option, Some, None}
use Rattle.std.proofs.Common.{slice_get, arith, Bool, true, false, if◌then◌else◌}
use Rattle.std.proofs.lemmas.List.{append-nil, map-append}
use Rattle.std.proofs.lemmas.List.Elements.{All-append}
use Rattle.std.proofs.lemmas.Option.{slice_get_within}
use Rattle.std.specs.Prelude.{MatchOption, ⊤}
use Rattle.std.specs.List.{All}
use Rattle.std.specs.Option.{unwrap_or}
use Rattle.facet_solver_reader.specs.declared.count.Count.TheVariants.{One}
use Rattle.facet_solver_reader.specs.declared.nodes.Nodes.{Nodes}
use Rattle.facet_solver_reader.specs.declared.read.steps.Frame.{Frame}
use Rattle.facet_solver_reader.specs.declared.read.steps.Step as code
use Rattle.facet_solver_reader.specs.declared.count.object.Object as read
use Rattle.facet_solver_reader.specs.declared.tables.List.{List as ListEntry}
use Rattle.facet_solver_reader.specs.declared.tables.Tables.{Tables}
use Rattle.facet_solver_reader.specs.Branches.{ReadsList, ReadsPart, ReadsParts}
use Rattle.facet_solver_reader.specs.Choices.{Choice, ChoiceAt, Reading, lacking, having}
use Rattle.facet_solver_reader.specs.Choices.{without, choosing, taking}
use Rattle.facet_solver_reader.specs.FieldPlaces.{Path}
use Rattle.facet_solver_reader.specs.Known.{Chooses}
use Rattle.facet_solver_reader.specs.Objects.{Object, Reads}
use Rattle.facet_solver_reader.specs.Parts.{CatchAll, ListId, MemberPart, Part, Selection, a_member}
use Rattle.facet_solver_reader.specs.Parts.{a_selection, a_catch_all, of_struct, of_enum, of_joined}
use Rattle.facet_solver_reader.specs.Parts.{of_branch, of_fields}
use Rattle.facet_solver_reader.specs.Planned as planned
use Rattle.facet_solver_reader.specs.Planned.{IsOnlyStep, IsPlan, StepIsServed, choice_of}
use Rattle.facet_solver_reader.specs.Planned.{planned_of}
use Rattle.facet_solver_reader.specs.Planned.{step_view, walk_at}
use Rattle.facet_solver_reader.specs.Reading.{IsListCount, IsObject, object_view}
use Rattle.facet_solver_reader.specs.Readings.{ReadsValue}
use Rattle.facet_solver_reader.specs.Rules.{Rules}
use Rattle.facet_solver_reader.specs.Slots.{index_of}
use Rattle.facet_solver_reader.specs.Steps.{Placed, Step, Walk, a_field, a_rest, a_variant}
use Rattle.facet_solver_reader.specs.Steps.{absence, an_absence, is_of_enum, place_below, placed}
use Rattle.facet_solver_reader.specs.Steps.{placed_from, selected, step_at, steps_of, through}
use Rattle.facet_solver_reader.specs.Tables.{AreTables, BranchIsBefore, PartIsBefore}
use Rattle.facet_solver_reader.specs.Tables.{PartIsServed, rules_at}
use Rattle.facet_solver_reader.specs.Tells.{TellsNothing}
use Rattle.facet_solver_reader.specs.UnderWay.{AreLeft, IsBelow, IsEntered, IsLeftOut, IsSelected}
use Rattle.facet_solver_reader.specs.UnderWay.{IsUnderWay}
use Rattle.facet_solver_reader.specs.Views.{list_view, parts_view}
use Rattle.facet_solver_reader.proofs.ChosenBranch.{only_of_branch}
use Rattle.facet_solver_reader.proofs.CountingObjects.{before_at}
use Rattle.facet_solver_reader.proofs.Lists.{readings_of_list}
use Rattle.facet_solver_reader.proofs.NothingTold.{nothing_told}
use Rattle.facet_solver_reader.proofs.Quantifiers.{all_at, all_from, all_of_more, all_of_none}
use Rattle.facet_solver_reader.proofs.StepsLeft.{behind_next, left_in, left_last, left_more}
use Rattle.facet_solver_reader.proofs.StepsLeft.{next_part, none_left, placed_next}
use Rattle.facet_solver_reader.proofs.TheOnly.{IsTheOnly, only_of_same}

-- what one has, each of it alone has
all_of_one : {A : Type 0} (P : A → Type 0) (x : A) → P x → All P (x ∷ [])
all_of_one P x h = (all_of_more P x []).1 (h, all_of_none P)

module _ (t : Tables) (nodes : Nodes) (o : read.Object) where
  abbrev rules : Rules
  rules = rules_at t

  abbrev reads : Reads
  reads = ReadsValue (rules_at t)

  abbrev object : Object
  object = object_view nodes o

  abbrev walk : Walk
  walk = walk_at t

  -- no step is found, and other lists are under way
  same_steps : (fs gs : List Frame) (old : List code.Step) (h : IsUnderWay t nodes o fs old)
      (others : List Step) → h.others ≡ others → AreLeft t nodes o gs others
      → IsUnderWay t nodes o gs old
  same_steps fs gs old h others e left =
      record {
        choice = h.choice;
        reads = h.reads;
        steps = h.steps;
        others = others;
        all = h.all ∙ ap (λ (s : List Step). h.steps ++ s) e;
        planned = h.planned;
        only = h.only;
        served = h.served;
        left = left;
      }

  -- the first steps of those that are left are found
  more_steps : (fs gs : List Frame) (old new : List code.Step) (h : IsUnderWay t nodes o fs old)
      (first others : List Step) → h.others ≡ first ++ others
      → map planned_of first ≡ map step_view new
      → All (IsOnlyStep (rules_at t) (ReadsValue (rules_at t)) (object_view nodes o)) first
      → All (StepIsServed t) (map step_view new) → AreLeft t nodes o gs others
      → IsUnderWay t nodes o gs (old ++ new)
  more_steps fs gs old new h first others e planned only served left =
      let views : map step_view (old ++ new) ≡ map step_view old ++ map step_view new =
      map-append step_view old new in
      record {
        choice = h.choice;
        reads = h.reads;
        steps = h.steps ++ first;
        others = others;
        all =
            h.all ∙ ap (λ (s : List Step). h.steps ++ s) e
            ∙ sym (append_assoc h.steps first others);
        planned =
            map-append planned_of h.steps first
            ∙ ap (λ ps. ps ++ map planned_of first) h.planned
            ∙ ap (λ ps. map step_view old ++ ps) planned ∙ sym views;
        only = All-append (IsOnlyStep rules reads object) h.steps first h.only only;
        served =
            subst (All (StepIsServed t)) (sym views)
            (All-append (StepIsServed t) (map step_view old) (map step_view new) h.served served);
        left = left;
      }

  -- where the innermost list has no part left, the others are under way
  pub none_more : (fs : List Frame) (f : Frame) (old : List code.Step)
      → IsUnderWay t nodes o (fs ++ f ∷ []) old
      → length (parts_view f.list.now.parts.items) ≤ f.next → IsUnderWay t nodes o fs old
  none_more fs f old h past =
      let last = left_last t nodes o fs f h.others h.left in
      same_steps (fs ++ f ∷ []) fs old h last.second
      (last.steps_are
      ∙ ap (λ (s : List Step). s ++ last.second)
      (none_left t nodes o f last.first last.are_first past))
      last.are_second

  -- the next part of the innermost list is read in one way, and its steps come first of those that
  -- are left
  pub record IsTaken (fs : List Frame) (f : Frame) (p : Part) (all : List Step) : Type 0 where
    pub choice : ChoiceAt
    pub only :
        IsTheOnly (ReadsPart (rules_at t) (ReadsValue (rules_at t)) (object_view nodes o) p) choice
    pub below : IsBelow t o f.list.now
    pub at : slice_get (parts_view f.list.now.parts.items) f.next ≡ Some p
    pub others : List Step
    pub left : AreLeft t nodes o (fs ++ behind_next f ∷ []) others
    pub steps_are : all ≡ step_at (walk_at t) choice (placed_next t f p) p ++ others

  pub part_taken : AreTables t → (fs : List Frame) (f : Frame) (p : Part) (old : List code.Step)
      (h : IsUnderWay t nodes o (fs ++ f ∷ []) old)
      → slice_get (parts_view f.list.now.parts.items) f.next ≡ Some p → IsTaken fs f p h.others
  part_taken tables fs f p old h at =
      let last = left_last t nodes o fs f h.others h.left in
      let n = next_part t nodes o tables f p last.first last.are_first at in
      record {
        choice = n.choice;
        only = n.only;
        below = last.are_first.below;
        at = at;
        others = n.others ++ last.second;
        left = left_more t nodes o fs (behind_next f) n.others last.second last.are_second n.left;
        steps_are =
            last.steps_are ∙ ap (λ (s : List Step). s ++ last.second) n.steps_are
            ∙ append_assoc (step_at walk n.choice (placed_next t f p) p) n.others last.second;
      }

  -- a member is taken
  pub member_taken : (fs : List Frame) (f : Frame) (m : MemberPart) (old : List code.Step)
      (s : code.Step) (h : IsUnderWay t nodes o (fs ++ f ∷ []) old)
      → IsTaken fs f (a_member m) h.others
      → step_view s ≡ planned.a_field (placed_next t f (a_member m)).path m
      → PartIsServed t (a_member m)
      → IsUnderWay t nodes o (fs ++ behind_next f ∷ []) (old ++ s ∷ [])
  member_taken fs f m old s h k is served = go k.choice refl k.only.0
    where
      with_reading : (r : Option Reading) → k.choice ≡ choice_of r
          → step_at (walk_at t) k.choice (placed_next t f (a_member m)) (a_member m)
          ≡ a_field (placed_next t f (a_member m)).path m r ∷ []
          → IsUnderWay t nodes o (fs ++ behind_next f ∷ []) (old ++ s ∷ [])
      with_reading r e one =
          more_steps (fs ++ f ∷ []) (fs ++ behind_next f ∷ []) old (s ∷ []) h
          (a_field (placed_next t f (a_member m)).path m r ∷ []) k.others
          (k.steps_are ∙ ap (λ (a : List Step). a ++ k.others) one)
          (ap (λ p. p ∷ []) (sym is))
          (all_of_one (IsOnlyStep rules reads object)
          (a_field (placed_next t f (a_member m)).path m r)
          (record {
            only = record { value = k.choice; has = k.only.0; only = k.only.1 };
            is = e;
          }))
          (all_of_one (StepIsServed t) (step_view s) (subst (StepIsServed t) (sym is) served))
          k.left

      go : (a : ChoiceAt) → k.choice ≡ a → ReadsPart rules reads object (a_member m) k.choice
          → IsUnderWay t nodes o (fs ++ behind_next f ∷ []) (old ++ s ∷ [])
      go lacking e r =
          with_reading None e
          (ap (λ b. step_at walk b (placed_next t f (a_member m)) (a_member m)) e)
      go (having q) e r =
          with_reading (Some q) e
          (ap (λ b. step_at walk b (placed_next t f (a_member m)) (a_member m)) e)
      go without e r =
          absurd (subst (λ b. ReadsPart rules reads object (a_member m) b) e r).chooses
      go (choosing j c) e r =
          absurd (subst (λ b. ReadsPart rules reads object (a_member m) b) e r).chooses
      go (taking u) e r =
          absurd (subst (λ b. ReadsPart rules reads object (a_member m) b) e r).chooses

  -- a catch-all is taken
  pub catch_all_taken : (fs : List Frame) (f : Frame) (c : CatchAll) (old : List code.Step)
      (s : code.Step) (h : IsUnderWay t nodes o (fs ++ f ∷ []) old)
      → IsTaken fs f (a_catch_all c) h.others → step_view s ≡ planned.a_rest c
      → PartIsServed t (a_catch_all c)
      → IsUnderWay t nodes o (fs ++ behind_next f ∷ []) (old ++ s ∷ [])
  catch_all_taken fs f c old s h k is served = go k.choice refl k.only.0
    where
      go : (a : ChoiceAt) → k.choice ≡ a → ReadsPart rules reads object (a_catch_all c) k.choice
          → IsUnderWay t nodes o (fs ++ behind_next f ∷ []) (old ++ s ∷ [])
      go (taking u) e r =
          more_steps (fs ++ f ∷ []) (fs ++ behind_next f ∷ []) old (s ∷ []) h (a_rest c u ∷ [])
          k.others
          (k.steps_are
          ∙ ap
          (λ b. step_at walk b (placed_next t f (a_catch_all c)) (a_catch_all c) ++ k.others) e)
          (ap (λ p. p ∷ []) (sym is))
          (all_of_one (IsOnlyStep rules reads object) (a_rest c u)
          (record {
            only = record { value = k.choice; has = k.only.0; only = k.only.1 };
            is = e;
          }))
          (all_of_one (StepIsServed t) (step_view s) (subst (StepIsServed t) (sym is) served))
          k.left
      go lacking e r =
          absurd (subst (λ b. ReadsPart rules reads object (a_catch_all c) b) e r).chooses
      go (having q) e r =
          absurd (subst (λ b. ReadsPart rules reads object (a_catch_all c) b) e r).chooses
      go without e r =
          absurd (subst (λ b. ReadsPart rules reads object (a_catch_all c) b) e r).chooses
      go (choosing j d) e r =
          absurd (subst (λ b. ReadsPart rules reads object (a_catch_all c) b) e r).chooses

  -- an absence is read in one way
  only_absence : (path : Path) (s : Selection)
      → All (IsOnlyStep (rules_at t) (ReadsValue (rules_at t)) (object_view nodes o))
      (absence path s)
  only_absence path s = go (is_of_enum s)
    where
      go : (b : Bool)
          → All (IsOnlyStep (rules_at t) (ReadsValue (rules_at t)) (object_view nodes o))
          (if b then an_absence path ∷ [] else [])
      go true = all_of_one (IsOnlyStep rules reads object) (an_absence path) tt
      go false = all_of_none (IsOnlyStep rules reads object)

  -- and is served
  pub served_absence : (path : Path) (s : Selection)
      → All (StepIsServed t) (map planned_of (absence path s))
  served_absence path s = go (is_of_enum s)
    where
      go : (b : Bool)
          → All (StepIsServed t) (map planned_of (if b then an_absence path ∷ [] else []))
      go true = all_of_one (StepIsServed t) (planned.an_absence path) tt
      go false = all_of_none (StepIsServed t)

  -- a selection that is absent has no steps but its absence, if it is of an enum
  pub absent_taken : (fs : List Frame) (f : Frame) (s : Selection) (old new : List code.Step)
      (h : IsUnderWay t nodes o (fs ++ f ∷ []) old) → IsTaken fs f (a_selection s) h.others
      → ReadsPart (rules_at t) (ReadsValue (rules_at t)) (object_view nodes o) (a_selection s)
      without
      → IsLeftOut (placed_next t f (a_selection s)).path s old new
      → IsUnderWay t nodes o (fs ++ behind_next f ∷ []) new
  absent_taken fs f s old new h k r passed =
      let here = placed_next t f (a_selection s) in
      subst (λ (x : List code.Step). IsUnderWay t nodes o (fs ++ behind_next f ∷ []) x)
      (sym passed.steps_are)
      (more_steps (fs ++ f ∷ []) (fs ++ behind_next f ∷ []) old passed.taken h
      (absence here.path s) k.others
      (k.steps_are
      ∙ ap (λ b. step_at walk b here (a_selection s) ++ k.others) (sym (k.only.1 without r)))
      passed.taken_are (only_absence here.path s)
      (subst (All (StepIsServed t)) passed.taken_are (served_absence here.path s)) k.left)

  -- what stands before a position stands before a later one
  branch_before : (below : List ℕ) (q n : ℕ) → q ≤ n → (id : ListId)
      → BranchIsBefore t below q id → BranchIsBefore t below n id
  branch_before below q n le id h = go (index_of t.slots id) h
    where
      go : (i : Option ℕ)
          → MatchOption i ⊤ (λ index. (r : ℕ) × (r < q) × (slice_get below r ≡ Some index))
          → MatchOption i ⊤ (λ index. (r : ℕ) × (r < n) × (slice_get below r ≡ Some index))
      go None h = h
      go (Some index) h = (h.0, omega (arith, h.1), h.2)

  part_before_later : (below : List ℕ) (q n : ℕ) → q ≤ n → (p : Part)
      → PartIsBefore t below q p → PartIsBefore t below n p
  part_before_later below q n le (a_member m) h = h
  part_before_later below q n le (a_selection s) h =
      all_from (BranchIsBefore t below n) s.branches
      (λ k id at.
      branch_before below q n le id (all_at (BranchIsBefore t below q) s.branches k id h at))
  part_before_later below q n le (a_catch_all c) h = h

  -- the branches of a part of such a list are among the lists that the choices go through
  pub part_before : AreTables t → IsObject t nodes o → (l : ListEntry) → IsBelow t o l → (i : ℕ)
      (p : Part) → slice_get (parts_view l.parts.items) i ≡ Some p
      → PartIsBefore t o.list.now.below.items (length o.list.now.below.items) p
  part_before tables listed l below i p at =
      let all = o.list.now.below.items in
      let a = (tables.lists listed.index o.list.now listed.listed).in_order below.position
      below.index below.is_below in
      let both : Some a.0 ≡ Some l = sym a.1 ∙ below.listed in
      let one : a.0 ≡ l = cc in
      let before : All (PartIsBefore t all below.position) (parts_view l.parts.items) =
      subst
      (λ (e : ListEntry). All (PartIsBefore t all below.position) (parts_view e.parts.items))
      one a.2 in
      let within = slice_get_within all below.position below.index below.is_below in
      part_before_later all below.position (length all) (omega (arith, within)) p
      (all_at (PartIsBefore t all below.position) (parts_view l.parts.items) i p before at)

  -- what a branch selects is read in one way
  only_selected : (path : Path) (id : ListId)
      → All (IsOnlyStep (rules_at t) (ReadsValue (rules_at t)) (object_view nodes o))
      (selected path id)
  only_selected path (of_branch s k) =
      all_of_one (IsOnlyStep rules reads object) (a_variant path s k) tt
  only_selected path (of_struct s) = all_of_none (IsOnlyStep rules reads object)
  only_selected path (of_enum s) = all_of_none (IsOnlyStep rules reads object)
  only_selected path (of_joined s) = all_of_none (IsOnlyStep rules reads object)
  only_selected path (of_fields s k) = all_of_none (IsOnlyStep rules reads object)

  -- and is served
  pub served_selected : (path : Path) (id : ListId)
      → All (StepIsServed t) (map planned_of (selected path id))
  served_selected path (of_branch s k) =
      all_of_one (StepIsServed t) (planned.a_variant path s k) tt
  served_selected path (of_struct s) = all_of_none (StepIsServed t)
  served_selected path (of_enum s) = all_of_none (StepIsServed t)
  served_selected path (of_joined s) = all_of_none (StepIsServed t)
  served_selected path (of_fields s k) = all_of_none (StepIsServed t)

  module _ (tables : AreTables t) (fs : List Frame) (f : Frame) (s : Selection)
      (old : List code.Step) (h : IsUnderWay t nodes o (fs ++ f ∷ []) old)
      (taken : IsTaken fs f (a_selection s) h.others) (k : ℕ) (c : Choice) (id : ListId)
      (r : ReadsPart (rules_at t) (ReadsValue (rules_at t)) (object_view nodes o) (a_selection s)
      (choosing k c))
      (at : slice_get s.branches k ≡ Some id) where
    -- the part of the selection, at its place
    abbrev here : Placed
    here = placed_next t f (a_selection s)

    -- what is chosen there
    chosen : taken.choice ≡ choosing k c
    chosen = sym (taken.only.1 (choosing k c) r)

    -- what the branch selects is found, and the others are left
    selected_then : (gs : List Frame) (new : List code.Step)
        → map planned_of (selected (placed_next t f (a_selection s)).path id) ≡ map step_view new
        → (others : List Step)
        → h.others ≡ selected (placed_next t f (a_selection s)).path id ++ others
        → AreLeft t nodes o gs others → IsUnderWay t nodes o gs (old ++ new)
    selected_then gs new new_are others all_are left =
        more_steps (fs ++ f ∷ []) gs old new h (selected here.path id) others all_are new_are
        (only_selected here.path id)
        (subst (All (StepIsServed t)) new_are (served_selected here.path id)) left

    -- a selection that is read by a branch has the steps of that branch's list
    pub branch_taken : (gs : List Frame) (new : List code.Step)
        → PartIsBefore t o.list.now.below.items (length o.list.now.below.items) (a_selection s)
        → IsSelected (placed_next t f (a_selection s)).path id old new
        → IsEntered t id
        (place_below t.shapes.now (placed_next t f (a_selection s)).path
        (placed_next t f (a_selection s)).name id)
        (fs ++ behind_next f ∷ []) gs
        → IsUnderWay t nodes o gs new
    branch_taken gs new before selects e =
        let all = o.list.now.below.items in
        let l = e.frame.list.now in
        let ps = parts_view l.parts.items in
        let shapes = t.shapes.now in
        let place = place_below shapes here.path here.name id in
        let outer : List Frame = fs ++ behind_next f ∷ [] in
        let parts_are : rules.lists id ≡ Some ps =
        subst (λ i. rules.lists i ≡ Some ps) e.same (tables.lists e.index l e.listed).same in
        let R = ReadsPart rules reads object (a_selection s) in
        let of_list = only_of_branch rules reads object s k c id at
        (subst (IsTheOnly R) chosen taken.only) in
        let of_parts = only_of_same (ReadsList rules reads object id)
        (ReadsParts rules reads object ps)
        (λ x w. (readings_of_list rules reads object id ps parts_are x).1 w)
        (λ x w. (readings_of_list rules reads object id ps parts_are x).0 w) c of_list in
        let stands = before_at t all (length all) id e.index (sym e.is_at)
        (all_at (BranchIsBefore t all (length all)) s.branches k id before at) in
        let below : IsBelow t o l =
        record {
          position = stands.0;
          index = e.index;
          is_below = stands.2;
          listed = e.listed;
        } in
        let inner = left_in t nodes o e.frame ps c below (ap (λ n. drop n ps) e.first) of_parts in
        let steps_from : Path → ListId → ℕ → List Part → List Step =
        λ p i n qs. steps_of walk c (placed_from shapes p i n qs) in
        let inside : List Step = steps_from e.frame.place (list_view l.id) e.frame.next ps in
        let same : steps_of walk c (placed walk place id) ≡ inside =
        ap (λ q. steps_from place id 0 (unwrap_or q [])) parts_are
        ∙ ap (λ i. steps_from place i 0 ps) (sym e.same)
        ∙ ap (λ n. steps_from place (list_view l.id) n ps) (sym e.first)
        ∙ ap (λ (p : Path). steps_from p (list_view l.id) e.frame.next ps) (sym e.place_is) in
        let steps_here : step_at walk taken.choice here (a_selection s)
        ≡ selected here.path id ++ inside =
        ap (λ a. step_at walk a here (a_selection s)) chosen
        ∙ ap
        (λ b.
        through here.path
        (λ i. steps_of walk c (placed walk (place_below shapes here.path here.name i) i)) b) at
        ∙ ap (λ (x : List Step). selected here.path id ++ x) same in
        let all_are : h.others ≡ selected here.path id ++ (inside ++ taken.others) =
        taken.steps_are ∙ ap (λ (x : List Step). x ++ taken.others) steps_here
        ∙ append_assoc (selected here.path id) inside taken.others in
        subst (λ (x : List code.Step). IsUnderWay t nodes o gs x) (sym selects.steps_are)
        (⊎_elim
        (λ (pushed : gs ≡ outer ++ e.frame ∷ []).
        selected_then gs selects.taken selects.taken_are (inside ++ taken.others) all_are
        (subst (λ (x : List Frame). AreLeft t nodes o x (inside ++ taken.others)) (sym pushed)
        (left_more t nodes o outer e.frame inside taken.others taken.left inner)))
        (λ (passed : (gs ≡ outer) × TellsNothing t l).
        let empty : inside ≡ [] =
        sym same ∙ ap (λ i. steps_of walk c (placed walk place i)) (sym e.same)
        ∙ nothing_told t tables e.index l e.listed passed.1 c of_list.0.items
        (subst (λ i. Chooses rules.lists i c of_list.0.items) (sym e.same) of_list.0.chooses)
        place in
        selected_then gs selects.taken selects.taken_are taken.others
        (all_are
        ∙ ap (λ (x : List Step). selected here.path id ++ (x ++ taken.others)) empty)
        (subst (λ (x : List Frame). AreLeft t nodes o x taken.others) (sym passed.0) taken.left))
        e.frames_are)

  -- at first an object's list is under way
  pub first_under_way : AreTables t → IsObject t nodes o
      → IsListCount t nodes o o.list.now One → (place : Path) → place ≡ []
      → IsUnderWay t nodes o (record { list = o.list; next = 0; place = place } ∷ []) []
  first_under_way tables listed one place empty =
      let l = o.list.now in
      let id = list_view l.id in
      let ps = parts_view l.parts.items in
      let is = tables.lists listed.index l listed.listed in
      let f : Frame = record { list = o.list; next = 0; place = place } in
      let below : IsBelow t o l =
      record {
        position = is.last.0;
        index = listed.index;
        is_below = is.last.2;
        listed = listed.listed;
      } in
      let of_parts = only_of_same (ReadsList rules reads object id)
      (ReadsParts rules reads object ps)
      (λ x w. (readings_of_list rules reads object id ps is.same x).1 w)
      (λ x w. (readings_of_list rules reads object id ps is.same x).0 w) one.value
      (one.has, one.only) in
      let steps_from : Path → List Part → List Step =
      λ p qs. steps_of walk one.value (placed_from t.shapes.now p id 0 qs) in
      record {
        choice = one.value;
        reads = one.has;
        steps = [];
        others = steps_from place ps;
        all =
            ap (λ q. steps_from [] (unwrap_or q [])) is.same
            ∙ ap (λ (p : Path). steps_from p ps) (sym empty);
        planned = refl;
        only = all_of_none (IsOnlyStep rules reads object);
        served = all_of_none (StepIsServed t);
        left = record {
          first = [];
          second = steps_from place ps;
          are_first = refl;
          are_second = left_in t nodes o f ps one.value below refl of_parts;
          steps_are = refl;
        };
      }

  -- where no list is under way, the steps are all of them
  pub all_found : (found : List code.Step) → IsUnderWay t nodes o [] found
      → IsPlan t nodes o found
  all_found found h =
      record {
        choice = h.choice;
        reads = h.reads;
        steps = h.steps;
        steps_are =
            sym (append-nil h.steps) ∙ ap (λ (s : List Step). h.steps ++ s) (sym h.left)
            ∙ sym h.all;
        planned = h.planned;
        only = h.only;
        served = h.served;
      }
