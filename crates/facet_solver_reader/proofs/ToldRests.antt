-- What the first catch-all among steps takes, and the one reading at each step.
use Rattle.std.proofs.Common.{◌≡◌, ◌∙◌, ap, subst, ℕ, ◌+◌, List, [], ◌∷◌, ◌++◌, map, take}
use Rattle.std.proofs.Common.{Some, None, Option, slice_get, true, false, is_some, Bool, not}
use Rattle.std.proofs.lemmas.List.{take_more}
use Rattle.std.proofs.lemmas.Option.{get_or_from_slice_get, slice_get_within}
use Rattle.std.specs.List.{All}
use Rattle.std.specs.Option.{option_or}
use Rattle.std.proofs.lemmas.List.Elements.{All-head, All-nil, All-tail}
use Rattle.facet_solver_reader.specs.declared.count.Count.TheVariants.{One}
use Rattle.facet_solver_reader.specs.declared.nodes.Nodes.{Nodes}
use Rattle.facet_solver_reader.specs.declared.read.steps.Step as code_step
use Rattle.facet_solver_reader.specs.declared.count.object.Object as read
use Rattle.facet_solver_reader.specs.declared.reading.Reading as code
use Rattle.facet_solver_reader.specs.declared.tables.Tables.{Tables}
use Rattle.facet_solver_reader.specs.Found as found
use Rattle.facet_solver_reader.specs.Found.{catch_all_in}
use Rattle.facet_solver_reader.specs.Parts.{CatchAll, MemberPart}
use Rattle.facet_solver_reader.specs.Planned as planned
use Rattle.facet_solver_reader.specs.Planned.{IsOnlyPlanned, IsOnlyStep, IsPlan, Planned, planned_of}
use Rattle.facet_solver_reader.specs.Planned.{step_view}
use Rattle.facet_solver_reader.specs.Reading.{IsPartCount, object_view}
use Rattle.facet_solver_reader.specs.Readings.{ReadsValue}
use Rattle.facet_solver_reader.specs.Parts.{a_member}
use Rattle.facet_solver_reader.specs.Steps.{Step, a_field, a_rest, a_variant, an_absence}
use Rattle.facet_solver_reader.specs.Tables.{rules_at}
use Rattle.facet_solver_reader.specs.ToldObjects.{AreOnlyMembers, AreOnlyRests, AreToldFields}
use Rattle.facet_solver_reader.specs.ToldObjects.{IsOnlyRest, IsToldRest, IsToldSoFar, Rest}
use Rattle.facet_solver_reader.proofs.FoundSteps.{catch_all_in-append}
use Rattle.facet_solver_reader.proofs.Quantifiers.{all_of_more, all_of_none}

-- the first catch-all among steps up to a place, with the one there
pub rest_at : (ss : List Planned) (i : ℕ) (s : Planned) → slice_get ss i ≡ Some s
    → catch_all_in (take (i + 1) ss)
    ≡ option_or (catch_all_in (take i ss)) (catch_all_in (s ∷ []))
rest_at ss i s there =
    ap catch_all_in (take_more ss i s (slice_get_within ss i s there)
    ∙ ap (λ y. take i ss ++ y ∷ []) (get_or_from_slice_get ss i s s there))
    ∙ catch_all_in-append (take i ss) (s ∷ [])

-- what is said not to be none is there, and what is said to be is not
pub none_some : {X : Type 0} (f : Option X) (b : Bool) → is_some f ≡ not b → b ≡ true
    → is_some f ≡ false
none_some f true e is = e
none_some f false e is = absurd (cc)

pub some_some : {X : Type 0} (f : Option X) (b : Bool) → is_some f ≡ not b → b ≡ false
    → is_some f ≡ true
some_some f false e is = e
some_some f true e is = absurd (cc)

module _ (t : Tables) (nodes : Nodes) (o : read.Object) where
  -- where none was found, the one that comes is the first
  pub rest_first : (x : Option CatchAll) (f : Option Rest) (k : CatchAll) (r : Rest)
      → is_some f ≡ false → IsToldRest t nodes o k r → IsToldSoFar t nodes o x f
      → IsToldSoFar t nodes o (option_or x (Some k)) (Some r)
  rest_first None None k r none told h = told
  rest_first None (Some q) k r none told h = absurd h
  rest_first (Some j) None k r none told h = absurd h
  rest_first (Some j) (Some q) k r none told h = absurd (cc)

  -- where one was found, it stays the first
  pub rest_kept : (x y : Option CatchAll) (f : Option Rest) → is_some f ≡ true
      → IsToldSoFar t nodes o x f → IsToldSoFar t nodes o (option_or x y) f
  rest_kept None y None some h = absurd (cc)
  rest_kept None y (Some q) some h = absurd h
  rest_kept (Some j) y None some h = absurd h
  rest_kept (Some j) y (Some q) some h = h

  -- what is none changes nothing
  pub rest_passed : (x : Option CatchAll) (f : Option Rest) → IsToldSoFar t nodes o x f
      → IsToldSoFar t nodes o (option_or x None) f
  rest_passed None None h = h
  rest_passed None (Some q) h = absurd h
  rest_passed (Some j) None h = absurd h
  rest_passed (Some j) (Some q) h = h

  -- a step that is no catch-all asks nothing of one
  pub no_rest_only : (s : Planned) → catch_all_in (s ∷ []) ≡ None → IsOnlyRest t nodes o s
  no_rest_only (planned.a_field path m) e = tt
  no_rest_only (planned.a_variant path id k) e = tt
  no_rest_only (planned.an_absence path) e = tt
  no_rest_only (planned.a_rest k) e = absurd (cc)

  -- members that are told are read in one way
  pub told_only : (ms : List MemberPart) (ws : List code.Reading) → AreToldFields t nodes o ms ws
      → AreOnlyMembers t nodes o ms
  told_only [] [] h = All-nil _
  told_only (m ∷ ms) (w ∷ ws) h =
      (all_of_more (λ n. IsPartCount t nodes o (a_member n) One) m ms).1
      (h.0.only.only, told_only ms ws h.1)
  told_only [] (w ∷ ws) h = absurd h
  told_only (m ∷ ms) [] h = absurd h

  -- so is the object at each step, where its catch-alls are
  pub steps_only : (ss : List Planned) → AreOnlyMembers t nodes o (found.members_in ss)
      → AreOnlyRests t nodes o ss → All (IsOnlyPlanned t nodes o) ss
  steps_only [] ms rests = all_of_none (IsOnlyPlanned t nodes o)
  steps_only (planned.a_field path m ∷ ss) ms rests =
      let both = (all_of_more (λ n. IsPartCount t nodes o (a_member n) One) m
      (found.members_in ss)).0 ms in
      let other = (all_of_more (IsOnlyRest t nodes o) (planned.a_field path m) ss).0 rests in
      (all_of_more (IsOnlyPlanned t nodes o) (planned.a_field path m) ss).1
      (both.0, steps_only ss both.1 other.1)
  steps_only (planned.a_variant path id k ∷ ss) ms rests =
      let other = (all_of_more (IsOnlyRest t nodes o) (planned.a_variant path id k) ss).0 rests in
      (all_of_more (IsOnlyPlanned t nodes o) (planned.a_variant path id k) ss).1
      (tt, steps_only ss ms other.1)
  steps_only (planned.an_absence path ∷ ss) ms rests =
      let other = (all_of_more (IsOnlyRest t nodes o) (planned.an_absence path) ss).0 rests in
      (all_of_more (IsOnlyPlanned t nodes o) (planned.an_absence path) ss).1
      (tt, steps_only ss ms other.1)
  steps_only (planned.a_rest k ∷ ss) ms rests =
      let other = (all_of_more (IsOnlyRest t nodes o) (planned.a_rest k) ss).0 rests in
      (all_of_more (IsOnlyPlanned t nodes o) (planned.a_rest k) ss).1
      (other.0, steps_only ss ms other.1)

  -- the catch-alls among the steps of a plan take in one way
  rests_of_steps : (ss : List Step)
      → All (IsOnlyStep (rules_at t) (ReadsValue (rules_at t)) (object_view nodes o)) ss
      → AreOnlyRests t nodes o (map planned_of ss)
  rests_of_steps [] h = all_of_none (IsOnlyRest t nodes o)
  rests_of_steps (a_field path m r ∷ ss) h =
      let P = IsOnlyStep (rules_at t) (ReadsValue (rules_at t)) (object_view nodes o) in
      (all_of_more (IsOnlyRest t nodes o) (planned.a_field path m) (map planned_of ss)).1
      (tt, rests_of_steps ss (All-tail P (a_field path m r) ss h))
  rests_of_steps (a_variant path id k ∷ ss) h =
      let P = IsOnlyStep (rules_at t) (ReadsValue (rules_at t)) (object_view nodes o) in
      (all_of_more (IsOnlyRest t nodes o) (planned.a_variant path id k) (map planned_of ss)).1
      (tt, rests_of_steps ss (All-tail P (a_variant path id k) ss h))
  rests_of_steps (an_absence path ∷ ss) h =
      let P = IsOnlyStep (rules_at t) (ReadsValue (rules_at t)) (object_view nodes o) in
      (all_of_more (IsOnlyRest t nodes o) (planned.an_absence path) (map planned_of ss)).1
      (tt, rests_of_steps ss (All-tail P (an_absence path) ss h))
  rests_of_steps (a_rest k u ∷ ss) h =
      let P = IsOnlyStep (rules_at t) (ReadsValue (rules_at t)) (object_view nodes o) in
      (all_of_more (IsOnlyRest t nodes o) (planned.a_rest k) (map planned_of ss)).1
      ((All-head P (a_rest k u) ss h).only, rests_of_steps ss (All-tail P (a_rest k u) ss h))

  pub rests_of_plan : (steps : List code_step.Step) → IsPlan t nodes o steps
      → AreOnlyRests t nodes o (map step_view steps)
  rests_of_plan steps plan =
      subst (AreOnlyRests t nodes o) plan.planned (rests_of_steps plan.steps plan.only)
