-- The steps that are left in the lists that are under way, and those of the next part of the last.
use Rattle.std.proofs.Common.{◌≡◌, ◌∙◌, sym, ap, subst, refl, ℕ, suc, ◌+◌, ◌≤◌, List, [], ◌∷◌}
use Rattle.std.proofs.Common.{◌++◌, append_assoc, length, drop, drop-cons, drop_of_length-le}
use Rattle.std.proofs.Common.{Some, slice_get, arith}
use Rattle.std.proofs.lemmas.List.{append-nil}
use Rattle.std.proofs.lemmas.Option.{get_or_from_slice_get, slice_get_within}
use Rattle.facet_solver_reader.specs.declared.nodes.Nodes.{Nodes}
use Rattle.facet_solver_reader.specs.declared.read.steps.Frame.{Frame}
use Rattle.facet_solver_reader.specs.declared.count.object.Object as read
use Rattle.facet_solver_reader.specs.declared.tables.Tables.{Tables}
use Rattle.facet_solver_reader.specs.Branches.{ReadsPart, ReadsParts}
use Rattle.facet_solver_reader.specs.Choices.{Choice, ChoiceAt, done, next}
use Rattle.facet_solver_reader.specs.Counted.{IsOnly}
use Rattle.facet_solver_reader.specs.FieldPlaces.{field_name, path_at}
use Rattle.facet_solver_reader.specs.Objects.{Object, Reads}
use Rattle.facet_solver_reader.specs.Parts.{Part}
use Rattle.facet_solver_reader.specs.Planned.{walk_at}
use Rattle.facet_solver_reader.specs.Reading.{object_view}
use Rattle.facet_solver_reader.specs.Readings.{ReadsValue}
use Rattle.facet_solver_reader.specs.Rules.{Rules}
use Rattle.facet_solver_reader.specs.Steps.{Placed, Step, Walk, placed_from, step_at, steps_of}
use Rattle.facet_solver_reader.specs.Tables.{AreTables, rules_at}
use Rattle.facet_solver_reader.specs.UnderWay.{AreBothSteps, AreLeft, AreLeftIn, IsBelow}
use Rattle.facet_solver_reader.specs.UnderWay.{parts_left}
use Rattle.facet_solver_reader.specs.Views.{list_view, parts_view}
use Rattle.facet_solver_reader.proofs.Distinct.{distinct_from, distinct_parts}
use Rattle.facet_solver_reader.proofs.Products.{readings_join}
use Rattle.facet_solver_reader.proofs.TheOnly.{IsTheOnly, parts_of_only}

-- the part that comes next in a list that is under way, at its place
abbrev pub placed_next : Tables → Frame → Part → Placed
placed_next t f p =
    record {
      name = field_name t.shapes.now (list_view f.list.now.id) f.next;
      path = path_at t.shapes.now f.place (list_view f.list.now.id) f.next;
      part = p;
    }

-- the same list, when its next part is taken
abbrev pub behind_next : Frame → Frame
behind_next f = record f { next = f.next + 1 }

module _ (t : Tables) (nodes : Nodes) (o : read.Object) where
  abbrev rules : Rules
  rules = rules_at t

  abbrev reads : Reads
  reads = ReadsValue (rules_at t)

  abbrev object : Object
  object = object_view nodes o

  abbrev walk : Walk
  walk = walk_at t

  -- one list more is under way
  pub left_more : (fs : List Frame) (f : Frame) (own others : List Step)
      → AreLeft t nodes o fs others → AreLeftIn t nodes o f own
      → AreLeft t nodes o (fs ++ f ∷ []) (own ++ others)
  left_more [] f own others none h =
      record {
        first = [];
        second = own;
        are_first = refl;
        are_second = h;
        steps_are = ap (λ (s : List Step). own ++ s) none ∙ append-nil own;
      }
  left_more (g ∷ fs) f own others b h =
      record {
        first = own ++ b.first;
        second = b.second;
        are_first = left_more fs f own b.first b.are_first h;
        are_second = b.are_second;
        steps_are =
            ap (λ (s : List Step). own ++ s) b.steps_are
            ∙ sym (append_assoc own b.first b.second);
      }

  -- the last list that is under way
  pub left_last : (fs : List Frame) (f : Frame) (all : List Step)
      → AreLeft t nodes o (fs ++ f ∷ []) all
      → AreBothSteps (AreLeftIn t nodes o f) (AreLeft t nodes o fs) all
  left_last [] f all b =
      record {
        first = b.second;
        second = [];
        are_first = b.are_second;
        are_second = refl;
        steps_are =
            b.steps_are ∙ ap (λ (s : List Step). s ++ b.second) b.are_first
            ∙ sym (append-nil b.second);
      }
  left_last (g ∷ fs) f all b =
      let c = left_last fs f b.first b.are_first in
      record {
        first = c.first;
        second = c.second ++ b.second;
        are_first = c.are_first;
        are_second = record {
          first = c.second;
          second = b.second;
          are_first = c.are_second;
          are_second = b.are_second;
          steps_are = refl;
        };
        steps_are =
            b.steps_are ∙ ap (λ (s : List Step). s ++ b.second) c.steps_are
            ∙ append_assoc c.first c.second b.second;
      }

  -- where no part is left, no step is
  pub none_left : (f : Frame) (own : List Step) → AreLeftIn t nodes o f own
      → length (parts_view f.list.now.parts.items) ≤ f.next → own ≡ []
  none_left f own h past =
      let none = drop_of_length-le (parts_view f.list.now.parts.items) past in
      h.steps_are
      ∙ ap
      (λ (ps : List Part).
      steps_of (walk_at t) h.only.value
      (placed_from t.shapes.now f.place (list_view f.list.now.id) f.next ps)) none
      ∙ nothing h.only.value
    where
      nothing : (c : Choice) → steps_of (walk_at t) c [] ≡ []
      nothing done = refl
      nothing (next a c) = refl

  -- the only reading by the parts of a list that are left
  pub left_in : (f : Frame) (ps : List Part) (c : Choice) → IsBelow t o f.list.now
      → parts_left f ≡ ps
      → IsTheOnly (ReadsParts (rules_at t) (ReadsValue (rules_at t)) (object_view nodes o) ps) c
      → AreLeftIn t nodes o f
      (steps_of (walk_at t) c
      (placed_from t.shapes.now f.place (list_view f.list.now.id) f.next ps))
  left_in f ps c below are only =
      subst
      (λ (qs : List Part).
      IsTheOnly (ReadsParts (rules_at t) (ReadsValue (rules_at t)) (object_view nodes o) qs) c
      → AreLeftIn t nodes o f
      (steps_of (walk_at t) c
      (placed_from t.shapes.now f.place (list_view f.list.now.id) f.next qs)))
      are
      (λ h.
      record {
        below = below;
        only = record { value = c; has = h.0; only = h.1 };
        steps_are = refl;
      })
      only

  -- the next part of a list is read in one way, and the steps of that and of the others are left
  pub record IsNextPart (f : Frame) (p : Part) (own : List Step) : Type 0 where
    pub choice : ChoiceAt
    pub only :
        IsTheOnly (ReadsPart (rules_at t) (ReadsValue (rules_at t)) (object_view nodes o) p) choice
    pub others : List Step
    pub left : AreLeftIn t nodes o (behind_next f) others
    pub steps_are : own ≡ step_at (walk_at t) choice (placed_next t f p) p ++ others

  pub next_part : AreTables t → (f : Frame) (p : Part) (own : List Step)
      → AreLeftIn t nodes o f own → slice_get (parts_view f.list.now.parts.items) f.next ≡ Some p
      → IsNextPart f p own
  next_part tables f p own h at =
      let l = f.list.now in
      let id = list_view l.id in
      let all = parts_view l.parts.items in
      let i = f.next in
      let ps : List Part = drop (suc i) all in
      let whole : drop i all ≡ p ∷ ps =
      drop-cons all i p (slice_get_within all i p at)
      ∙ ap (λ (q : Part). q ∷ ps) (get_or_from_slice_get all i p p at) in
      let is = tables.lists h.below.index l h.below.listed in
      let distinct = distinct_from rules.lists all i p ps
      (distinct_parts rules.lists id all is.same is.chosen is.distinct) whole in
      let at_place : ℕ → List Part → List Placed = λ n qs.
      placed_from t.shapes.now f.place id n qs in
      let here : (only : IsOnly (ReadsParts rules reads object (p ∷ ps)))
      × (own ≡ steps_of walk only.value (at_place i (p ∷ ps))) =
      subst
      (λ (qs : List Part).
      (only : IsOnly (ReadsParts rules reads object qs))
      × (own ≡ steps_of walk only.value (at_place i qs)))
      whole (h.only, h.steps_are) in
      let parts = parts_of_only (ReadsPart rules reads object p) (ReadsParts rules reads object ps)
      (ReadsParts rules reads object (p ∷ ps)) next
      (readings_join rules reads object p ps distinct) here.0.value (here.0.has, here.0.only) in
      let up : suc i ≡ i + 1 = omega arith in
      record {
        choice = parts.first;
        only = parts.only_first;
        others = steps_of walk parts.second (at_place (i + 1) ps);
        left =
            left_in (behind_next f) ps parts.second h.below (ap (λ n. drop n all) (sym up))
            parts.only_second;
        steps_are =
            here.1 ∙ ap (λ c. steps_of walk c (at_place i (p ∷ ps))) parts.is_joined
            ∙ ap
            (λ n.
            step_at walk parts.first (placed_next t f p) p
            ++ steps_of walk parts.second (at_place n ps)) up;
      }
