-- The reading of an object is told: by what its steps go through, the readings of its members, and
-- what becomes of the members of no known name.
use Rattle.std.proofs.Common.{◌≡◌, ◌∙◌, sym, ap, subst, ℕ, zero, suc, List, [], ◌∷◌, map}
use Rattle.std.proofs.Common.{Some, None, Vec, Global, slice_get, arith, ◌<◌, refl, Bor}
use Rattle.std.proofs.lemmas.List.Elements.{All-cons, All-head, All-nil, All-tail}
use Rattle.std.proofs.lemmas.Option.{slice_get_within}
use Rattle.std.specs.List.{All}
use Rattle.facet_solver_shape.specs.Resolved.{selection_view}
use Rattle.facet_solver_reader.specs.declared.nodes.Nodes.{Nodes}
use Rattle.facet_solver_reader.specs.declared.read.steps.Step as code_step
use Rattle.facet_solver_reader.specs.declared.part.MemberPart as code_member
use Rattle.facet_solver_reader.specs.declared.count.object.Object as read
use Rattle.facet_solver_reader.specs.declared.reading.ObjectReading.{ObjectReading}
use Rattle.facet_solver_reader.specs.declared.reading.Reading as code
use Rattle.facet_solver_reader.specs.declared.reading.ReadingKind.TheVariants as kinds
use Rattle.facet_solver_reader.specs.declared.tables.Tables.{Tables}
use Rattle.facet_solver_reader.specs.Branches.{ReadsList, ReadsPart}
use Rattle.facet_solver_reader.specs.Choices.{Choice, Taken, taking}
use Rattle.facet_solver_reader.specs.Counted.{IsOnly}
use Rattle.facet_solver_reader.specs.FieldPlaces.{Path}
use Rattle.facet_solver_reader.specs.Found as found
use Rattle.facet_solver_reader.specs.Nodes.{members_in, value_of}
use Rattle.facet_solver_reader.specs.Objects.{ReadsObject}
use Rattle.facet_solver_reader.specs.Parts.{CatchAll, MemberPart, a_catch_all, a_member}
use Rattle.facet_solver_reader.specs.Planned as planned
use Rattle.facet_solver_reader.specs.Planned.{IsOnlyStep, IsPlan, Planned}
use Rattle.facet_solver_reader.specs.Planned.{planned_of, step_view}
use Rattle.facet_solver_reader.specs.Reading.{object_view}
use Rattle.facet_solver_reader.specs.Readings.{ReadsValue}
use Rattle.facet_solver_reader.specs.Steps.{Step, a_field, a_rest, a_variant, an_absence}
use Rattle.facet_solver_reader.specs.Tables.{rules_at}
use Rattle.facet_solver_reader.specs.Told.{AreUnknown, TellsRest, TellsTaken, all_ignored}
use Rattle.facet_solver_reader.specs.Told.{all_taken, end_taken, paths_view, place_view, rest_in}
use Rattle.facet_solver_reader.specs.Told.{steps_told, texts}
use Rattle.facet_solver_reader.specs.ToldAt.{IsToldBy}
use Rattle.facet_solver_reader.specs.ToldObjects.{AreOnlyMembers, AreToldFields, IsOnlyOf}
use Rattle.facet_solver_reader.specs.ToldObjects.{IsToldRest, Rest}
use Rattle.facet_solver_reader.specs.Views.{list_view}
use Rattle.facet_solver_reader.proofs.FoundSteps.{absences_planned, all_rest, no_rest}
use Rattle.facet_solver_reader.proofs.FoundSteps.{places_planned, selections_planned, some_rest}
use Rattle.facet_solver_reader.proofs.ToldMembers.{fields_told, same_taken}

-- what each member among steps has, the one of a step has
pub member_at : (P : MemberPart → Type 0) (ss : List Planned) (i : ℕ) (path : Path)
    (m : MemberPart) → slice_get ss i ≡ Some (planned.a_field path m)
    → All P (found.members_in ss) → P m
member_at P [] i path m e h =
    let l : i < 0 = slice_get_within [] i (planned.a_field path m) e in absurd (omega arith)
member_at P (s ∷ ss) zero path m e h =
    let same : s ≡ planned.a_field path m = cc in
    All-head P m (found.members_in ss)
    (subst (λ (x : Planned). All P (found.members_in (x ∷ ss))) same h)
member_at P (planned.a_field p n ∷ ss) (suc i) path m e h =
    member_at P ss i path m e (All-tail P n (found.members_in ss) h)
member_at P (planned.a_variant p id k ∷ ss) (suc i) path m e h = member_at P ss i path m e h
member_at P (planned.an_absence p ∷ ss) (suc i) path m e h = member_at P ss i path m e h
member_at P (planned.a_rest k ∷ ss) (suc i) path m e h = member_at P ss i path m e h

-- a step that is no field has no member
pub no_member : (s : code_step.Step)
    → ((path : Path) (m : Bor code_member.MemberPart)
    → s ≡ code_step.TheVariants.Field path m → ⊥)
    → found.members_in (step_view s ∷ []) ≡ []
no_member (code_step.TheVariants.Field path m) f = absurd (f path m refl)
no_member (code_step.TheVariants.Variant path id k) f = refl
no_member (code_step.TheVariants.Absence path) f = refl
no_member (code_step.TheVariants.Rest k) f = refl

module _ (t : Tables) (nodes : Nodes) (o : read.Object) where
  -- an object has one reading by each member among the steps
  members_of_steps : (ss : List Step)
      → All (IsOnlyStep (rules_at t) (ReadsValue (rules_at t)) (object_view nodes o)) ss
      → AreOnlyMembers t nodes o (found.members_in (map planned_of ss))
  members_of_steps [] h = All-nil _
  members_of_steps (a_field path m r ∷ ss) h =
      let P = IsOnlyStep (rules_at t) (ReadsValue (rules_at t)) (object_view nodes o) in
      All-cons
      (λ n. IsOnly (ReadsPart (rules_at t) (ReadsValue (rules_at t)) (object_view nodes o)
      (a_member n))) m (found.members_in (map planned_of ss))
      (All-head P (a_field path m r) ss h).only
      (members_of_steps ss (All-tail P (a_field path m r) ss h))
  members_of_steps (a_variant path id k ∷ ss) h =
      let P = IsOnlyStep (rules_at t) (ReadsValue (rules_at t)) (object_view nodes o) in
      members_of_steps ss (All-tail P (a_variant path id k) ss h)
  members_of_steps (an_absence path ∷ ss) h =
      let P = IsOnlyStep (rules_at t) (ReadsValue (rules_at t)) (object_view nodes o) in
      members_of_steps ss (All-tail P (an_absence path) ss h)
  members_of_steps (a_rest k u ∷ ss) h =
      let P = IsOnlyStep (rules_at t) (ReadsValue (rules_at t)) (object_view nodes o) in
      members_of_steps ss (All-tail P (a_rest k u) ss h)

  module _ (steps : List code_step.Step) (plan : IsPlan t nodes o steps) where
    -- so has it by those among the steps of a plan
    pub members_of_plan : AreOnlyMembers t nodes o (found.members_in (map step_view steps))
    members_of_plan =
        subst (λ (ss : List Planned). AreOnlyMembers t nodes o (found.members_in ss)) plan.planned
        (members_of_steps plan.steps plan.only)

    -- and one by the catch-all
    pub rest_of_plan : (k : CatchAll) → found.catch_all_in (map step_view steps) ≡ Some k
        → (u : Taken) × (rest_in plan.steps ≡ Some (k, u)) × IsOnlyOf t nodes o (a_catch_all k)
        (taking u)
    rest_of_plan k e =
        let some = some_rest plan.steps k (ap found.catch_all_in plan.planned ∙ e) in (
          some.0,
          some.1,
          all_rest (IsOnlyStep (rules_at t) (ReadsValue (rules_at t)) (object_view nodes o))
              plan.steps k some.0 plan.only some.1,
        )

    -- what the catch-all takes is told
    pub rest_is_taken : (k : CatchAll) (r : Rest) (x : ObjectReading)
        (ws : List code.Reading) → found.catch_all_in (map step_view steps) ≡ Some k
        → IsToldRest t nodes o k r → x.taken.items ≡ r.0.items → ws ≡ r.1.items
        → x.ignored.items ≡ []
        → TellsRest (rules_at t) t.shapes.now (list_view o.list.now.id)
        (members_in (value_of nodes o.node)) (rest_in plan.steps) x ws
    rest_is_taken k r x ws e told names readings none =
        let ms = members_in (value_of nodes o.node) in
        let rest = rest_of_plan k e in
        let same : told.takes ≡ rest.0 =
        same_taken t nodes o k told.takes rest.0 told.only rest.2 in
        let tells = subst
        (λ u. TellsTaken (rules_at t) t.shapes.now (end_taken (rules_at t) k) ms u
        (texts r.0.items) r.1.items)
        same told.tells in
        let named = subst
        (λ ns. TellsTaken (rules_at t) t.shapes.now (end_taken (rules_at t) k) ms rest.0
        (texts ns) r.1.items)
        (sym names) tells in
        let all = subst
        (λ vs. TellsTaken (rules_at t) t.shapes.now (end_taken (rules_at t) k) ms rest.0
        (texts x.taken.items) vs)
        (sym readings) named in
        subst
        (λ u. TellsRest (rules_at t) t.shapes.now (list_view o.list.now.id) ms u x ws)
        (sym rest.1)
        (all_taken (list_view o.list.now.id) ms k rest.0 x ws all none)

    -- where there is no catch-all, what is ignored is told
    pub rest_is_ignored : (x : ObjectReading) (ws : List code.Reading)
        → found.catch_all_in (map step_view steps) ≡ None
        → x.taken.items ≡ [] → ws ≡ []
        → AreUnknown (rules_at t) (list_view o.list.now.id) (members_in (value_of nodes o.node))
        (texts x.ignored.items)
        → TellsRest (rules_at t) t.shapes.now (list_view o.list.now.id)
        (members_in (value_of nodes o.node)) (rest_in plan.steps) x ws
    rest_is_ignored x ws e none empty unknown =
        let ms = members_in (value_of nodes o.node) in
        let no = no_rest plan.steps (ap found.catch_all_in plan.planned ∙ e) in
        subst
        (λ u. TellsRest (rules_at t) t.shapes.now (list_view o.list.now.id) ms u x ws)
        (sym no)
        (subst
        (λ vs. TellsRest (rules_at t) t.shapes.now (list_view o.list.now.id) ms None x vs)
        (sym empty)
        (all_ignored (list_view o.list.now.id) ms x none unknown))

    -- the object is told
    pub told_by_plan : (w : code.Reading) (x : ObjectReading) (values rest : Vec code.Reading Global)
        → ((c : Choice) → ReadsList (rules_at t) (ReadsValue (rules_at t)) (object_view nodes o)
        (list_view o.list.now.id) c
        → ReadsObject (rules_at t) (ReadsValue (rules_at t)) (list_view o.list.now.id)
        (members_in (value_of nodes o.node)) c)
        → w.variants.items ≡ [] → w.kind ≡ kinds.Object x values rest
        → map selection_view x.selections.items
        ≡ found.selections_in t.shapes.now (map step_view steps)
        → paths_view x.absent ≡ found.absences_in (map step_view steps)
        → map place_view x.fields.items ≡ found.places_in (map step_view steps)
        → AreToldFields t nodes o (found.members_in (map step_view steps)) values.items
        → TellsRest (rules_at t) t.shapes.now (list_view o.list.now.id)
        (members_in (value_of nodes o.node)) (rest_in plan.steps) x rest.items
        → IsToldBy t nodes o.node (list_view o.list.now.id) w
    told_by_plan w x values rest reads variants kind selections absences places fields unknown =
        let shapes = t.shapes.now in
        let ms = members_in (value_of nodes o.node) in
        let of_plan = subst
        (λ (ss : List Planned). AreToldFields t nodes o (found.members_in ss) values.items)
        (sym plan.planned) fields in
        record {
          choice = plan.choice;
          reads = reads plan.choice plan.reads;
          object = x;
          values = values;
          rest = rest;
          variants_are = variants;
          kind_is = kind;
          tells = steps_told (list_view o.list.now.id) ms plan.choice plan.steps x values.items
              rest.items plan.steps_are
              (selections ∙ (ap (found.selections_in shapes) (sym plan.planned)
              ∙ sym (selections_planned shapes plan.steps)))
              (absences
              ∙ (ap found.absences_in (sym plan.planned) ∙ sym (absences_planned plan.steps)))
              (places ∙ (ap found.places_in (sym plan.planned) ∙ sym (places_planned plan.steps)))
              (fields_told t nodes o plan.steps values.items plan.only of_plan) unknown;
        }
