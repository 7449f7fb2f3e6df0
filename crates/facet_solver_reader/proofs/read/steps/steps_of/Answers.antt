use Rattle.std.proofs.Common.{◌≡◌, sym, ap, subst, refl, List, [], ◌∷◌, ◌++◌, Option}
use Rattle.std.specs.Prelude.{IsNone}
use Rattle.facet_solver_reader.specs.declared.read.steps.Frame.{Frame}
use Rattle.facet_solver_reader.specs.declared.read.steps.Step as code
use Rattle.facet_solver_reader.specs.UnderWay.{IsGoing, with_inner}
use Rattle.facet_solver_reader.proofs.StepsOne.{all_going, first_going}
use Rattle.facet_solver_reader.proofs.read.steps.steps_of.Goals as goal

pub parts-init : goal.parts-init
parts-init c =
    let t = c.args.tables.now in
    let nodes = c.args.nodes.now in
    let o = c.args.object.now in
    let f : Frame = record { list = c.args.object.now.list; next = 0; place = c.empty.result } in
    let first = first_going t nodes o c.requires.sound.tables c.requires.object c.empty.result
    c.empty.ensures in
    let frames : c.new.result.items ++ f ∷ [] ≡ f ∷ [] =
    ap (λ (fs : List Frame). fs ++ f ∷ []) c.new.ensures.items in
    record {
      sound = c.requires.sound;
      counts = tt;
      under_way =
          subst
          (λ (ss : List code.Step). IsGoing t nodes o (c.new.result.items ++ f ∷ []) ss)
          (sym c.in_ok-steps.ensures.items)
          (subst (λ (fs : List Frame). IsGoing t nodes o fs []) (sym frames) first);
    }

pub returns-in-None-clause-plan : goal.returns-in-None-clause-plan
returns-in-None-clause-plan c =
    let t = c.args.tables.now in
    let nodes = c.args.nodes.now in
    let o = c.args.object.now in
    let way = c.go_on.new.self in
    let going = subst
    (λ inner. IsGoing t nodes o (with_inner way.frames.items inner) way.steps.items) c.in-None.is
    c.in_ok-next.ensures.under_way in
    let empty : way.frames.items ≡ [] =
    c.in_ok-next.ensures.none (subst (λ (f : Option Frame). IsNone f) (sym c.in-None.is) refl) in
    all_going t nodes o way.steps.items
    (subst (λ (fs : List Frame). IsGoing t nodes o fs way.steps.items) empty going)
