use Rattle.std.proofs.Common.{◌∙◌, ◌++◌, ◌∷◌, [], length, map, sym, ap, rules, length-append, append-nil}
use Rattle.std.proofs.lemmas.Slice.Zip.{zip_end, zip_turn}
use Rattle.facet_solver_types.specs.Declarations.{parameter_view}
use Rattle.facet_solver_types.specs.Layers.{part_of, part_view}
use Rattle.facet_solver_types.specs.Passages.{passage_view}
use Rattle.facet_solver_types.proofs.ZippedLists.{paired_over, paired_step}
use Rattle.facet_solver_types.proofs.typing.layer.parts_of.Goals as goal

pub loop-parameter-preserved : goal.loop-parameter-preserved
loop-parameter-preserved c =
    let l = c.loop-parameter in
    let ps = c.args.parameters.now in
    let ts = c.args.passages.now in
    let turn = zip_turn ps ts l.yielded c.into_iter-parameter-iterator.result l.parameter-iterator
    c.next.new.self c.next.result (search rules) (search rules) l.yielded_by
    (c.in-Some.parameter, c.in-Some.passage) c.in-Some.is c.next.ensures.steps in
    let a = c.in-Some.parameter.now in
    let b = c.in-Some.passage.now in
    l.invariant
    ∙ paired_step parameter_view passage_view part_of ps ts part_view l.parts.items c.push.new.self.items
    c.part_of.result (length l.yielded) (length (l.yielded ++ (c.in-Some.parameter, c.in-Some.passage) ∷ [])) a b
    turn.0 turn.1 (turn.2 a) (turn.3 b)
    (length-append l.yielded ((c.in-Some.parameter, c.in-Some.passage) ∷ []))
    c.part_of.ensures c.in_ok-push.ensures.items

pub returns : goal.returns
returns c =
    let l = c.loop-parameter in
    let ps = c.args.parameters.now in
    let ts = c.args.passages.now in
    let made = map part_view l.parts.items in
    let end = zip_end ps ts l.yielded c.into_iter-parameter-iterator.result l.parameter-iterator
    c.next.new.self c.next.result (search rules) (search rules) l.yielded_by c.in-None.is
    c.next.ensures.steps in
    sym (l.invariant
    ∙ ap (λ left. made ++ left) (paired_over parameter_view passage_view part_of ps ts (length l.yielded) end)
    ∙ append-nil made)
