use Rattle.std.proofs.Common.{◌∙◌, ap, sym, map}
use Rattle.facet_solver_shape.specs.Paths.{segment_of, segment_text}
use Rattle.facet_solver_reader.specs.PathTexts.{after, is_text_of}
use Rattle.facet_solver_reader.proofs.PathTexts.{dotted, first_text, is_left, next_left, no_dot, no_segment}
use Rattle.facet_solver_reader.proofs.reading.path_text.is_text_of.Goals as goal

pub returns-in_default-after_segment : goal.returns-in_default-after_segment
returns-in_default-after_segment c =
    let first = c.in-Some.first.now in
    let rest = c.in-Some.rest.now in
    let text = c.args.text.now in
    let seen = ap (λ ss. is_text_of (map segment_of ss) text) c.in-Some.ensures.cases.0 in
    let none = c.in_default-after_segment.ensures
    ∙ ap (after (segment_text (segment_of first))) c.as_bytes.ensures.value in
    sym (seen ∙ first_text first rest text ∙ ap (is_left (dotted rest)) (sym none))

pub loop-segment-init : goal.loop-segment-init
loop-segment-init c =
    let first = c.in-Some.first.now in
    let rest = c.in-Some.rest.now in
    let text = c.args.text.now in
    let seen = ap (λ ss. is_text_of (map segment_of ss) text) c.in-Some.ensures.cases.0 in
    let some = c.in-Some-after_segment.ensures
    ∙ ap (after (segment_text (segment_of first))) c.as_bytes.ensures.value in
    seen ∙ first_text first rest text ∙ ap (is_left (dotted rest)) (sym some)

pub returns-in_default-behind : goal.returns-in_default-behind
returns-in_default-behind c =
    sym (c.loop-segment.invariant
    ∙ no_dot c.in-Some.rest.now c.loop-segment.segment-index c.in-Some.first.now
    c.loop-segment.left.now c.loop-segment-test.true c.in_default-behind.ensures)

pub returns-in_default-after_segment-2 : goal.returns-in_default-after_segment-2
returns-in_default-after_segment-2 c =
    sym (c.loop-segment.invariant
    ∙ no_segment c.in-Some.rest.now c.loop-segment.segment-index _ c.loop-segment.left.now
    c.in-Some-behind.behind_dot.now c.loop-segment-test.true c.in-Some-behind.ensures
    c.in_default-after_segment-2.ensures)

pub loop-segment-preserved : goal.loop-segment-preserved
loop-segment-preserved c =
    c.loop-segment.invariant
    ∙ next_left c.in-Some.rest.now c.loop-segment.segment-index _ c.loop-segment.left.now
    c.in-Some-behind.behind_dot.now c.in-Some-after_segment-2.behind_segment.now
    c.loop-segment-test.true c.in-Some-behind.ensures c.in-Some-after_segment-2.ensures
