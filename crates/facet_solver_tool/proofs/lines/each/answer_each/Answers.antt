use Rattle.std.proofs.Common.{[], ◌∷◌, ◌++◌, ◌⊎◌, ◌≡◌, ◌∙◌, refl, subst, vec_items}
use Rattle.std.specs.Io.Buffered.{reader_remaining}
use Rattle.std.specs.Io.Iter.{split_byte, split_known_bytes}
use Rattle.facet_solver_tool.specs.Answer.{refused}
use Rattle.facet_solver_tool.specs.ReadAnswers.{AnswersBytes}
use Rattle.facet_solver_tool.specs.Streams.{streams}
use Rattle.facet_solver_tool.proofs.SoFar.{line_taken, so_far_first, so_far_more, so_far_none}
use Rattle.facet_solver_tool.proofs.Written.{written_more, written_none}
use Rattle.facet_solver_tool.proofs.lines.each.answer_each.Goals as goal

pub returns-in-Err-clause-first : goal.returns-in-Err-clause-first
returns-in-Err-clause-first g c =
    λ written.
    let whole = g.I.Read.remaining c.args.input.now in
    let P = AnswersBytes c.args.reader.now in (
      [],
      so_far_first P [] whole whole (so_far_none P whole whole refl),
      written_none c.args.is_shown (streams (g.O.Write.contents c.args.output.now) (g.E.Write.contents c.args.errors.now)),
    )

-- one line more
pub loop-line-preserved : goal.loop-line-preserved
loop-line-preserved g c =
    let P = AnswersBytes c.args.reader.now in
    let reads = reader_remaining (λ r. g.I.Read.remaining r.now) in
    let old = c.loop-line.line-iterator in
    let new = c.next.new.self in
    let so_far = c.loop-line.invariant.3 in
    let steps = c.in-Some.ensures.steps in
    let byte = c.loop-line.invariant.2 in
    let line = c.in-Ok-line.line in
    let taken = line_taken vec_items (split_byte old) (split_known_bytes reads old) (split_known_bytes reads new) c.in-Some.line line byte c.in-Ok-line.is steps.2 in
    let said = c.in-Ok-answer_line.ensures in
    let a = said.0 in
    let answered = subst (λ bytes. P bytes a ⊎ (a ≡ refused)) c.deref.ensures.value said.2 in (
      tt,
      tt,
      steps.1 ∙ byte,
      (
        so_far.0 ++ a ∷ [],
        c.add.ensures so_far.0 a said.1 so_far.1,
        so_far_more P so_far.0 (g.I.Read.remaining c.args.input.now) (split_known_bytes reads old) (split_known_bytes reads new) line.items a so_far.2 taken answered,
        written_more c.args.is_shown
            (streams (g.O.Write.contents c.args.output.now) (g.E.Write.contents c.args.errors.now))
            (streams (g.O.Write.contents c.loop-line.output) (g.E.Write.contents c.loop-line.errors))
            (streams (g.O.Write.contents c.answer_line.new.output) (g.E.Write.contents c.show.new.errors))
            so_far.0 a so_far.3 said.3 c.in_default.ensures,
      ),
    )
