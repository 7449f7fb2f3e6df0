use Rattle.std.proofs.Common.{◌≡◌, IfSome, List}
use Rattle.std.specs.Io.Buffered.{reader_remaining}
use Rattle.std.specs.Io.Iter.{split_byte, split_known_bytes}
use Rattle.facet_solver_tool.specs.Answer.{Answer}
use Rattle.facet_solver_tool.specs.Counts.{Counts}
use Rattle.facet_solver_tool.specs.Lines.{WritesAnswers}
use Rattle.facet_solver_tool.specs.ReadAnswers.{AnswersBytes}
use Rattle.facet_solver_tool.specs.Streams.{streams}
use Rattle.facet_solver_tool.proofs.SoFar.{SoFar}
use Rattle.facet_solver_tool.proofs.lines.each.answer_each.Given as goal

-- the lines so far are answered and counted
abbrev pub invariant-loop-line : goal.invariant-loop-line
invariant-loop-line g l =
    (goal.iterator-loop-line g).can_next l.line-iterator
    × (goal.iterator-loop-line g).is_finite l.line-iterator
    × (split_byte l.line-iterator ≡ 10)
    × ((answers : List Answer) × Counts l.count answers
    × IfSome (g.I.Read.remaining l.fn.input)
    (SoFar (AnswersBytes l.reader) answers (split_known_bytes (reader_remaining (λ r. g.I.Read.remaining r.now)) l.line-iterator))
    × WritesAnswers l.is_shown
    (streams (g.O.Write.contents l.initial.output) (g.E.Write.contents l.initial.errors))
    (streams (g.O.Write.contents l.output) (g.E.Write.contents l.errors)) answers)
