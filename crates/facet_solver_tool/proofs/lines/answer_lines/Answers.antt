use Rattle.facet_solver_tool.proofs.lines.answer_lines.Goals as goal

pub returns : goal.returns
returns g c = λ written. (c.is_terminal-is_terminal.result, c.answer_shown.ensures written)
