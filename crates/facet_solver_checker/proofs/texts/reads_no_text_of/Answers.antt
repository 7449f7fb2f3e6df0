use Rattle.facet_solver_checker.proofs.texts.reads_no_text_of.Goals as goal

pub returns-then-name : goal.returns-then-name
returns-then-name c = λ h unit. c.reads_no_word.ensures h
