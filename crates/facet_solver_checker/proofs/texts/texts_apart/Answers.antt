use Rattle.facet_solver_checker.proofs.TextsApart.{texts_turned}
use Rattle.facet_solver_checker.proofs.texts.texts_apart.Goals as goal

pub returns-else-words_apart : goal.returns-else-words_apart
returns-else-words_apart c = λ h.
    texts_turned c.args.first.now c.args.second.now (c.words_apart-else-words_apart.ensures h)
