use Rattle.std.proofs.Common.{drop, ap, ◌∙◌}
use Rattle.facet_solver_types.specs.Starts.{qualified_start, start_with}
use Rattle.facet_solver_types.specs.Tokens.{tokens_view}
use Rattle.facet_solver_types.proofs.Views.{rest_view}
use Rattle.facet_solver_types.proofs.grammar.starts.qualified_start.Goals as goal

pub returns-clause-value : goal.returns-clause-value
unfolding qualified_start
returns-clause-value c =
    let ts = tokens_view c.args.tokens.now in
    c.start_with.ensures.value ∙ ap (start_with ts) (rest_view c.args.tokens.now c.qualifiers_len.result)
    ∙ ap (λ n. start_with ts (drop n ts)) c.qualifiers_len.ensures.value
