use Rattle.std.proofs.Common.{ap, take, ◌∙◌}
use Rattle.facet_solver_types.specs.Tokens.{tokens_view}
use Rattle.facet_solver_types.proofs.Views.{front_view}
use Rattle.facet_solver_types.proofs.grammar.fields.attributes.Goals as goal

pub returns : goal.returns
returns c =
    let ts = c.args.passage.tokens.now in
    front_view ts c.attributes_len.result ∙ ap (λ n. take n (tokens_view ts)) c.attributes_len.ensures.value
