use Rattle.std.proofs.Common.{◌∙◌, ap, take}
use Rattle.facet_solver_types.specs.Passages.{place}
use Rattle.facet_solver_types.specs.Tokens.{tokens_view}
use Rattle.facet_solver_types.proofs.Views.{front_view, passage_of}
use Rattle.facet_solver_types.proofs.passage.Passage.up_to.Goals as goal

pub returns : goal.returns
returns c =
    let ts = c.args.self.tokens.now in
    ap (passage_of c.place.result) (front_view ts c.args.len)
    ∙ ap (λ e. passage_of e (take c.args.len (tokens_view ts))) (c.place.ensures ∙ ap place c.after.ensures.value)
