use Rattle.std.proofs.Common.{ap, subst, ◌∙◌}
use Rattle.facet_solver.specs.schema.Schema.{IsOwnBuild}
use Rattle.facet_solver_uses.specs.stream.Events.{Reading}
use Rattle.facet_solver_uses.proofs.FoundDocuments.{finds_read}
use Rattle.facet_solver_uses.proofs.stream.reader.Reader.finish.Goals as goal

pub returns-clause-found : goal.returns-clause-found
returns-clause-found c =
    finds_read c.lists_are_the_only_ones.ensures.choices c.told_resolutions_are_found.ensures.viable c.viable_candidates_are_named.ensures
    c.args.self
    (subst IsOwnBuild (c.schema.ensures ∙ ap (λ (r : Reading). r.state.schema) c.self.view_is) c.resolutions.ensures.built)
    c.answer.result c.answer.ensures.found
