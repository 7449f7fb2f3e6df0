use Rattle.std.proofs.Common.{List, ap, sym, ◌∙◌}
use Rattle.facet_solver_shape.specs.Names.{Name}
use Rattle.facet_solver.specs.build.Draft.{paths_of}
use Rattle.facet_solver.specs.build.Nested.{with_key_paths}
use Rattle.facet_solver.proofs.Draft.{named-is}
use Rattle.facet_solver.proofs.build.draft.Draft.finish.Goals as goal

pub returns : goal.returns
returns c =
    let r = c.self.inside.resolution in
    c.in_ok-add_paths_of.ensures
    ∙ ap (λ (names : List Name). with_key_paths r (paths_of names)) c.in_ok-gather_names.ensures
    ∙ sym (named-is r)
    ∙ c.self.view_is
