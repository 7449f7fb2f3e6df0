use Rattle.std.proofs.Common.{rules, tests}
use Rattle.std.proofs.lemmas.Iterator.Consumers.{YieldsList-from_first}
use Rattle.std.proofs.lemmas.Iterator.Search.{all_from_yields_List}
use Rattle.facet_solver.specs.Names.{names_of}
use Rattle.facet_solver.specs.Resolutions.{passes}
use Rattle.facet_solver_uses.specs.stream.Candidates.{has_some_shape_at}
use Rattle.facet_solver_uses.proofs.stream.candidates.is_told.Goals as goal

pub returns : goal.returns
returns c =
    let s = c.args.solver.now in
    all_from_yields_List (passes (has_some_shape_at s.schema.build.catalogue (names_of c.args.path.now)) s.schema.resolutions) _ _ c.all.result c.all.ensures.ran
    (YieldsList-from_first (λ x. x) (λ s. s) s.candidates (search rules))
    (λ x b q k. search (rules, tests))
