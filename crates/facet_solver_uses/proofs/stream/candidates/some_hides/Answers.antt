use Rattle.std.proofs.Common.{rules, tests}
use Rattle.std.proofs.lemmas.Iterator.Consumers.{YieldsList-from_first}
use Rattle.std.proofs.lemmas.Iterator.Search.{any_from_yields_List}
use Rattle.facet_solver.specs.Names.{names_of}
use Rattle.facet_solver.specs.Resolutions.{passes}
use Rattle.facet_solver_uses.specs.stream.Candidates.{hides}
use Rattle.facet_solver_uses.proofs.stream.candidates.some_hides.Goals as goal

pub returns : goal.returns
returns c =
    let s = c.args.solver.now in
    any_from_yields_List (passes (hides s.schema.build.catalogue (names_of c.args.path.now)) s.schema.resolutions) _ _ c.any.result c.any.ensures.ran
    (YieldsList-from_first (λ x. x) (λ s. s) s.candidates (search rules))
    (λ x b q k. search (rules, tests))
