use Rattle.facet_solver.proofs.NameEntries.{named_held}
use Rattle.facet_solver.proofs.Results.{ok_more}
use Rattle.facet_solver.proofs.schema.index.Index.sets_named.Goals as goal

pub returns : goal.returns
returns c =
    ok_more c.sets_of_each_category.result _ _
    (λ sets all resolutions is index. named_held c.args.name.now resolutions c.args.self.now sets.items is all index) c.sets_of_each_category.ensures
