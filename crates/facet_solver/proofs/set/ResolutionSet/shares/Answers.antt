use Rattle.std.proofs.Common.{◌∙◌}
use Rattle.facet_solver.specs.set.IndexSet.{has_index}
use Rattle.facet_solver.proofs.IndexSet.{some_common}
use Rattle.facet_solver.proofs.set.ResolutionSet.shares.Goals as goal

pub returns-clause-shared : goal.returns-clause-shared
returns-clause-shared c =
    c.is_some.ensures
    ∙ some_common (has_index c.args.other.now.members) c.args.self.now.members c.common-common.result.items c.next.new.self.items c.next.result c.next.ensures.next c.common-common.ensures.members
