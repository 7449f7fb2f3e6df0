use Rattle.facet_solver_types.specs.Keywords.{is_keyword}
use Rattle.facet_solver_types.proofs.keyword.is_keyword.Goals as goal

pub returns : goal.returns
unfolding is_keyword
returns c = c.is_among.ensures
