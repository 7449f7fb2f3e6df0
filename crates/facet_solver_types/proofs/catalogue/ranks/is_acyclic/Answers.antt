use Rattle.std.proofs.Common.{◌∙◌, sym}
use Rattle.facet_solver_types.specs.Links.{links_view}
use Rattle.facet_solver_types.proofs.Ranks.{acyclic}
use Rattle.facet_solver_types.proofs.catalogue.ranks.is_acyclic.Goals as goal

pub returns : goal.returns
returns c = λ e. acyclic (links_view c.args.needs.now) c.deref-3.result.now (sym c.fall.ensures ∙ e)
