use Rattle.std.proofs.Common.{◌∙◌}
use Rattle.facet_solver_shape.specs.Keys.{key_of}
use Rattle.facet_solver.proofs.NameEntries.{copied_there, entry_known}
use Rattle.facet_solver.proofs.schema.Schema.is_known.Goals as goal

pub returns : goal.returns
returns c =
    c.is_some.ensures ∙ copied_there c.look_up.result ∙ entry_known (key_of c.args.key) c.args.self.now.resolutions _ c.look_up.ensures
