use Rattle.std.proofs.Common.{length, subst, sym}
use Rattle.facet_solver_shape.specs.Keys.{key_of}
use Rattle.facet_solver.specs.schema.Indexed.{IsEntryIfAny}
use Rattle.facet_solver.specs.Resolutions.{field_at}
use Rattle.facet_solver.proofs.LookUps.{entry_exact}
use Rattle.facet_solver.proofs.schema.index.Index.look_up.Goals as goal

pub returns : goal.returns
returns c = λ resolutions of_format is.
    let key = key_of c.args.key in
    subst (IsEntryIfAny (length resolutions) (field_at key resolutions)) (sym c.entry_at.ensures) (entry_exact c.args.format key resolutions c.args.self.now of_format is)
