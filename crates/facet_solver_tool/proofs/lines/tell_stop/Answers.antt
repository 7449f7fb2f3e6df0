use Rattle.std.proofs.Common.{◌≡◌, rules}
use Rattle.facet_solver_tool.specs.declared.status.Status.TheVariants.{Misused}
use Rattle.facet_solver_tool.specs.Streams.{told}
use Rattle.facet_solver_tool.proofs.Told.{told_is}
use Rattle.facet_solver_tool.proofs.lines.tell_stop.Goals as goal

pub returns-in-Unread : goal.returns-in-Unread
returns-in-Unread g c =
    λ written. (
      (search rules),
      told c.unread.result,
      told_is (λ a. a.status ≡ Misused) c.unread.result c.unread.ensures,
      c.tell.ensures written,
    )
