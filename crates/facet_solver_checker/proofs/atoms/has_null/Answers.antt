use Rattle.std.proofs.Common.{◌∙◌, ap, sym}
use Rattle.std.specs.List.{list_any}
use Rattle.facet_solver_checker.specs.Atoms as spec
use Rattle.facet_solver_checker.specs.Atoms.{is_null_alone}
use Rattle.facet_solver_checker.proofs.atoms.has_null.Goals as goal

pub returns-in-Untagged : goal.returns-in-Untagged
returns-in-Untagged c =
    c.some_null_alone.ensures ∙ ap (list_any is_null_alone) c.deref.ensures.value
    ∙ sym (ap spec.has_null c.in-Untagged.is)
