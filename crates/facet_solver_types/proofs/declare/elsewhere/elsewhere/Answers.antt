use Rattle.std.proofs.Common.{◌≡◌, false, sym, ap, ◌∙◌}
use Rattle.facet_solver_types.specs.Declarations.{items_view}
use Rattle.facet_solver_types.specs.DeclaredNames.{declared_names}
use Rattle.facet_solver_types.specs.Elsewhere.{has_use, module_names}
use Rattle.facet_solver_types.specs.Understood.{declarations_view}
use Rattle.facet_solver_types.proofs.UntakenNames.{none_taken}
use Rattle.facet_solver_types.proofs.declare.elsewhere.elsewhere.Goals as goal

pub returns-then-not-has_use : goal.returns-then-not-has_use
returns-then-not-has_use c =
    let items = items_view c.args.items.now in
    let declared = declared_names (declarations_view c.args.declared.now) in
    let none : has_use items ≡ false = sym c.has_use.ensures ∙ c.if-not-has_use.true in
    ap declarations_view c.new-found.ensures.items
    ∙ sym (none_taken (module_names items) declared items none)
