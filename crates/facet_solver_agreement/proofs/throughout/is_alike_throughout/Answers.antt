use Rattle.std.proofs.Common.{sym, ◌∙◌}
use Rattle.facet_solver_agreement.proofs.AlikeFields.{kept_throughout}
use Rattle.facet_solver_agreement.proofs.throughout.is_alike_throughout.Goals as goal

pub returns-then-is_plain_root-clause-kept : goal.returns-then-is_plain_root-clause-kept
returns-then-is_plain_root-clause-kept c = λ h.
    kept_throughout c.args.shapes.now c.args.root
    (sym c.is_plain_root.ensures ∙ c.if-is_plain_root.true, c.are_shapes_alike.ensures.0 h)
