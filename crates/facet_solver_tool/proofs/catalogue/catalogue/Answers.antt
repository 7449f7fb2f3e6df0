use Rattle.std.proofs.Common.{◌≡◌, IfOk, string_bytes, subst}
use Rattle.facet_solver_tool.specs.CatalogueText.{catalogue}
use Rattle.facet_solver_tool.proofs.catalogue.catalogue.Goals as goal

-- the index is the root's
pub returns : goal.returns
returns c =
    subst (λ root. IfOk c.format.result (λ text. string_bytes text ≡ catalogue c.args.shapes.now root))
    c.index-root.ensures c.format.ensures.ok
