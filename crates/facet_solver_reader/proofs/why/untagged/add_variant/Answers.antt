use Rattle.std.proofs.Common.{subst, sym}
use Rattle.std.specs.List.{All}
use Rattle.std.specs.Prelude.{IfSome}
use Rattle.facet_solver_reader.specs.Nodes.{value_of}
use Rattle.facet_solver_reader.specs.Tables.{rules_at}
use Rattle.facet_solver_reader.specs.Why.{IsReadBy}
use Rattle.facet_solver_reader.specs.declared.read_error.Branch.{Branch}
use Rattle.facet_solver_reader.proofs.Quantifiers.{all_of_last}
use Rattle.facet_solver_reader.proofs.why.untagged.add_variant.Goals as goal

pub returns-in-Ok-clause-variants : goal.returns-in-Ok-clause-variants
returns-in-Ok-clause-variants c =
    let P : Branch → Type 0 = IsReadBy (rules_at c.args.tables.now)
    (value_of c.args.nodes.now c.args.node) in
    let here = subst (λ o. IfSome o P) c.in-Ok-Some.field-0-is c.in-Ok-Some.ensures.variant in
    subst (All P) (sym c.in-Ok.ensures.items)
    (all_of_last P c.args.variants.now.items c.in-Ok-Some.variant c.requires.variants here)
