use Rattle.std.proofs.Common.{◌≡◌, ap, false, inr, subst, sym, true, ◌∙◌}
use Rattle.facet_solver_reader.specs.Choices.{Reading}
use Rattle.facet_solver_reader.specs.Nodes.{value_of}
use Rattle.facet_solver_reader.specs.Parts.{Target, of_branch}
use Rattle.facet_solver_reader.specs.Readings.{ReadsValue}
use Rattle.facet_solver_reader.specs.Tables.{rules_at}
use Rattle.facet_solver_reader.specs.TypeNames.{list_name}
use Rattle.facet_solver_reader.specs.Views.{target_view}
use Rattle.facet_solver_reader.specs.Why.{content_of}
use Rattle.facet_solver_reader.specs.declared.count.Count.TheVariants as counts
use Rattle.facet_solver_reader.proofs.Blaming.{some_counted}
use Rattle.facet_solver_reader.proofs.why.untagged.variant_alone.Goals as goal

pub returns-else-is_none-clause-variant : goal.returns-else-is_none-clause-variant
returns-else-is_none-clause-variant c =
    let rules = rules_at c.args.tables.now in
    let v = value_of c.args.nodes.now c.args.node in
    let n = c.in_ok-count.count in
    let target = target_view c.args.content.now in
    let read = some_counted (ReadsValue rules target v) n
    (λ (e : n ≡ counts.None).
    let is : c.is_none.result ≡ true = c.is_none.ensures.1 e in
    let isnt : c.is_none.result ≡ false = c.if-is_none.false in absurd (cc))
    c.in_ok-count.ensures.count in
    let same : target ≡ content_of (of_branch c.in-Content.shape c.in-Content.variant) =
    ap target_view c.in-Content.is in
    let told = same ∙ ap content_of (sym c.branch_of-branch.ensures.list) in (
      c.branch_of-branch.ensures.name
          ∙ ap (list_name rules.shapes) (sym c.branch_of-branch.ensures.list),
      inr (subst (λ (t : Target). (r : Reading) × ReadsValue rules t v r) told read),
    )
