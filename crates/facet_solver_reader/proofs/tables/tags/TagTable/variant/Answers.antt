use Rattle.std.proofs.Common.{ℕ, subst, Contains, MatchOption}
use Rattle.facet_solver_reader.specs.Nodes.{Named, entries}
use Rattle.facet_solver_reader.proofs.tables.tags.TagTable.variant.Goals as goal

pub returns : goal.returns
returns c =
    let x = c.args.text.now in
    subst
    (λ (es : Named). MatchOption c.find_by_name.result ((k : ℕ) → ¬ Contains (entries es) (x, k))
    (λ k. Contains (entries es) (x, k)))
    c.deref.ensures.value c.find_by_name.ensures
