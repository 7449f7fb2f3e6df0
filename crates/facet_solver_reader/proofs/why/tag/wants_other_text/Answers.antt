use Rattle.std.proofs.Common.{◌≡◌, sym, ◌∙◌, subst}
use Rattle.std.proofs.lemmas.Slice.Eq.{bytes_eq-Decides}
use Rattle.facet_solver_reader.specs.Tables.{rules_at}
use Rattle.facet_solver_reader.specs.Views.{list_view}
use Rattle.facet_solver_reader.specs.Why.{IsTagOf, Requires}
use Rattle.facet_solver_reader.proofs.why.tag.wants_other_text.Goals as goal

pub returns-in-Some : goal.returns-in-Some
returns-in-Some c other =
    let text = c.in-Some.text.now in
    let same : c.in-Some.name.now ≡ c.args.tag.now =
    (bytes_eq-Decides c.in-Some.name.now c.args.tag.now).0 (sym c.eq.ensures ∙ c.if-eq.true) in
    record {
      tag = text;
      other = c.lacks_text.ensures other;
      required =
          subst (λ x. Requires (rules_at c.args.tables.now) (list_view c.args.branch) (IsTagOf x text))
          same c.in-Some.ensures;
    }
