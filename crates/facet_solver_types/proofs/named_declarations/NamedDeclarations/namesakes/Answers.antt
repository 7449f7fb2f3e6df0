use Rattle.std.proofs.Common.{◌≡◌, ◌∙◌, List, ℕ, IfOk, ap, subst}
use Rattle.facet_solver_types.specs.NamePlaces.{places_of}
use Rattle.facet_solver_types.specs.Understood.{declarations_view}
use Rattle.facet_solver_types.proofs.DeclaredNames.{named_by_places}
use Rattle.facet_solver_types.proofs.named_declarations.NamedDeclarations.namesakes.Goals as goal

pub returns : goal.returns
returns c =
    let name = c.args.name.now in
    let same = ap (places_of name) c.args.self.named
    ∙ named_by_places name (declarations_view c.args.self.list.now) in
    subst (λ (l : List ℕ). IfOk c.places_of.result (λ found. found.items ≡ l)) same c.places_of.ensures
