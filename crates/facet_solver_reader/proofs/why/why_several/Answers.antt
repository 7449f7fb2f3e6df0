use Rattle.std.proofs.Common.{◌≡◌, subst, sym, List, Some}
use Rattle.std.specs.List.{All}
use Rattle.facet_solver_reader.specs.Nodes.{value_of}
use Rattle.facet_solver_reader.specs.Places.{PlaceStep, at}
use Rattle.facet_solver_reader.specs.Tables.{rules_at}
use Rattle.facet_solver_reader.specs.Why.{IsReadBy}
use Rattle.facet_solver_reader.proofs.Quantifiers.{all_of_none}
use Rattle.facet_solver_reader.proofs.why.why_several.Goals as goal

pub returns-in-Some-Stops : goal.returns-in-Some-Stops
returns-in-Some-Stops c =
    let document = value_of c.args.nodes.now 0 in
    let v = value_of c.args.nodes.now c.in_ok-node.field-0.node in
    let P = IsReadBy (rules_at c.args.tables.now) v in
    record {
      value = v;
      leads =
          subst (λ (p : List PlaceStep). at document p ≡ Some v) (sym c.nothing_told.ensures.place)
          c.in_ok-place.ensures;
      variants = subst (All P) (sym c.nothing_told.ensures.none) (all_of_none P);
    }

pub returns-in-None : goal.returns-in-None
returns-in-None c =
    let document = value_of c.args.nodes.now 0 in
    let v = value_of c.args.nodes.now c.in_ok-node.field-0.node in
    let P = IsReadBy (rules_at c.args.tables.now) v in
    record {
      value = v;
      leads =
          subst (λ (p : List PlaceStep). at document p ≡ Some v)
          (sym c.nothing_told-in-None.ensures.place) c.in_ok-place.ensures;
      variants = subst (All P) (sym c.nothing_told-in-None.ensures.none) (all_of_none P);
    }
