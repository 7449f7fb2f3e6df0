use Rattle.std.proofs.Common.{◌≡◌, subst, ◌++◌, ◌∷◌, [], rules, arith, length}
use Rattle.facet_solver_reader.specs.declared.tables.order.Ordered.{Ordered}
use Rattle.facet_solver_reader.specs.Placing.{IsOneMore}
use Rattle.facet_solver_reader.specs.Slots.{IsSet}
use Rattle.facet_solver_reader.specs.Views.{list_view, parts_view}
use Rattle.facet_solver_reader.proofs.OneMore.{placing_more}
use Rattle.facet_solver_reader.proofs.tables.order.Ordered.place.Goals as goal

pub returns-else-is_err-clause-more : goal.returns-else-is_err-clause-more
returns-else-is_err-clause-more c =
    let old = c.args.self.now in
    let long : c.len-index.result ≡ length old.lists.items = omega (arith, c.len-index.ensures, old.lists.ok.0) in
    record {
      entry = c.in-Ok.list;
      lists = search rules;
      is_of = c.in-Ok.ensures.ok.is_of;
      set = subst (λ n. IsSet old.slots (list_view c.args.id.now) n c.set.new.self) long c.set.ensures;
    }

pub returns-else-is_err-clause-placing : goal.returns-else-is_err-clause-placing
returns-else-is_err-clause-placing c =
    let old = c.args.self.now in
    let new : Ordered = record { lists = c.push.new.self; slots = c.set.new.self } in
    let id = list_view c.args.id.now in
    let long : c.len-index.result ≡ length old.lists.items = omega (arith, c.len-index.ensures, old.lists.ok.0) in
    let pushed : c.push.new.self.items ≡ old.lists.items ++ c.in-Ok.list ∷ [] = search rules in
    let more : IsOneMore old new id = record {
      entry = c.in-Ok.list;
      lists = pushed;
      is_of = c.in-Ok.ensures.ok.is_of;
      set = subst (λ n. IsSet old.slots id n c.set.new.self) long c.set.ensures;
    } in
    let next = c.in-Ok.ensures.ok in
    placing_more c.args.types.now old new id c.requires.unplaced more c.requires.slot c.requires.placing next
    (c.requires.next (parts_view c.in-Ok.list.parts.items) next.same)
