use Rattle.std.proofs.Common.{◌++◌, List, map, ap, sym, subst, ◌∙◌, Bor}
use Rattle.facet_solver_shape.specs.Names.{Name}
use Rattle.facet_solver_reader.specs.declared.document.Document.{Document}
use Rattle.facet_solver_reader.specs.declared.nodes.Nodes.{Nodes}
use Rattle.facet_solver_reader.specs.Documents.{members_view, view}
use Rattle.facet_solver_reader.specs.Nodes.{IsAdded, AreAddedByName, nodes_of, under}
use Rattle.facet_solver_reader.proofs.Trees.{nothing_inside, view-List, view-Object}
use Rattle.facet_solver_reader.proofs.Opened.{list_added, nothing_added, object_added}
use Rattle.facet_solver_reader.proofs.nodes.Nodes.add_children.Goals as goal
use Rattle.facet_solver_reader.proofs.nodes.Nodes.add_children.Goals.{in-List+in_ok-add_items-in-List, in-Object+in_ok-add_names-in-Object+in_ok-add_values-in-Object, in_default}

pub returns-clause-added : goal.returns-clause-added
returns-clause-added c =
    let old = c.args.self.now in
    let new = c.match-document.self in
    let number = c.args.number in
    elim c.match-document.branch [
      | in-List+in_ok-add_items-in-List w ↦
          subst (IsAdded old new number) (sym (ap view w.in-List.is ∙ view-List w.in-List.items))
          (list_added old new number w.in-List.items.items
          (ap nodes_of w.self-is ∙ w.in_ok-add_items-in-List.ensures ∙ ap (λ (ds : List Document). nodes_of old ++ under number (map view ds)) w.deref.ensures.value)
          (ap (λ (s : Nodes). s.openings.items) w.self-is) (ap (λ (s : Nodes). s.by_name.items) w.self-is))
      | in-Object+in_ok-add_names-in-Object+in_ok-add_values-in-Object w ↦
          let mid = w.add_names.new.self in
          let ms = w.in-Object.members.items in
          subst (IsAdded old new number) (sym (ap view w.in-Object.is ∙ view-Object w.in-Object.members))
          (object_added old mid new number ms
          (subst (λ (ms : List (Bor Name × Document)). AreAddedByName old mid (members_view ms)) w.deref-in-Object.ensures.value w.in_ok-add_names-in-Object.ensures.named)
          (ap nodes_of w.self-is ∙ w.in_ok-add_values-in-Object.ensures ∙ ap (λ (ms : List (Bor Name × Document)). nodes_of mid ++ under number (map (λ m. view m.1) ms)) w.deref-in-Object-2.ensures.value)
          (ap (λ (s : Nodes). s.openings.items) w.self-is) (ap (λ (s : Nodes). s.by_name.items) w.self-is))
      | in_default w ↦
          subst (λ (s : Nodes). IsAdded old s number (view c.args.document.now)) (sym w.self-is)
          (nothing_added old number (view c.args.document.now) (nothing_inside c.args.document.now w.in_default.not-List w.in_default.not-Object))
    ]
