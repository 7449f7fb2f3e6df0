use Rattle.std.proofs.Common.{◌≡◌, [], ◌∷◌, ap, sym, ◌∙◌, subst, List, ℕ, true}
use Rattle.std.specs.Prelude.{OnOk}
use Rattle.std.specs.List.{AllByRecursion}
use Rattle.facet_solver_shape.specs.Names.{Name}
use Rattle.facet_solver.specs.build.Nested.{KeyPaths, entered_view, has_fields, if_entered, named, paths_of_each}
use Rattle.facet_solver.specs.build.Build.{kind_at}
use Rattle.facet_solver.specs.build.NestedNames.{shapes_behind}
use Rattle.facet_solver.specs.build.NestedTable.{HasMore, IsFilled, is_filled, under_of}
use Rattle.facet_solver.specs.declared.build.nested.table.Earlier.{Earlier}
use Rattle.facet_solver.proofs.NestedFields.{first_of, second_of}
use Rattle.facet_solver.proofs.NestedSets.{union-none}
use Rattle.facet_solver.proofs.NestedTable.{asked_where_entered, asked_where_flattened, one_name_more, through_flattened, through_regular, unless_leads_on, when_entered}
use Rattle.facet_solver.proofs.build.nested.table.Earlier.add_through_field.Goals as goal
use Rattle.facet_solver.proofs.build.nested.table.Earlier.add_through_field.Goals.{then-leads_on, else-leads_on}

pub add_under-requires-clause-filled : goal.add_under-requires-clause-filled
add_under-requires-clause-filled c =
    let earlier = c.args.self in
    asked_where_flattened (IsFilled earlier.entries.now) (entered_view earlier.entered) earlier.shapes.now c.args.field.now c.requires.asked c.if-field.true

pub returns-then-field : goal.returns-then-field
returns-then-field c =
    let earlier = c.args.self in
    subst (λ (ps : KeyPaths). OnOk c.add_under.result (HasMore earlier ps c.args.gathered.now.items c.add_under.new.gathered.items))
    (sym (through_flattened (entered_view earlier.entered) earlier.shapes.now c.args.field.now c.if-field.true))
    c.add_under.ensures

-- what is behind the name: the shape of the field, if there may be fields under it
abbrev Behind : Earlier → ℕ → List ℕ → Type 0
Behind earlier id shapes =
    (paths_of_each (under_of earlier) shapes ≡ if_entered (entered_view earlier.entered) earlier.shapes.now id)
    × AllByRecursion (λ t. is_filled earlier.entries.now t ≡ true) shapes

behind : (c : goal.In_ok-push) → Behind c.args.self c.args.field.now.shape (shapes_behind c.if-leads_on.shapes)
behind c =
    let earlier = c.args.self in
    let e = entered_view earlier.entered in
    let cat = earlier.shapes.now in
    let f = c.args.field.now in
    let id = f.shape in
    elim c.if-leads_on.branch [
      | then-leads_on w ↦
          (let leads = sym c.leads_on.ensures ∙ w.if-leads_on.true in
          let entered = first_of (e (kind_at cat id)) (has_fields (kind_at cat id)) leads in
          let asked = asked_where_entered (IsFilled earlier.entries.now) e cat f c.requires.asked entered (second_of (e (kind_at cat id)) (has_fields (kind_at cat id)) leads) in
          let is : shapes_behind c.if-leads_on.shapes ≡ id ∷ [] = ap shapes_behind w.shapes-is in
          subst (Behind earlier id) (sym is) (union-none (under_of earlier id) ∙ sym (when_entered e cat id entered), (asked, tt)))
      | else-leads_on w ↦
          (let is : shapes_behind c.if-leads_on.shapes ≡ [] = ap shapes_behind w.shapes-is in
          subst (Behind earlier id) (sym is) (sym (unless_leads_on e cat id c.requires.sound.checked (sym c.leads_on.ensures ∙ w.if-leads_on.false)), tt))
    ]

pub returns : goal.returns
returns c =
    let earlier = c.args.self in
    let e = entered_view earlier.entered in
    let cat = earlier.shapes.now in
    let f = c.args.field.now in
    let name = c.effective_name.result in
    subst (λ (ps : KeyPaths). HasMore earlier ps c.args.gathered.now.items c.push.new.self.items)
    (ap (named name.now) (behind c).0
    ∙ ap (λ (n : Name). named n (if_entered e cat f.shape)) c.effective_name.ensures
    ∙ sym (through_regular e cat f c.if-field.false))
    (one_name_more earlier name c.if-leads_on.shapes c.args.gathered.now.items c.push.new.self.items c.in_ok-push.ensures.items (behind c).1)
