use Rattle.std.proofs.Common.{◌≡◌, ◌∷◌, [], ◌∙◌, Option, Some, None, IsSome, ap, refl, subst, sym}
use Rattle.std.specs.Prelude.{IfSome}
use Rattle.std.proofs.lemmas.Option.{get_or_from_slice_get}
use Rattle.facet_solver_shape.specs.declared.shape.Variant.{Variant}
use Rattle.facet_solver.specs.build.Nested.{KeyPaths, content_paths, every_kind, under_shape, with_paths_behind}
use Rattle.facet_solver.specs.build.NestedTable.{LeadTo, is_filled, paths_by_name, variant_at}
use Rattle.facet_solver.proofs.NestedFields.{each_at}
use Rattle.facet_solver.proofs.NestedTable.{on_ok}
use Rattle.facet_solver.proofs.Serving.{entries_stand, variant_entry, variants_filled}
use Rattle.facet_solver.proofs.build.nested.tables.NestedTables.add_paths_behind_content.Goals as goal

-- what holds of the value in hand holds of the value if there is one
if_some : {X : Type 0} (o : Option X) (P : X → Type 0) → ((x : X) → o ≡ Some x → P x) → IfSome o P
if_some None P h = tt
if_some (Some x) P h = h x refl

some_value : {X : Type 0} (o : Option X) → IsSome o → (x : X) × (o ≡ Some x)
some_value None h = absurd (cc)
some_value (Some x) h = (x, refl)

pub add_behind-requires-clause-filled : goal.add_behind-requires-clause-filled
add_behind-requires-clause-filled c =
    let cat = c.args.build.shapes.now in
    let entries = c.args.self.now.contents.by_index.items in
    let each = c.variants.result.now in
    let v = some_value (variant_at cat c.args.shape c.args.index) c.requires.variant in
    let at = variant_entry cat entries c.args.shape each c.requires.entries.contents c.variants.ensures c.args.index v.0 v.1 in
    let is : c.index-under.result.now ≡ at.0 = c.index-under.ensures ∙ get_or_from_slice_get each.items c.args.index at.0 c.index-under.result.now at.1 in
    subst (LeadTo (is_filled entries)) (sym is)
    (each_at (LeadTo (is_filled entries)) each.items c.args.index at.0 (variants_filled entries c.args.shape each c.requires.entries.contents_earlier c.variants.ensures) at.1)

pub returns : goal.returns
returns c =
    let cat = c.args.build.shapes.now in
    let entries = c.args.self.now.contents.by_index.items in
    let each = c.variants.result.now in
    let under = c.index-under.result.now in
    let stands = paths_by_name (under_shape every_kind cat) in
    let is : (v : Variant) → variant_at cat c.args.shape c.args.index ≡ Some v → stands under ≡ content_paths cat v = λ v found.
    let at = variant_entry cat entries c.args.shape each c.requires.entries.contents c.variants.ensures c.args.index v found in
    ap stands (c.index-under.ensures ∙ get_or_from_slice_get each.items c.args.index at.0 under at.1) ∙ at.2 in
    record {
      ok = on_ok c.add_behind.result
          (λ added. if_some (variant_at cat c.args.shape c.args.index) _
          (λ v found. added (under_shape every_kind cat) (entries_stand every_kind cat entries c.requires.checked c.requires.entries.contents)
          ∙ ap (λ (ps : KeyPaths). with_paths_behind c.args.resolution.now (c.args.name.now ∷ []) ps) (is v found)))
          c.add_behind.ensures;
    }
