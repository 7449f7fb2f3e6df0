use Rattle.std.proofs.Common.{◌≡◌, ℕ, List, Bor, Option, map, ap, sym, ◌∙◌}
use Rattle.facet_solver_shape.specs.Fields.{FieldView}
use Rattle.facet_solver_shape.specs.Names.{Name, names_of}
use Rattle.facet_solver_shape.specs.Resolved.{Resolved}
use Rattle.facet_solver.specs.build.Build.{Catalogue}
use Rattle.facet_solver.specs.KeyPath.{has_key_path}
use Rattle.facet_solver.specs.Resolutions.{passes}
use Rattle.facet_solver.specs.solver.Probe.{field_on_path_at, scored}
use Rattle.facet_solver.proofs.IndexSet.{rest_more}
use Rattle.facet_solver.proofs.Probe.{firsts_none}
use Rattle.facet_solver.proofs.solver.path_search.PathSearch.by_shapes.Goals as goal

-- what the path's ends told of an index
told_at : {cat walked : Catalogue} {path names : List (Bor Name)} {rs read : List Resolved} {told : Option (FieldView × ℕ)} (index : ℕ) → walked ≡ cat → names ≡ path → read ≡ rs → told ≡ field_on_path_at walked (names_of names) read index
    → field_on_path_at cat (names_of path) rs index ≡ told
told_at index same_catalogue same_path same_list is =
    sym (is ∙ (λ i. field_on_path_at (same_catalogue i) (names_of (same_path i)) (same_list i) index))

pub loop-index-preserved : goal.loop-index-preserved
loop-index-preserved c =
    let before = c.loop-index.invariant in
    let schema = c.args.self.now.schema.now in
    let whole = names_of c.args.self.now.path.now.items in
    let none = told_at c.in-Some.index before.catalogue before.path c.resolutions-resolutions.ensures.resolutions c.in_default.ensures.field in
    let same = firsts_none (field_on_path_at schema.build.catalogue whole schema.resolutions) (passes (has_key_path whole) schema.resolutions) c.loop-index.yielded c.in-Some.index none in
    record {
      parts = rest_more c.loop-index.yielded _ _ _ c.in-Some.index before.parts c.in-Some.ensures.steps;
      catalogue = ap (λ k. k.now) c.in_default.ensures.catalogue ∙ before.catalogue;
      path = ap (λ p. p.now) c.in_default.ensures.path ∙ before.path;
      shapes = before.shapes ∙ ap (map (λ e. e.1)) same;
      fields = before.fields ∙ ap (map (scored schema.build.catalogue)) same;
    }
