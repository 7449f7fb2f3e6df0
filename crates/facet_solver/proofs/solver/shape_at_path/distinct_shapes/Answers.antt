use Rattle.std.proofs.Common.{◌≡◌, ℕ, List, Bor, Option, ◌++◌, append-nil, ap, sym, ◌∙◌}
use Rattle.std.specs.List.{filter_map}
use Rattle.facet_solver_shape.specs.Names.{Name, names_of}
use Rattle.facet_solver_shape.specs.Resolved.{Resolved}
use Rattle.facet_solver.specs.build.Build.{Catalogue}
use Rattle.facet_solver.specs.solver.ShapeAtPath.{distinct, distinct_shapes, shape_at}
use Rattle.facet_solver.proofs.IndexSet.{rest_more}
use Rattle.facet_solver.proofs.KeyResultFields.{filter_map_found, filter_map_none}
use Rattle.facet_solver.proofs.solver.shape_at_path.distinct_shapes.Goals as goal

-- what the path's ends tell of an index
told_at : {cat walked : Catalogue} {path names : List (Bor Name)} {rs read : List Resolved} {told : Option ℕ} (index : ℕ) → walked ≡ cat → names ≡ path → read ≡ rs → told ≡ shape_at walked (names_of names) read index → shape_at cat (names_of path) rs index ≡ told
told_at index same_catalogue same_path same_list is =
    sym (is ∙ (λ i. shape_at (same_catalogue i) (names_of (same_path i)) (same_list i) index))

pub loop-index-preserved-in-Continue-1 : goal.loop-index-preserved-in-Continue-1
loop-index-preserved-in-Continue-1 c =
    let before = c.loop-index.invariant in
    let schema = c.args.schema.now in
    let at = shape_at schema.build.catalogue (names_of c.args.path.now) schema.resolutions in
    let told = told_at c.in-Some.index before.catalogue before.path c.resolutions.ensures.resolutions c.in-Some-shape_at.ensures.shape in
    record {
      parts = rest_more c.loop-index.yielded _ _ _ c.in-Some.index before.parts c.in-Some.ensures.steps;
      catalogue = ap (λ k. k.now) c.in-Some-shape_at.ensures.catalogue ∙ before.catalogue;
      path = ap (λ p. p.now) c.in-Some-shape_at.ensures.path ∙ before.path;
      shapes = c.in_ok-add_if_new.ensures (filter_map at c.loop-index.yielded) before.shapes
          ∙ ap distinct (sym (filter_map_found at c.loop-index.yielded c.in-Some.index c.in-Some-shape_at.shape told));
    }

pub loop-index-preserved : goal.loop-index-preserved
loop-index-preserved c =
    let before = c.loop-index.invariant in
    let schema = c.args.schema.now in
    let at = shape_at schema.build.catalogue (names_of c.args.path.now) schema.resolutions in
    let told = told_at c.in-Some.index before.catalogue before.path c.resolutions.ensures.resolutions c.in_default.ensures.shape in
    record {
      parts = rest_more c.loop-index.yielded _ _ _ c.in-Some.index before.parts c.in-Some.ensures.steps;
      catalogue = ap (λ k. k.now) c.in_default.ensures.catalogue ∙ before.catalogue;
      path = ap (λ p. p.now) c.in_default.ensures.path ∙ before.path;
      shapes = before.shapes ∙ ap distinct (sym (filter_map_none at c.loop-index.yielded c.in-Some.index told));
    }

pub returns : goal.returns
returns c =
    let before = c.loop-index.invariant in
    let all : c.loop-index.yielded ≡ c.args.set.now.members =
    sym (append-nil c.loop-index.yielded) ∙ ap (λ rest. c.loop-index.yielded ++ rest) (sym c.in-None.ensures.steps.0) ∙ before.parts in
    before.shapes ∙ ap (distinct_shapes (names_of c.args.path.now) c.args.schema.now) all
