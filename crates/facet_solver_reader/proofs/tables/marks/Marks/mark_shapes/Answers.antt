use Rattle.std.proofs.Common.{◌∙◌, arith, ℕ, List, map, ◌≤◌, length, subst, sym, All}
use Rattle.std.proofs.lemmas.List.{length-map, map-id}
use Rattle.facet_solver_reader.specs.Marks.{ShapeIsMarked}
use Rattle.facet_solver_reader.specs.Met.{ShapeIsMet}
use Rattle.facet_solver_reader.proofs.StayMet.{stays_on}
use Rattle.facet_solver_reader.proofs.Marks.{each_all, each_more, kept_on, shape_still}
use Rattle.facet_solver_reader.proofs.tables.marks.Marks.mark_shapes.Goals as goal

pub loop-id-preserved : goal.loop-id-preserved
loop-id-preserved c =
    let done = c.in_ok-mark_shape.ensures in
    let new = c.mark_shape.new.self in
    record {
      kept = kept_on _ _ _ c.loop-id.invariant.kept done.kept;
      lists = done.lists ∙ c.loop-id.invariant.lists;
      marked =
          each_more (ShapeIsMarked c.loop-id.self) (ShapeIsMarked new) (λ (x : ℕ). x) c.args.shapes.now c.loop-id.id-index c.id-item.result
          (shape_still c.loop-id.self new done.kept) c.loop-id.invariant.marked (omega arith) c.id-item.is done.marked;
      met = λ all every.
          stays_on all every _ _ _ (λ strict root. All (ShapeIsMet all strict root) c.args.shapes.now) (λ strict root. ShapeIsMet all strict root c.id-item.result)
          (λ strict root p. subst (ShapeIsMet all strict root) (sym c.id-item.is) (p c.loop-id.id-index c.id-item.result (omega arith)))
          (c.loop-id.invariant.met all every) (done.met all every);
    }

pub returns-clause-marked : goal.returns-clause-marked
returns-clause-marked c =
    let xs = c.args.shapes.now in
    let past : length (map (λ (x : ℕ). x) xs) ≤ c.loop-id.id-index = omega (arith, length-map xs (λ (x : ℕ). x)) in
    subst (λ (ys : List ℕ). All (ShapeIsMarked c.loop-id.self) ys) (map-id xs)
    (each_all (ShapeIsMarked c.loop-id.self) (map (λ (x : ℕ). x) xs) c.loop-id.id-index c.loop-id.invariant.marked past)
