use Rattle.std.proofs.Common.{◌+◌, ◌∙◌, ap, arith, drop, sym}
use Rattle.std.specs.FinSet.{union}
use Rattle.facet_solver.specs.build.Nested.{KeyPaths, entered_view, through_field, through_fields}
use Rattle.facet_solver.specs.build.NestedNames.{paths_of_names}
use Rattle.facet_solver.specs.build.NestedTable.{FieldAsks, IsFilled, under_of}
use Rattle.facet_solver.proofs.Counted.{no_fall-trans, visited}
use Rattle.facet_solver.proofs.NestedTable.{all_at, no_more, one_more}
use Rattle.facet_solver.proofs.build.nested.table.Earlier.add_through_fields.Goals as goal

pub add_through_field-requires-clause-asked : goal.add_through_field-requires-clause-asked
add_through_field-requires-clause-asked c =
    all_at (FieldAsks (IsFilled c.args.self.entries.now) (entered_view c.args.self.entered) c.args.self.shapes.now) c.args.fields.now c.loop-index.index c.visited.result.now c.requires.asked c.visited.ensures.field

pub loop-index-preserved : goal.loop-index-preserved
loop-index-preserved c =
    let e = entered_view c.args.self.entered in
    let cat = c.args.self.shapes.now in
    let fs = c.args.fields.now in
    let i = c.loop-index.index in
    let more = c.in_ok-add_through_field.ensures in
    let visits = ap (λ s. s.visits) c.visited.ensures.steps in (
      ap (λ (ps : KeyPaths). union ps (through_fields e cat (drop (i + 1) fs))) more.stand
          ∙ one_more (through_field e cat) fs i (paths_of_names (under_of c.args.self) c.loop-index.gathered.items) c.visited.result.now c.visited.ensures.field
          ∙ c.loop-index.invariant.0,
      λ before. more.lead (c.loop-index.invariant.1 before),
      omega (arith, visits, c.loop-index.invariant.2),
      no_fall-trans _ _ _ c.loop-index.invariant.3 (visited _ _ c.visited.ensures.steps),
    )

pub returns-in_err-add_through_field-clause-visits :
    goal.returns-in_err-add_through_field-clause-visits
returns-in_err-add_through_field-clause-visits c =
    let visits = ap (λ s. s.visits) c.visited.ensures.steps in
    omega (arith, visits, c.loop-index.invariant.2, c.loop-index-test.true)

pub returns-clause-more : goal.returns-clause-more
returns-clause-more c =
    let e = entered_view c.args.self.entered in
    let cat = c.args.self.shapes.now in
    record {
      stand =
          sym (no_more (through_field e cat) c.args.fields.now c.loop-index.index (paths_of_names (under_of c.args.self) c.loop-index.gathered.items) c.loop-index-test.false)
          ∙ c.loop-index.invariant.0;
      lead = c.loop-index.invariant.1;
    }
