use Rattle.std.proofs.Common.{ap, sym, ◌∙◌}
use Rattle.std.specs.FinSet.{union}
use Rattle.facet_solver.specs.build.Nested.{KeyPaths, entered_view}
use Rattle.facet_solver.specs.build.NestedNames.{paths_of_names}
use Rattle.facet_solver.specs.build.NestedTable.{under_of}
use Rattle.facet_solver.proofs.NestedSets.{union-none}
use Rattle.facet_solver.proofs.NestedTable.{more_if_ok, nothing_under}
use Rattle.facet_solver.proofs.build.nested.table.Earlier.add_under.Goals as goal

pub returns-then-not-has_fields : goal.returns-then-not-has_fields
returns-then-not-has_fields c =
    let earlier = c.args.self in
    let paths = paths_of_names (under_of earlier) c.args.gathered.now.items in
    let none = nothing_under (entered_view earlier.entered) earlier.shapes.now c.args.id c.requires.sound.checked (sym c.has_fields.ensures ∙ c.if-not-has_fields.true) in
    record {
      stand = sym (ap (λ (ps : KeyPaths). union paths ps) none ∙ union-none paths);
      lead = λ h. h;
    }

pub returns : goal.returns
returns c =
    let earlier = c.args.self in
    more_if_ok earlier (under_of earlier c.args.id) c.under.result.now c.args.gathered.now.items c.add_copies.new.gathered.items c.add_copies.result c.under.ensures c.add_copies.ensures.paths c.add_copies.ensures.lead
