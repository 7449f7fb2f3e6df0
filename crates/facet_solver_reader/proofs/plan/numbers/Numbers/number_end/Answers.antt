use Rattle.facet_solver_reader.specs.Parts.{of_shape}
use Rattle.facet_solver_reader.specs.PlanNumbers.{AreMore, HasNumber}
use Rattle.facet_solver_reader.proofs.Marks.{on_ok_then}
use Rattle.facet_solver_reader.proofs.plan.numbers.Numbers.number_end.Goals as goal

pub number_variants-requires-clause-served : goal.number_variants-requires-clause-served
number_variants-requires-clause-served c =
    (c.requires.tables.ends c.args.id c.args.end.now c.requires.end).served

pub returns-clause-shape : goal.returns-clause-shape
returns-clause-shape c =
    let mid = c.number.new.self in
    let new = c.number_variants.new.self in
    on_ok_then c.number_variants.result (AreMore c.args.tables.now mid new)
    (HasNumber new (of_shape c.args.id))
    (λ more. more.kept (of_shape c.args.id) c.in_ok-number.ensures.numbered)
    c.number_variants.ensures.more
