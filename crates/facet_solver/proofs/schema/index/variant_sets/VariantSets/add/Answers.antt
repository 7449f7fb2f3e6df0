use Rattle.std.proofs.Common.{◌≡◌, Some, None, ap, ◌∙◌}
use Rattle.facet_solver_shape.specs.Names.{Name}
use Rattle.facet_solver.specs.schema.Selected.{AreBelow, IsBelow, named_set}
use Rattle.facet_solver.specs.set.IndexSet.{IndexSet}
use Rattle.facet_solver.proofs.Results.{ok_more}
use Rattle.facet_solver.proofs.VariantSets.{below_of, without_more}
use Rattle.facet_solver.proofs.schema.index.variant_sets.VariantSets.add.Goals as goal

pub add_named-requires-clause-below : goal.add_named-requires-clause-below
add_named-requires-clause-below c = λ n. c.requires.below (Some n)

pub insert-requires : goal.insert-requires
insert-requires c =
    let same = c.requires.below None in
    rw same c.requires.index

pub returns-in-Some-clause-below : goal.returns-in-Some-clause-below
returns-in-Some-clause-below c =
    let bound = c.args.at.now.bound in
    ok_more c.add_named.result (λ _. (n : Name) → IsBelow bound (named_set c.add_named.new.named n)) (λ _. AreBelow bound (record { named = c.add_named.new.named; without = c.args.self.now.without }))
    (λ value named. below_of bound (record { named = c.add_named.new.named; without = c.args.self.now.without }) named (c.requires.below None)) c.add_named.ensures.below

pub returns-in-None-clause-below : goal.returns-in-None-clause-below
returns-in-None-clause-below c =
    below_of c.args.at.now.bound (record { named = c.args.self.now.named; without = c.insert.new.self }) (λ n. c.requires.below (Some n))
    (ap (λ (s : IndexSet). s.bound) c.insert.ensures ∙ c.requires.below None)

pub returns-in-None-clause-sets : goal.returns-in-None-clause-sets
returns-in-None-clause-sets c = without_more c.args.self.now c.insert.new.self c.args.at.now c.in-None.is (c.requires.below None) c.insert.ensures
