-- How far each function of the only reading is from its end: by how deep the value nests, by the
-- steps that are left at it, and by how far it is from asking about another value or step. And what
-- is told so far.
use Rattle.std.proofs.Common.{◌≡◌, ◌+◌, ◌*◌, map, take, zip}
use Rattle.facet_solver_reader.specs.declared.count.Count.TheVariants.{One}
use Rattle.facet_solver_reader.specs.Choices.{Taken}
use Rattle.facet_solver_reader.specs.Counted.{Counted}
use Rattle.facet_solver_reader.specs.Found as found
use Rattle.facet_solver_reader.specs.Nodes.{children, members_in, value_of}
use Rattle.facet_solver_reader.specs.Objects.{Takes, TakesRest}
use Rattle.facet_solver_reader.specs.Parts.{of_shape}
use Rattle.facet_solver_reader.specs.Planned.{step_view}
use Rattle.facet_solver_reader.specs.Reading.{AreSound, object_view}
use Rattle.facet_solver_reader.specs.Readings.{ReadsValue}
use Rattle.facet_solver_reader.specs.Tables.{rules_at}
use Rattle.facet_solver_reader.specs.Told.{TellsTaken, end_taken, texts}
use Rattle.facet_solver_reader.specs.ToldObjects.{AreOnlyRests, AreToldFields, IsToldSoFar}
use Rattle.facet_solver_reader.specs.Values.{ReadsEach, ReadsEntry, ReadsPlace}
use Rattle.facet_solver_reader.specs.Views.{catch_all_view}
use Rattle.facet_solver_reader.proofs.Levels.{levels}
use Rattle.facet_solver_reader.proofs.ToldEach.{EachTold}
use Rattle.facet_solver_reader.proofs.read.+read.Given as goal

abbrev pub decreases-content::read_content : goal.decreases-content::read_content
decreases-content::read_content l = levels l.nodes.now l.node + 16 * l.steps + 14

abbrev pub decreases-each::read_entries : goal.decreases-each::read_entries
decreases-each::read_entries l = levels l.nodes.now l.node + 8

abbrev pub decreases-each::read_items : goal.decreases-each::read_items
decreases-each::read_items l = levels l.nodes.now l.node + 8

abbrev pub decreases-each::read_tuple : goal.decreases-each::read_tuple
decreases-each::read_tuple l = levels l.nodes.now l.node + 8

abbrev pub decreases-members::read_field : goal.decreases-members::read_field
decreases-members::read_field l = levels l.nodes.now l.object.now.node + 2

abbrev pub decreases-members::read_fields : goal.decreases-members::read_fields
decreases-members::read_fields l = levels l.nodes.now l.object.now.node + 3

abbrev pub decreases-members::read_rest : goal.decreases-members::read_rest
decreases-members::read_rest l = levels l.nodes.now l.object.now.node + 3

abbrev pub decreases-members::read_rests : goal.decreases-members::read_rests
decreases-members::read_rests l = levels l.nodes.now l.object.now.node + 4

abbrev pub decreases-members::read_taken : goal.decreases-members::read_taken
decreases-members::read_taken l = levels l.nodes.now l.node + 2

abbrev pub decreases-object::read_object : goal.decreases-object::read_object
decreases-object::read_object l = levels l.nodes.now l.node + 7

abbrev pub decreases-object::read_steps : goal.decreases-object::read_steps
decreases-object::read_steps l = levels l.nodes.now l.object.now.node + 6

abbrev pub decreases-target::read_end : goal.decreases-target::read_end
decreases-target::read_end l = levels l.nodes.now l.node + 16 * l.steps + 13

abbrev pub decreases-target::read_shape : goal.decreases-target::read_shape
decreases-target::read_shape l = levels l.nodes.now l.node + 16 * l.steps + 14

abbrev pub decreases-target::read_target : goal.decreases-target::read_target
decreases-target::read_target l = levels l.nodes.now l.node + 16 * l.steps + 15

abbrev pub decreases-untagged::read_alternative : goal.decreases-untagged::read_alternative
decreases-untagged::read_alternative l = levels l.nodes.now l.node + 16 * l.steps + 11

abbrev pub decreases-untagged::read_untagged : goal.decreases-untagged::read_untagged
decreases-untagged::read_untagged l = levels l.nodes.now l.node + 16 * l.steps + 12

abbrev pub decreases-variant::read_member : goal.decreases-variant::read_member
decreases-variant::read_member l = levels l.nodes.now l.node + 8

abbrev pub decreases-variant::read_named : goal.decreases-variant::read_named
decreases-variant::read_named l = levels l.nodes.now l.node + 9

-- the entries before this one
abbrev pub invariant-each::read_entries-loop-index : goal.invariant-each::read_entries-loop-index
invariant-each::read_entries-loop-index l = record {
  sound : AreSound l.tables l.nodes l.memo.entries.items;
  named : texts l.names.items
      ≡ map (λ m. m.name) (take l.index (members_in (value_of l.nodes l.node)));
  told : EachTold (rules_at l.tables) l.tables.shapes.now
      (ReadsEntry ((rules_at l.tables).is_key l.fn.key) (ReadsValue (rules_at l.tables))
      (of_shape l.value))
      (λ m. ((rules_at l.tables).end_of l.value, m.value))
      (take l.index (members_in (value_of l.nodes l.node))) l.values.items;
  one : Counted
      (ReadsEach
      (ReadsEntry ((rules_at l.tables).is_key l.fn.key) (ReadsValue (rules_at l.tables))
      (of_shape l.value))
      (take l.index (members_in (value_of l.nodes l.node)))) One;
}

-- the items before this one
abbrev pub invariant-each::read_items-loop-index : goal.invariant-each::read_items-loop-index
invariant-each::read_items-loop-index l = record {
  sound : AreSound l.tables l.nodes l.memo.entries.items;
  told : EachTold (rules_at l.tables) l.tables.shapes.now
      (ReadsValue (rules_at l.tables) (of_shape l.shape))
      (λ v. ((rules_at l.tables).end_of l.shape, v))
      (take l.index (children (value_of l.nodes l.node))) l.readings.items;
  one : Counted
      (ReadsEach (ReadsValue (rules_at l.tables) (of_shape l.shape))
      (take l.index (children (value_of l.nodes l.node)))) One;
}

-- the values before this one
abbrev pub invariant-each::read_tuple-loop-index : goal.invariant-each::read_tuple-loop-index
invariant-each::read_tuple-loop-index l = record {
  sound : AreSound l.tables l.nodes l.memo.entries.items;
  told : EachTold (rules_at l.tables) l.tables.shapes.now
      (ReadsPlace (ReadsValue (rules_at l.tables)))
      (λ p. ((rules_at l.tables).end_of p.0, p.1))
      (take l.index (zip l.shapes (children (value_of l.nodes l.node)))) l.readings.items;
  one : Counted
      (ReadsEach (ReadsPlace (ReadsValue (rules_at l.tables)))
      (take l.index (zip l.shapes (children (value_of l.nodes l.node))))) One;
}

-- the members of the steps before this one
abbrev pub invariant-members::read_fields-loop-step : goal.invariant-members::read_fields-loop-step
invariant-members::read_fields-loop-step l = record {
  sound : AreSound l.tables l.nodes l.memo.entries.items;
  told : AreToldFields l.tables l.nodes l.object
      (found.members_in (take l.step-index (map step_view l.steps))) l.values.items;
}

-- what is taken of the members before this one
abbrev pub invariant-members::read_rest-loop-index : goal.invariant-members::read_rest-loop-index
invariant-members::read_rest-loop-index l = record {
  sound : AreSound l.tables l.nodes l.memo.entries.items;
  takes : Taken;
  reads : TakesRest (rules_at l.tables) (object_view l.nodes l.object)
      (Takes (rules_at l.tables) (ReadsValue (rules_at l.tables)) (catch_all_view l.catch_all))
      (take l.index (members_in (value_of l.nodes l.object.node))) takes;
  tells : TellsTaken (rules_at l.tables) l.tables.shapes.now
      (end_taken (rules_at l.tables) (catch_all_view l.catch_all))
      (take l.index (members_in (value_of l.nodes l.object.node))) takes (texts l.names.items)
      l.readings.items;
  one : Counted
      (TakesRest (rules_at l.tables) (object_view l.nodes l.object)
      (Takes (rules_at l.tables) (ReadsValue (rules_at l.tables)) (catch_all_view l.catch_all))
      (take l.index (members_in (value_of l.nodes l.object.node)))) One;
}

-- what the first catch-all among the steps before this one takes
abbrev pub invariant-members::read_rests-loop-step : goal.invariant-members::read_rests-loop-step
invariant-members::read_rests-loop-step l = record {
  sound : AreSound l.tables l.nodes l.memo.entries.items;
  told : IsToldSoFar l.tables l.nodes l.object
      (found.catch_all_in (take l.step-index (map step_view l.steps))) l.first;
  only : AreOnlyRests l.tables l.nodes l.object (take l.step-index (map step_view l.steps));
}
