-- How far each function of the count is from its end: by how deep the value nests, by the steps that
-- are left at it, and by how far it is from asking about another value or step.
use Rattle.std.proofs.Common.{◌+◌, ◌*◌, take, zip, map, ◌≡◌, length, drop}
use Rattle.facet_solver_reader.specs.Counted.{Counted, times}
use Rattle.facet_solver_reader.specs.LookedUp.{IsLast}
use Rattle.facet_solver_reader.specs.Nodes.{children, members_in, value_of}
use Rattle.facet_solver_reader.specs.Parts.{of_shape}
use Rattle.facet_solver_reader.specs.Reading.{AreSound, AreListCounts, object_view}
use Rattle.facet_solver_reader.specs.Readings.{ReadsValue}
use Rattle.facet_solver_reader.specs.Tables.{rules_at}
use Rattle.facet_solver_reader.specs.Values.{ReadsEach, ReadsEntries, ReadsItems, ReadsPlace}
use Rattle.facet_solver_reader.specs.Views.{alternative_view, named_view, catch_all_view}
use Rattle.facet_solver_reader.specs.Views.{parts_view}
use Rattle.facet_solver_reader.proofs.Forms.{OfVariantBelow}
use Rattle.facet_solver_reader.proofs.Levels.{levels}
use Rattle.facet_solver_reader.proofs.NamedVariants.{AsNamed}
use Rattle.facet_solver_reader.proofs.UntaggedVariants.{ReadsAloneBelow, ReadsFallbackBelow}
use Rattle.facet_solver_reader.specs.declared.count.Count.{Count}
use Rattle.facet_solver_reader.specs.Branches.{ReadsParts}
use Rattle.facet_solver_reader.specs.Objects.{Takes, TakesRest}
use Rattle.facet_solver_reader.proofs.count.+count.Given as goal

abbrev pub decreases-catch_all::count_catch_all : goal.decreases-catch_all::count_catch_all
decreases-catch_all::count_catch_all l = levels l.nodes.now l.object.now.node + 2

-- the readings of the members before this one
abbrev pub invariant-catch_all::count_catch_all-loop-index :
    goal.invariant-catch_all::count_catch_all-loop-index
invariant-catch_all::count_catch_all-loop-index l =
    record {
      sound : AreSound l.tables l.nodes l.memo.entries.items;
      counted :
          Counted
          (TakesRest (rules_at l.tables) (object_view l.nodes l.object)
          (Takes (rules_at l.tables) (ReadsValue (rules_at l.tables)) (catch_all_view l.catch_all))
          (take l.index (members_in (value_of l.nodes l.object.node))))
          l.count;
    }

abbrev pub decreases-catch_all::count_taken : goal.decreases-catch_all::count_taken
decreases-catch_all::count_taken l = levels l.nodes.now l.node + 1

abbrev pub decreases-content::count_by_content : goal.decreases-content::count_by_content
decreases-content::count_by_content l = levels l.nodes.now l.node + 16 * l.steps + 13

abbrev pub decreases-content::count_content : goal.decreases-content::count_content
decreases-content::count_content l = levels l.nodes.now l.node + 16 * l.steps + 14

abbrev pub decreases-each::count_entries : goal.decreases-each::count_entries
decreases-each::count_entries l = levels l.nodes.now l.node + 8

-- the readings of the members before this one
abbrev pub invariant-each::count_entries-loop-index : goal.invariant-each::count_entries-loop-index
invariant-each::count_entries-loop-index l = record {
  sound : AreSound l.tables l.nodes l.memo.entries.items;
  counted : Counted (ReadsEntries ((rules_at l.tables).is_key l.key)
      (ReadsValue (rules_at l.tables)) (of_shape l.value)
      (take l.index (members_in (value_of l.nodes l.node)))) l.count;
}

abbrev pub decreases-each::count_items : goal.decreases-each::count_items
decreases-each::count_items l = levels l.nodes.now l.node + 8

-- the readings of the items before this one
abbrev pub invariant-each::count_items-loop-index : goal.invariant-each::count_items-loop-index
invariant-each::count_items-loop-index l = record {
  sound : AreSound l.tables l.nodes l.memo.entries.items;
  counted : Counted (ReadsItems (ReadsValue (rules_at l.tables)) (of_shape l.shape)
      (take l.index (children (value_of l.nodes l.node)))) l.count;
}

abbrev pub decreases-each::count_tuple : goal.decreases-each::count_tuple
decreases-each::count_tuple l = levels l.nodes.now l.node + 8

-- the readings of the values before this one
abbrev pub invariant-each::count_tuple-loop-index : goal.invariant-each::count_tuple-loop-index
invariant-each::count_tuple-loop-index l = record {
  sound : AreSound l.tables l.nodes l.memo.entries.items;
  counted : Counted (ReadsEach (ReadsPlace (ReadsValue (rules_at l.tables)))
      (take l.index (zip l.shapes (children (value_of l.nodes l.node))))) l.count;
}

abbrev pub decreases-list::count_list : goal.decreases-list::count_list
decreases-list::count_list l = levels l.nodes.now l.object.now.node + 4

-- the readings of the parts from this one on make those of all
abbrev pub invariant-list::count_list-loop-part : goal.invariant-list::count_list-loop-part
invariant-list::count_list-loop-part l =
    record {
      sound : AreSound l.tables l.nodes l.memo.entries.items;
      counted :
          (rest : Count)
          → Counted
          (ReadsParts (rules_at l.tables) (ReadsValue (rules_at l.tables))
          (object_view l.nodes l.object) (drop l.part-index (parts_view l.list.parts.items)))
          rest
          → Counted
          (ReadsParts (rules_at l.tables) (ReadsValue (rules_at l.tables))
          (object_view l.nodes l.object) (parts_view l.list.parts.items))
          (times l.count rest);
    }

abbrev pub decreases-list::count_member : goal.decreases-list::count_member
decreases-list::count_member l = levels l.nodes.now l.object.now.node + 2

abbrev pub decreases-list::count_part : goal.decreases-list::count_part
decreases-list::count_part l = levels l.nodes.now l.object.now.node + 3

abbrev pub decreases-object::count_all : goal.decreases-object::count_all
decreases-object::count_all l = levels l.nodes.now l.node + 7

abbrev pub decreases-object::count_members : goal.decreases-object::count_members
decreases-object::count_members l = levels l.nodes.now l.object.now.node + 6

abbrev pub decreases-object::count_object : goal.decreases-object::count_object
decreases-object::count_object l = levels l.nodes.now l.node + 8

abbrev pub decreases-object::list_counts : goal.decreases-object::list_counts
decreases-object::list_counts l = levels l.nodes.now l.object.now.node + 5

-- the lists before this one have been counted
abbrev pub invariant-object::list_counts-loop-index : goal.invariant-object::list_counts-loop-index
invariant-object::list_counts-loop-index l =
    record {
      sound : AreSound l.tables l.nodes l.memo.entries.items;
      counts : AreListCounts l.tables l.nodes l.object l.counts.items;
      so_far : length l.counts.items ≡ l.index-index;
      last : IsLast (members_in (value_of l.nodes l.object.node)) l.last;
    }

abbrev pub decreases-target::count_end : goal.decreases-target::count_end
decreases-target::count_end l = levels l.nodes.now l.node + 16 * l.steps + 13

abbrev pub decreases-target::count_shape : goal.decreases-target::count_shape
decreases-target::count_shape l = levels l.nodes.now l.node + 16 * l.steps + 14

abbrev pub decreases-target::count_target : goal.decreases-target::count_target
decreases-target::count_target l = levels l.nodes.now l.node + 16 * l.steps + 15

abbrev pub decreases-untagged::count_alone : goal.decreases-untagged::count_alone
decreases-untagged::count_alone l = levels l.nodes.now l.node + 16 * l.steps + 11

-- the readings by the alternatives before this one
abbrev pub invariant-untagged::count_alone-loop-alternative :
    goal.invariant-untagged::count_alone-loop-alternative
invariant-untagged::count_alone-loop-alternative l = record {
  sound : AreSound l.tables l.nodes l.memo.entries.items;
  counted : Counted (ReadsAloneBelow (ReadsValue (rules_at l.tables))
      (map alternative_view l.alone) (value_of l.nodes l.node) l.alternative-index) l.count;
}

abbrev pub decreases-untagged::count_alternative : goal.decreases-untagged::count_alternative
decreases-untagged::count_alternative l = levels l.nodes.now l.node + 16 * l.steps + 10

abbrev pub decreases-untagged::count_fallbacks : goal.decreases-untagged::count_fallbacks
decreases-untagged::count_fallbacks l = levels l.nodes.now l.node + 16 * l.steps + 11

-- the readings by the fallbacks before this alternative
abbrev pub invariant-untagged::count_fallbacks-loop-alternative :
    goal.invariant-untagged::count_fallbacks-loop-alternative
invariant-untagged::count_fallbacks-loop-alternative l = record {
  sound : AreSound l.tables l.nodes l.memo.entries.items;
  counted : Counted (ReadsFallbackBelow (ReadsValue (rules_at l.tables))
      (map alternative_view l.alone) (value_of l.nodes l.node) l.alternative-index) l.count;
}

abbrev pub decreases-untagged::count_untagged : goal.decreases-untagged::count_untagged
decreases-untagged::count_untagged l = levels l.nodes.now l.node + 16 * l.steps + 12

abbrev pub decreases-variant::count_contents : goal.decreases-variant::count_contents
decreases-variant::count_contents l = levels l.nodes.now l.node + 8

-- the readings as the variants before this one
abbrev pub invariant-variant::count_contents-loop-variant :
    goal.invariant-variant::count_contents-loop-variant
invariant-variant::count_contents-loop-variant l = record {
  sound : AreSound l.tables l.nodes l.memo.entries.items;
  counted : Counted (OfVariantBelow (AsNamed (ReadsValue (rules_at l.tables))
      (map named_view l.variants)
      (record { name = l.name; value = value_of l.nodes l.content })) l.variant-index) l.count;
}

abbrev pub decreases-variant::count_named : goal.decreases-variant::count_named
decreases-variant::count_named l = levels l.nodes.now l.node + 9
