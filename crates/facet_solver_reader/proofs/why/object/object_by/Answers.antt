use Rattle.std.proofs.Common.{refl}
use Rattle.facet_solver_reader.specs.Nodes.{members_in, value_of}
use Rattle.facet_solver_reader.specs.Reading.{IsListed}
use Rattle.facet_solver_reader.specs.Views.{list_view}
use Rattle.facet_solver_reader.proofs.CountingObjects.{unknown_by_list}
use Rattle.facet_solver_reader.proofs.why.object.object_by.Goals as goal

pub has_unknown-has_unknown-requires-clause-sorted :
    goal.has_unknown-has_unknown-requires-clause-sorted
has_unknown-has_unknown-requires-clause-sorted c =
    let of = c.in_ok-list.ensures in
    (c.requires.tables.lists of.index c.in_ok-list.list.now of.listed).sorted

pub returns-clause-object : goal.returns-clause-object
returns-clause-object c =
    let tb = c.args.tables.now in
    let of = c.in_ok-list.ensures in
    let l = c.in_ok-list.list.now in
    let listed : IsListed tb l = record { index = of.index; listed = of.listed } in
    record {
      inside = c.requires.inside;
      index = of.index;
      listed = of.listed;
      unknown =
          unknown_by_list tb c.requires.tables l listed
          (record {
            members = members_in (value_of c.args.nodes.now c.args.node);
            list = list_view l.id;
            takes = c.if-list.result;
          })
          c.has_unknown-has_unknown.result refl c.has_unknown-has_unknown.ensures;
      filter = c.filter_of-filter.ensures;
    }
