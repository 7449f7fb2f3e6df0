use Rattle.std.proofs.Common.{subst, sym}
use Rattle.std.specs.Prelude.{IsTrue}
use Rattle.std.specs.List.{list_any}
use Rattle.facet_solver_reader.specs.Branches.{ReadsList}
use Rattle.facet_solver_reader.specs.Nodes.{members_in, value_of}
use Rattle.facet_solver_reader.specs.Reading.{fails_at_once, object_view}
use Rattle.facet_solver_reader.specs.Readings.{ReadsValue}
use Rattle.facet_solver_reader.specs.Tables.{rules_at}
use Rattle.facet_solver_reader.specs.Views.{list_view, part_view}
use Rattle.facet_solver_reader.proofs.Alone.{none_by_list}
use Rattle.facet_solver_reader.proofs.OnlyBranches.{none_by_only, only_served}
use Rattle.facet_solver_reader.proofs.count.chosen.fails_by_part.Goals as goal

pub list-requires : goal.list-requires
list-requires c =
    only_served c.args.tables.now (part_view c.args.part.now) (list_view c.in-Some.branch)
    c.in-Some.ensures c.requires.served

pub returns-in_default-list : goal.returns-in_default-list
returns-in_default-list c = λ yes.
    let rules = rules_at c.args.tables.now in
    none_by_only rules (ReadsValue rules) (object_view c.args.nodes.now c.args.object.now)
    (part_view c.args.part.now) (list_view c.in-Some.branch) c.in-Some.ensures
    (λ d r. c.in_default-list.ensures (record {
      choice = d;
      items = r.items;
      chooses = r.chooses;
    }))

pub returns : goal.returns
returns c = λ yes.
    let t = c.args.tables.now in
    let rules = rules_at t in
    let object = object_view c.args.nodes.now c.args.object.now in
    let ms = members_in (value_of c.args.nodes.now c.args.object.now.node) in
    let of = c.in-Some-list.ensures in
    let fails = subst
    (λ ps. IsTrue (list_any (λ part. fails_at_once ms (part_view part)) ps))
    c.deref.ensures.value (c.lacks_some.ensures yes) in
    none_by_only rules (ReadsValue rules) object (part_view c.args.part.now)
    (list_view c.in-Some.branch) c.in-Some.ensures
    (λ d r.
    none_by_list t c.args.nodes.now c.args.object.now c.requires.tables of.index
    c.in-Some-list.list.now of.listed fails d
    (subst (λ i. ReadsList rules (ReadsValue rules) object i d) (sym of.same) r))
