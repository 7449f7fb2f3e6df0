use Rattle.std.proofs.Common.{◌∙◌, ap, subst, sym}
use Rattle.std.specs.List.{list_any}
use Rattle.facet_solver_reader.specs.Branches.{ReadsList}
use Rattle.facet_solver_reader.specs.Nodes.{members_in, value_of}
use Rattle.facet_solver_reader.specs.Reading.{fails_at_once, object_view}
use Rattle.facet_solver_reader.specs.Readings.{ReadsValue}
use Rattle.facet_solver_reader.specs.Tables.{rules_at}
use Rattle.facet_solver_reader.specs.Views.{part_view}
use Rattle.facet_solver_reader.proofs.Alone.{none_by_list}
use Rattle.facet_solver_reader.proofs.count.chosen.fails_by_branch.Goals as goal

pub returns-in_default-clause-fails : goal.returns-in_default-clause-fails
returns-in_default-clause-fails c = λ yes d r.
    c.in_default.ensures (record { choice = d; items = r.items; chooses = r.chooses })

pub returns-then-fails_at_first-clause-fails : goal.returns-then-fails_at_first-clause-fails
returns-then-fails_at_first-clause-fails c = λ yes d r.
    let t = c.args.tables.now in
    let of = c.in-Some.ensures in
    none_by_list t c.args.nodes.now c.args.object.now c.requires.tables of.index
    c.in-Some.list.now of.listed (c.fails_at_first.ensures.fails c.if-fails_at_first.true) d
    (subst
    (λ i. ReadsList (rules_at t) (ReadsValue (rules_at t))
    (object_view c.args.nodes.now c.args.object.now) i d)
    (sym of.same) r)

pub returns-then-some_fails_at_once-clause-fails : goal.returns-then-some_fails_at_once-clause-fails
returns-then-some_fails_at_once-clause-fails c = λ yes d r.
    let t = c.args.tables.now in
    let of = c.in-Some.ensures in
    let ms = members_in (value_of c.args.nodes.now c.args.object.now.node) in
    none_by_list t c.args.nodes.now c.args.object.now c.requires.tables of.index
    c.in-Some.list.now of.listed
    (ap (list_any (λ part. fails_at_once ms (part_view part))) (sym c.deref.ensures.value)
    ∙ sym c.some_fails_at_once.ensures ∙ c.if-some_fails_at_once.true)
    d
    (subst
    (λ i. ReadsList (rules_at t) (ReadsValue (rules_at t))
    (object_view c.args.nodes.now c.args.object.now) i d)
    (sym of.same) r)

pub returns-clause-fails : goal.returns-clause-fails
returns-clause-fails c = λ yes d r.
    let t = c.args.tables.now in
    c.fails_below.ensures yes d
    (subst
    (λ i. ReadsList (rules_at t) (ReadsValue (rules_at t))
    (object_view c.args.nodes.now c.args.object.now) i d)
    (sym c.in-Some.ensures.same) r)
