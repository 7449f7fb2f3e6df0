use Rattle.std.proofs.Common.{◌≡◌, refl, subst, true, false}
use Rattle.facet_solver_reader.specs.declared.count.Count.TheVariants.{None as NoReading}
use Rattle.facet_solver_reader.specs.Counted.{Counted}
use Rattle.facet_solver_reader.specs.Nodes.{members_in, value_of}
use Rattle.facet_solver_reader.specs.Objects.{HasUnknown, ReadsAll, taking}
use Rattle.facet_solver_reader.specs.Readings.{ReadsValue}
use Rattle.facet_solver_reader.specs.Tables.{rules_at}
use Rattle.facet_solver_reader.specs.Views.{list_view}
use Rattle.facet_solver_reader.proofs.CountingObjects.{unknown_by_list}
use Rattle.facet_solver_reader.proofs.OneObject.{none_strictly, reads_by_list, whole_by_list}
use Rattle.facet_solver_reader.proofs.read.object.is_read_whole.Goals as goal
use Rattle.facet_solver_reader.proofs.read.object.is_read_whole.Goals.{
  else-tables-via-then-tables+else-is_none,
  else-tables-via-else-tables,
}

pub returns-then-not-has_unknown-clause-by_list : goal.returns-then-not-has_unknown-clause-by_list
returns-then-not-has_unknown-clause-by_list c =
    let tb = c.args.tables.now in
    let rules = rules_at tb in
    let ms = members_in (value_of c.args.nodes.now c.args.node) in
    let object = taking ms (list_view c.args.list.now.id) in
    let unknown = unknown_by_list tb c.requires.sound.tables c.args.list.now c.requires.listed object
    c.args.has_unknown refl c.requires.unknown in
    let none : HasUnknown rules object → ⊥ =
    λ u. let is : c.args.has_unknown ≡ true = unknown.1 u in absurd (cc c.if-not-has_unknown.true) in
    whole_by_list rules (ReadsValue rules) ms (list_view c.args.list.now.id) none

pub returns-then-is_none-clause-none : goal.returns-then-is_none-clause-none
returns-then-is_none-clause-none c =
    let rules = rules_at c.args.tables.now in
    let ms = members_in (value_of c.args.nodes.now c.args.node) in
    let id = list_view c.args.list.now.id in
    none_strictly rules (ReadsValue rules) ms id
    (subst (Counted (ReadsAll rules (ReadsValue rules) ms id)) (c.is_none.ensures.0 c.if-is_none.true)
    c.in_ok-all.ensures.count)
    c.if-tables.true

pub returns-clause-by_list : goal.returns-clause-by_list
returns-clause-by_list c =
    let tb = c.args.tables.now in
    let rules = rules_at tb in
    let ms = members_in (value_of c.args.nodes.now c.args.node) in
    let lenient : c.is_none-2.result ≡ true → tb.strict ≡ false = λ none.
    elim c.else-tables.branch [
      | else-tables-via-then-tables+else-is_none w ↦
          let no : c.in_ok-all.all ≡ NoReading = c.is_none-2.ensures.0 none in
          let is : w.is_none.result ≡ true = w.is_none.ensures.1 no in
          let isnt : w.is_none.result ≡ false = w.if-is_none.false in absurd (cc)
      | else-tables-via-else-tables w ↦ w.if-tables.false
    ] in
    reads_by_list rules (ReadsValue rules) ms (list_view c.args.list.now.id) c.in_ok-all.all
    c.is_none-2.result c.is_none-2.ensures c.in_ok-all.ensures.count lenient
