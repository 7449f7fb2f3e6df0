-- The variants that join read the value; or one by itself does; or no variant but a fallback does.
use Rattle.std.proofs.Common.{◌≡◌, ◌∙◌, ap, false, map, subst, sym, true}
use Rattle.facet_solver_reader.specs.declared.count.Count.TheVariants.{None as NoCount}
use Rattle.facet_solver_reader.specs.Choices.{a_variant}
use Rattle.facet_solver_reader.specs.Counted.{Counted}
use Rattle.facet_solver_reader.specs.Documents.{view}
use Rattle.facet_solver_reader.specs.Kinds.{is_object}
use Rattle.facet_solver_reader.specs.Nodes.{members_in, value_of}
use Rattle.facet_solver_reader.specs.Objects.{ReadsObject}
use Rattle.facet_solver_reader.specs.Readings.{ReadsValue, inner}
use Rattle.facet_solver_reader.specs.Tables.{rules_at}
use Rattle.facet_solver_reader.specs.Values.{ReadsAlone, ReadsJoined}
use Rattle.facet_solver_reader.specs.Views.{alternative_view, list_view}
use Rattle.facet_solver_reader.proofs.CountingValues.{joined_object}
use Rattle.facet_solver_reader.proofs.Seen.{seen_no_object, seen_object}
use Rattle.facet_solver_reader.proofs.UntaggedVariants.{count_of_none_joined}
use Rattle.facet_solver_reader.proofs.VariantIndices.{read_by_joined, read_by_last, read_last}
use Rattle.facet_solver_reader.proofs.VariantIndices.{some_counted}
use Rattle.facet_solver_reader.proofs.read.untagged.alternative_index.Goals as goal
use Rattle.facet_solver_reader.proofs.read.untagged.alternative_index.Goals.{
  in-Object+in_ok-count_object+else-not-is_none,
  in_default,
}

pub returns-then-not-is_none-clause-chosen : goal.returns-then-not-is_none-clause-chosen
returns-then-not-is_none-clause-chosen c =
    let v = value_of c.args.nodes.now c.args.node in
    let rules = rules_at c.args.tables.now in
    let found = some_counted
    (ReadsObject rules (ReadsValue rules) (list_view c.args.joined.now) (members_in v))
    c.in_ok-count_object.field-0
    (λ e. let none : c.is_none.result ≡ true = c.is_none.ensures.1 e in
    let some : c.is_none.result ≡ false = c.if-not-is_none.true in absurd (cc))
    c.in_ok-count_object.ensures.count in (
      found.0,
      read_by_joined rules (inner rules) (list_view c.args.joined.now)
          (map alternative_view c.args.alone.now) v found.0
          (ap is_object
          (sym c.value.ensures ∙ (ap view c.in-Object.is ∙ seen_object c.in-Object.field-0)))
          found.1,
    )

pub fallback_index-requires-clause-read : goal.fallback_index-requires-clause-read
fallback_index-requires-clause-read c =
    let v = value_of c.args.nodes.now c.args.node in
    let rules = rules_at c.args.tables.now in
    let alone = map alternative_view c.args.alone.now in
    let joined : Counted (ReadsJoined rules (ReadsValue rules) (list_view c.args.joined.now) v)
    NoCount =
    elim c.match-value.branch [
      | in-Object+in_ok-count_object+else-not-is_none w ↦
          joined_object rules (ReadsValue rules) (list_view c.args.joined.now) v NoCount
          (ap is_object
          (sym c.value.ensures ∙ (ap view w.in-Object.is ∙ seen_object w.in-Object.field-0)))
          (subst
          (Counted (ReadsObject rules (ReadsValue rules) (list_view c.args.joined.now) (members_in v)))
          (w.is_none.ensures.0 w.if-not-is_none.false) w.in_ok-count_object.ensures.count)
      | in_default w ↦
          count_of_none_joined rules (ReadsValue rules) (list_view c.args.joined.now) v
          (ap is_object (sym c.value.ensures)
          ∙ seen_no_object c.value.result.now w.in_default.not-Object)
    ] in
    let direct : Counted (ReadsAlone (ReadsValue rules) alone v) NoCount =
    rw c.in-None.is at c.in_ok-k.ensures.chosen in (
      c.requires.one.value,
      read_by_last rules (inner rules) (list_view c.args.joined.now) alone v joined direct
          c.requires.one.value c.requires.one.has,
    )

pub returns-in_ok-k-in-None-clause-chosen : goal.returns-in_ok-k-in-None-clause-chosen
returns-in_ok-k-in-None-clause-chosen c =
    let v = value_of c.args.nodes.now c.args.node in
    let rules = rules_at c.args.tables.now in
    let alone = map alternative_view c.args.alone.now in
    let joined : Counted (ReadsJoined rules (ReadsValue rules) (list_view c.args.joined.now) v)
    NoCount =
    elim c.match-value.branch [
      | in-Object+in_ok-count_object+else-not-is_none w ↦
          joined_object rules (ReadsValue rules) (list_view c.args.joined.now) v NoCount
          (ap is_object
          (sym c.value.ensures ∙ (ap view w.in-Object.is ∙ seen_object w.in-Object.field-0)))
          (subst
          (Counted (ReadsObject rules (ReadsValue rules) (list_view c.args.joined.now) (members_in v)))
          (w.is_none.ensures.0 w.if-not-is_none.false) w.in_ok-count_object.ensures.count)
      | in_default w ↦
          count_of_none_joined rules (ReadsValue rules) (list_view c.args.joined.now) v
          (ap is_object (sym c.value.ensures)
          ∙ seen_no_object c.value.result.now w.in_default.not-Object)
    ] in
    let direct : Counted (ReadsAlone (ReadsValue rules) alone v) NoCount =
    rw c.in-None.is at c.in_ok-k.ensures.chosen in
    let found = c.in_ok-k-in-None.ensures.chosen in (
      found.0,
      read_last rules (inner rules) (list_view c.args.joined.now) alone v joined direct
          (a_variant c.in_ok-k-in-None.k found.0) found.1,
    )
