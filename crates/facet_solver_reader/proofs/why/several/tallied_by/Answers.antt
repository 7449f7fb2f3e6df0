use Rattle.std.proofs.Common.{◌≡◌, ap, false, length, slice_get, subst, sym, true, ◌-◌, ◌∙◌}
use Rattle.std.specs.Option.{unwrap_or}
use Rattle.facet_solver_reader.specs.Documents.{view}
use Rattle.facet_solver_reader.specs.Kinds.{is_object}
use Rattle.facet_solver_reader.specs.Nodes.{value_of}
use Rattle.facet_solver_reader.specs.Reading.{IsListCount}
use Rattle.facet_solver_reader.specs.declared.count.Count.TheVariants as counts
use Rattle.facet_solver_reader.proofs.Seen.{seen_object}
use Rattle.facet_solver_reader.proofs.TakenObjects.{ignoring_is_object, ignoring_object}
use Rattle.facet_solver_reader.proofs.TakenObjects.{ignoring_taken, none_whole, own_counted}
use Rattle.facet_solver_reader.proofs.TakenObjects.{whole_taken}
use Rattle.facet_solver_reader.proofs.why.several.tallied_by.Goals as goal
use Rattle.facet_solver_reader.proofs.why.several.tallied_by.Goals.{then-object+in_ok-counts+else-not-is_none, else-object}

pub returns-then-not-is_none-clause-tallied : goal.returns-then-not-is_none-clause-tallied
returns-then-not-is_none-clause-tallied c =
    let t = c.args.tables.now in
    let tables = c.requires.sound.tables in
    let nodes = c.args.nodes.now in
    let o = c.in-Some.object in
    let h = c.in-Some.ensures.object in
    let is : is_object (value_of nodes c.args.node) ≡ true =
    ap is_object (sym c.value.ensures ∙ (ap view c.in-Object.is ∙ seen_object c.in-Object.field-0))
    in
    let own : IsListCount t nodes o o.list.now c.own_count.result =
    subst (IsListCount t nodes o o.list.now)
    (ap (λ ns. unwrap_or (slice_get ns (length ns - 1)) counts.None) (sym c.deref.ensures.value)
    ∙ sym c.own_count.ensures)
    (own_counted t tables nodes o h c.in_ok-counts.counts.items c.in_ok-counts.ensures.counts
    c.in_ok-counts.ensures.each) in
    record {
      numbering = c.requires.sound.numbering;
      object = h;
      same = c.in-Some.ensures.same;
      counts = c.in_ok-counts.ensures.counts;
      each = c.in_ok-counts.ensures.each;
      taken =
          whole_taken t tables nodes o h c.in-Some.ensures.takes c.if-object.true
          (subst (λ n. is_object (value_of nodes n) ≡ true) (sym c.in-Some.ensures.same) is)
          c.own_count.result
          (λ e.
          let no : c.is_none.result ≡ true = c.is_none.ensures.1 e in
          let isnt : c.is_none.result ≡ false = c.if-not-is_none.true in absurd (cc))
          own;
    }

pub returns-clause-tallied : goal.returns-clause-tallied
returns-clause-tallied c =
    let t = c.args.tables.now in
    let tables = c.requires.sound.tables in
    let nodes = c.args.nodes.now in
    let o = c.in-Some.object in
    let h = c.in-Some.ensures.object in
    let p = ignoring_object o in
    let is : is_object (value_of nodes c.args.node) ≡ true =
    ap is_object (sym c.value.ensures ∙ (ap view c.in-Object.is ∙ seen_object c.in-Object.field-0))
    in
    let none : o.takes ≡ true → IsListCount t nodes o o.list.now counts.None = λ takes.
    elim c.if-object.branch [
      | then-object+in_ok-counts+else-not-is_none w ↦
          let no : c.in-Some.object.takes ≡ true = takes in
          let zero : w.is_none.result ≡ true = w.if-not-is_none.false in
          let own : IsListCount t nodes o o.list.now w.own_count.result =
          subst (IsListCount t nodes o o.list.now)
          (ap (λ ns. unwrap_or (slice_get ns (length ns - 1)) counts.None)
          (sym w.deref.ensures.value)
          ∙ sym w.own_count.ensures)
          (own_counted t tables nodes o h w.in_ok-counts.counts.items w.in_ok-counts.ensures.counts
          w.in_ok-counts.ensures.each) in
          subst (IsListCount t nodes o o.list.now) (w.is_none.ensures.0 zero) own
      | else-object w ↦ let isnt : o.takes ≡ false = w.if-object.false in absurd (cc)
    ] in
    let counted : IsListCount t nodes p o.list.now c.own_count-2.result =
    subst (IsListCount t nodes p o.list.now)
    (ap (λ ns. unwrap_or (slice_get ns (length ns - 1)) counts.None) (sym c.deref-2.ensures.value)
    ∙ sym c.own_count-2.ensures)
    (own_counted t tables nodes p (ignoring_is_object t tables nodes o h)
    c.in_ok-counts-2.counts.items c.in_ok-counts-2.ensures.counts c.in_ok-counts-2.ensures.each) in
    record {
      numbering = c.requires.sound.numbering;
      object = ignoring_is_object t tables nodes o h;
      same = c.in-Some.ensures.same;
      counts = c.in_ok-counts-2.ensures.counts;
      each = c.in_ok-counts-2.ensures.each;
      taken =
          ignoring_taken t tables nodes o h c.if-tables.false
          (subst (λ n. is_object (value_of nodes n) ≡ true) (sym c.in-Some.ensures.same) is)
          (none_whole t tables nodes o h c.in-Some.ensures.takes none) c.own_count-2.result
          (λ e.
          let no : c.is_none-2.result ≡ true = c.is_none-2.ensures.1 e in
          let isnt : c.is_none-2.result ≡ false = c.if-is_none.false in absurd (cc))
          counted;
    }
