use Rattle.std.proofs.Common.{◌≡◌, ◌∙◌, ap, sym, subst, ◌<◌, length, get_or, arith, MatchOption}
use Rattle.std.proofs.lemmas.List.{length-map}
use Rattle.std.proofs.lemmas.Option.{slice_get-get_or, slice_get_within}
use Rattle.facet_solver_reader.specs.declared.count.Count.TheVariants.{None as NoReading}
use Rattle.facet_solver_reader.specs.Branches.{Fits, Misfits, ReadsList, ReadsPart}
use Rattle.facet_solver_reader.specs.Counted.{Counted}
use Rattle.facet_solver_reader.specs.Known.{Chooses, HasChoice}
use Rattle.facet_solver_reader.specs.Parts.{a_selection}
use Rattle.facet_solver_reader.specs.Reading.{IsBranchCount, object_view}
use Rattle.facet_solver_reader.specs.Readings.{ReadsValue}
use Rattle.facet_solver_reader.specs.Tables.{IsListAt, rules_at}
use Rattle.facet_solver_reader.specs.Views.{list_view, selection_view}
use Rattle.facet_solver_reader.proofs.CountingObjects.{halved_before, list_at, list_read}
use Rattle.facet_solver_reader.proofs.KnownNames.{where_none}
use Rattle.facet_solver_reader.proofs.Selections.{count_at_branch, count_at_misfit, count_at_no_choice, count_at_none}
use Rattle.facet_solver_reader.proofs.Selections.{only_fits}
use Rattle.facet_solver_reader.proofs.count.selection.count_branch.Goals as goal
use Rattle.facet_solver_reader.proofs.count.selection.count_branch.Goals.{then-is_none-via-then-is_none, then-is_none-via-else-is_none+then-len-eq1}

pub returns-then-is_none-clause-count : goal.returns-then-is_none-clause-count
returns-then-is_none-clause-count c = λ k e.
    let t = c.args.tables.now in
    let rules = rules_at t in
    let object = object_view c.args.nodes.now c.args.object.now in
    let s = selection_view c.args.selection.now in
    let part = ReadsPart rules (ReadsValue rules) object (a_selection s) in
    let id = list_view c.args.branch in
    let counts = c.args.counts.now in
    let at = list_at t id c.in-Some.index c.in-Some.ensures c.requires.branch in
    let b = halved_before t c.args.nodes.now c.args.object.now c.requires.object
    c.requires.tables (length counts) id c.in-Some.index c.deref.result.now
    c.search_near.result c.in-Some.ensures c.requires.before c.deref.ensures.value
    c.search_near.ensures.position in
    let same : b.0 ≡ c.in-Ok.position = cc (b.3, c.in-Ok.is) in
    let count = get_or counts b.0 NoReading in
    let counted : Counted (ReadsList rules (ReadsValue rules) object id) count =
    subst (λ i. Counted (ReadsList rules (ReadsValue rules) object i) count) at.same
    (c.requires.counts.are b.0 c.in-Some.index count at.entry
    (slice_get-get_or counts b.0 NoReading b.1) b.2 at.is_there) in
    let here : IsBranchCount part k count =
    elim c.then-is_none.branch [
      | then-is_none-via-then-is_none w ↦
          let none : count ≡ NoReading =
          ap (λ q. get_or counts q NoReading) same ∙ c.is_none.ensures.0 w.if-is_none.true in
          subst (λ n. IsBranchCount part k n) (sym none)
          (count_at_none rules (ReadsValue rules) object s k id e
          (subst (Counted (ReadsList rules (ReadsValue rules) object id)) none counted))
      | then-is_none-via-else-is_none+then-len-eq1 w ↦
          let mapped = length-map c.args.selection.now.branches.items list_view in
          let len = w.len.ensures in
          let is_one = w.if-len-eq1.true in
          let one : length s.branches ≡ 1 = omega (arith, mapped, len, is_one) in
          count_at_branch rules (ReadsValue rules) object s k id e count
          (only_fits rules (ReadsValue rules) object s k id e one) c.requires.present counted
    ] in
    subst
    (λ q. IsBranchCount part k (get_or counts q NoReading))
    same here

pub returns-else-fits_next-clause-count : goal.returns-else-fits_next-clause-count
returns-else-fits_next-clause-count c = λ k e.
    let t = c.args.tables.now in
    let rules = rules_at t in
    let object = object_view c.args.nodes.now c.args.object.now in
    let s = selection_view c.args.selection.now in
    let part = ReadsPart rules (ReadsValue rules) object (a_selection s) in
    let id = list_view c.args.branch in
    let read = list_read t id c.in-Some.index c.index-list.result.now
    (list_at t id c.in-Some.index c.in-Some.ensures c.requires.branch) c.index-list.ensures in
    count_at_misfit rules (ReadsValue rules) object s k id e
    (subst (Misfits rules object s) read.1 (c.fits_next.ensures.no c.if-fits_next.false))

pub returns-then-fits_next-clause-count : goal.returns-then-fits_next-clause-count
returns-then-fits_next-clause-count c = λ k e.
    let t = c.args.tables.now in
    let rules = rules_at t in
    let object = object_view c.args.nodes.now c.args.object.now in
    let s = selection_view c.args.selection.now in
    let part = ReadsPart rules (ReadsValue rules) object (a_selection s) in
    let id = list_view c.args.branch in
    let counts = c.args.counts.now in
    let l = c.index-list.result.now in
    let read = list_read t id c.in-Some.index l
    (list_at t id c.in-Some.index c.in-Some.ensures c.requires.branch) c.index-list.ensures in
    let b = halved_before t c.args.nodes.now c.args.object.now c.requires.object
    c.requires.tables (length counts) id c.in-Some.index c.deref.result.now
    c.search_near.result c.in-Some.ensures c.requires.before c.deref.ensures.value
    c.search_near.ensures.position in
    let same : b.0 ≡ c.in-Ok.position = cc (b.3, c.in-Ok.is) in
    let count = get_or counts b.0 NoReading in
    let counted = c.requires.counts.are b.0 c.in-Some.index count l
    (slice_get-get_or counts b.0 NoReading b.1) b.2 read.0 in
    let fits = subst (Fits rules object s) read.1 (c.fits_next.ensures.yes c.if-fits_next.true) in
    let at = count_at_branch rules (ReadsValue rules) object s k id e count fits
    c.requires.present
    (subst (λ i. Counted (ReadsList rules (ReadsValue rules) object i) count) read.1 counted) in
    subst
    (λ q. IsBranchCount part k (get_or counts q NoReading))
    same at

pub bounds-counts-position : goal.bounds-counts-position
bounds-counts-position c =
    let b = halved_before c.args.tables.now c.args.nodes.now c.args.object.now c.requires.object
    c.requires.tables (length c.args.counts.now) (list_view c.args.branch) c.in-Some.index
    c.deref.result.now c.search_near.result c.in-Some.ensures c.requires.before
    c.deref.ensures.value c.search_near.ensures.position in
    let same : b.0 ≡ c.in-Ok.position = cc (b.3, c.in-Ok.is) in
    subst (λ q. q < length c.args.counts.now) same b.1

pub returns-in_default-search_near-clause-count : goal.returns-in_default-search_near-clause-count
returns-in_default-search_near-clause-count c = λ k e x w.
    let b = halved_before c.args.tables.now c.args.nodes.now c.args.object.now c.requires.object
    c.requires.tables (length c.args.counts.now) (list_view c.args.branch) c.in-Some.index
    c.deref.result.now c.search_near.result c.in-Some.ensures c.requires.before
    c.deref.ensures.value c.search_near.ensures.position in
    absurd (c.in_default-search_near.not-Ok b.0 b.3)

pub returns-in_default-clause-count : goal.returns-in_default-clause-count
returns-in_default-clause-count c = λ k e.
    let t = c.args.tables.now in
    let rules = rules_at t in
    let id = list_view c.args.branch in
    let none = where_none c.index_of.result (HasChoice (Chooses rules.lists id) → ⊥)
    (IsListAt t id) c.in_default.not-Some
    (subst (λ o. MatchOption o (HasChoice (Chooses rules.lists id) → ⊥) (IsListAt t id))
    (sym c.index_of.ensures) c.requires.branch) in
    count_at_no_choice rules (ReadsValue rules) (object_view c.args.nodes.now c.args.object.now)
    (selection_view c.args.selection.now) k id e none

pub index-list-requires : goal.index-list-requires
index-list-requires c =
    let t = c.args.tables.now in
    let at = list_at t (list_view c.args.branch) c.in-Some.index c.in-Some.ensures
    c.requires.branch in
    let within = slice_get_within t.lists.items c.in-Some.index at.entry at.is_there in
    omega (arith, within)

pub fits_next-requires-clause-listed : goal.fits_next-requires-clause-listed
fits_next-requires-clause-listed c =
    let t = c.args.tables.now in
    let id = list_view c.args.branch in
    let read = list_read t id c.in-Some.index c.index-list.result.now
    (list_at t id c.in-Some.index c.in-Some.ensures c.requires.branch) c.index-list.ensures in
    record { index = c.in-Some.index; listed = read.0 }
