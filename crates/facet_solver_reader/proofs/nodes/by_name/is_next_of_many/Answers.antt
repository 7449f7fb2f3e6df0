use Rattle.std.proofs.Common.{◌≡◌, ◌∙◌, inl, inr, ap, length, refl, sym}
use Rattle.std.specs.Result.{is_ok}
use Rattle.std.proofs.lemmas.Option.{slice_get_read}
use Rattle.facet_solver_reader.proofs.NextNames.{IsPast, found_behind, found_next}
use Rattle.facet_solver_reader.proofs.nodes.by_name.is_next_of_many.Goals as goal
use Rattle.facet_solver_reader.proofs.nodes.by_name.is_next_of_many.Goals.{in-Some+in-Less, in-Some+in-Greater, in_default, in-Ok, in_default-found}

pub returns-in-Equal : goal.returns-in-Equal
returns-in-Equal c =
    let names = c.args.names.now in
    let known = c.in-Some.known.now in
    let look = c.in-Some.ensures.lookup in
    found_next names c.args.name.now c.args.next.now known
    (slice_get_read names (length names) c.args.next.now known refl look.3.0 look.1)
    (sym c.cmp.ensures ∙ c.in-Equal.is)

pub returns : goal.returns
returns c =
    let names = c.args.names.now in
    let x = c.args.name.now in
    let past : IsPast names x c.requires c.match-get.start =
    elim c.match-get.branch [
      | in-Some+in-Less w ↦
          let known = w.in-Some.known.now in
          let look = w.in-Some.ensures.lookup in
          inr (
            c.args.next.now,
            known,
            w.start-is,
            slice_get_read names (length names) c.args.next.now known refl look.3.0 look.1,
            sym w.cmp.ensures ∙ w.in-Less.is,
          )
      | in-Some+in-Greater w ↦ inl w.start-is
      | in_default w ↦ inl w.start-is
    ] in
    let same : c.match-found.found ≡ c.binary_search-found.result =
    elim c.match-found.branch [ in-Ok w ↦ w.found-is ∙ sym w.in-Ok.is | in_default-found w ↦ w.found-is ] in
    c.is_ok.ensures.value
    ∙ ap is_ok same
    ∙ found_behind names x c.requires c.match-get.start past c.binary_search-found.result
    c.binary_search-found.ensures.bound c.binary_search-found.ensures.position
