use Rattle.std.proofs.Common.{map, sym, ◌∙◌, inl, inr}
use Rattle.std.proofs.lemmas.Bool.{false≢true}
use Rattle.facet_solver_shape.specs.Names.{names_of}
use Rattle.facet_solver_shape.proofs.RepeatedNames.{found_is_shared, shared_told, sorted_copies, told_by_sorted}
use Rattle.facet_solver_shape.proofs.shape.check.stretch.repeats_in_stretch.Goals as goal

pub returns-then-repeats_neighbour : goal.returns-then-repeats_neighbour
returns-then-repeats_neighbour g c =
    let name_of = g.T.Named.name_of in
    let xs = c.args.stretch.now in
    let sorted = c.sort_unstable.new.self in
    let moved = sorted_copies name_of xs c.loop-index.room sorted c.loop-index.index c.loop-index-test.false c.loop-index.auto.index-end c.loop-index.invariant.copied c.sort_unstable.ensures.permutation in
    let told = told_by_sorted (map name_of c.args.before.now) (map name_of xs) (names_of sorted) moved in
    (λ given. told.1 (inl (c.repeats_neighbour.ensures.0 given)), λ _. c.if-repeats_neighbour.true)

pub returns-else-repeats_neighbour : goal.returns-else-repeats_neighbour
returns-else-repeats_neighbour g c =
    let name_of = g.T.Named.name_of in
    let xs = c.args.stretch.now in
    let before = c.args.before.now in
    let sorted = c.sort_unstable.new.self in
    let moved = sorted_copies name_of xs c.loop-index.room sorted c.loop-index.index c.loop-index-test.false c.loop-index.auto.index-end c.loop-index.invariant.copied c.sort_unstable.ensures.permutation in
    let told = told_by_sorted (map name_of before) (map name_of xs) (names_of sorted) moved in
    let found = c.has_name_among.ensures ∙ found_is_shared name_of before (names_of sorted) in
    let shared = shared_told (map name_of before) (names_of sorted) in (
      λ given. told.1 (inr (shared.0 (sym found ∙ given))),
      λ one. elim (told.0 one) [
        | inl twice ↦ absurd (false≢true (sym c.if-repeats_neighbour.false ∙ c.repeats_neighbour.ensures.1 twice))
        | inr both ↦ found ∙ shared.1 both
      ],
    )
