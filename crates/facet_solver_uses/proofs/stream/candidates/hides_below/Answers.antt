use Rattle.std.proofs.Common.{◌≡◌, ℕ, ◌<◌, ◌∙◌, Bor, List, [], ◌∷◌, ap, arith, drop, length, not, sym, ◌||◌}
use Rattle.std.specs.Prelude.{true, false}
use Rattle.std.specs.Option.{option_map_or}
use Rattle.std.proofs.lemmas.List.{length-drop, length-map}
use Rattle.facet_solver.specs.Names.{Name, names_of}
use Rattle.facet_solver.specs.build.Build.{Catalogue}
use Rattle.facet_solver.specs.solver.ShapeAtPath.{shape_of_member}
use Rattle.facet_solver_uses.specs.stream.Candidates.{hides_below, is_plain_at}
use Rattle.facet_solver_uses.proofs.stream.candidates.hides_below.Goals as goal

not_plain : (cat : Catalogue) (path : List Name) (id : ℕ) → 0 < length path → is_plain_at cat id ≡ false → hides_below cat path id ≡ true
not_plain cat [] id some plain = absurd (omega arith)
not_plain cat (name ∷ path) id some plain =
    ap (λ b. not b || option_map_or (hides_below cat path) (shape_of_member cat name id) false) plain

pub returns-then-not-is_plain_at : goal.returns-then-not-is_plain_at
returns-then-not-is_plain_at c =
    let cat = c.args.shapes.now in
    let left = drop c.loop-name.name-index c.args.path.now in
    let as_many = length-map left (λ (n : Bor Name). n.now) in
    let fewer = length-drop c.loop-name.name-index c.args.path.now in
    sym (not_plain cat (names_of left) c.loop-name.shape (omega (arith, c.loop-name-test.true)) (sym c.is_plain_at.ensures ∙ c.if-not-is_plain_at.true))
    ∙ c.loop-name.invariant
