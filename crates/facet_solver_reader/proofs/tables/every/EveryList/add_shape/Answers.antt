use Rattle.std.proofs.Common.{◌≡◌, ◌∙◌, ℕ, ◌<◌, ◌≤◌, ap, arith, length, refl, subst}
use Rattle.std.proofs.lemmas.Result.{IfOk-weaker}
use Rattle.facet_solver_shape.specs.Catalogues.{Catalogue}
use Rattle.facet_solver_reader.specs.ListShapes.{shape_of}
use Rattle.facet_solver_reader.specs.Listing.{AreListsAdded}
use Rattle.facet_solver_reader.specs.Parts.{of_branch, of_enum, of_fields, of_joined}
use Rattle.facet_solver_reader.specs.Types.{variants_at}
use Rattle.facet_solver_reader.proofs.Added.{FirstOf, shape_added, still_free}
use Rattle.facet_solver_reader.proofs.tables.every.EveryList.add_shape.Goals as goal

pub add-requires-in-loop-variant-clause-free : goal.add-requires-in-loop-variant-clause-free
add-requires-in-loop-variant-clause-free c =
    let shapes = c.args.types.now in
    let v = c.loop-variant.variant in
    let q = of_branch c.args.shape v in
    still_free shapes c.args.self.now c.loop-variant.self (FirstOf shapes c.args.shape v) q
    c.loop-variant.invariant
    (λ h. let l : v < v = h.1 in omega arith) (c.requires.free q refl)

pub add-requires-in-loop-variant-2-clause-free : goal.add-requires-in-loop-variant-2-clause-free
add-requires-in-loop-variant-2-clause-free c =
    let shapes = c.args.types.now in
    let v = c.loop-variant.variant in
    let q = of_fields c.args.shape v in
    c.in_ok-add-2.ensures.others q (λ e. cc)
    ∙ still_free shapes c.args.self.now c.loop-variant.self (FirstOf shapes c.args.shape v) q
    c.loop-variant.invariant
    (λ h. let l : v < v = h.1 in omega arith) (c.requires.free q refl)

pub add-requires-2-clause-free : goal.add-requires-2-clause-free
add-requires-2-clause-free c =
    let shapes = c.args.types.now in
    let q = of_enum c.args.shape in
    still_free shapes c.args.self.now c.loop-variant.self
    (FirstOf shapes c.args.shape c.loop-variant.variant) q
    c.loop-variant.invariant (λ h. h) (c.requires.free q refl)

pub add-requires-3-clause-free : goal.add-requires-3-clause-free
add-requires-3-clause-free c =
    let shapes = c.args.types.now in
    let q = of_joined c.args.shape in
    c.in_ok-add-4.ensures.others q (λ e. cc)
    ∙ still_free shapes c.args.self.now c.loop-variant.self
    (FirstOf shapes c.args.shape c.loop-variant.variant) q
    c.loop-variant.invariant (λ h. h) (c.requires.free q refl)

pub returns : goal.returns
returns c =
    let shapes = c.args.types.now in
    let shape = c.args.shape in
    let v = c.loop-variant.variant in
    let past : length (variants_at shapes shape) ≤ v =
    subst (λ (n : ℕ). n ≤ v)
    (ap length (c.variants_at-variant-end.ensures
    ∙ ap (λ (ss : Catalogue). variants_at ss shape) c.shapes.ensures))
    c.loop-variant-test.false
    in
    IfOk-weaker c.add-3.result
    (λ u. AreListsAdded shapes c.add-2.new.self c.add-3.new.self (λ q. q ≡ of_joined shape))
    (λ u. AreListsAdded shapes c.args.self.now c.add-3.new.self (λ q. shape_of q ≡ shape))
    (λ u added.
    shape_added shapes shape c.args.self.now c.loop-variant.self c.add-2.new.self c.add-3.new.self v
    c.loop-variant.invariant c.in_ok-add-4.ensures added past)
    c.add-3.ensures
