use Rattle.std.proofs.Common.{◌||◌, refl, ap, sym, ◌∙◌}
use Rattle.std.specs.FinSet.{contains}
use Rattle.std.specs.List.{list_any}
use Rattle.facet_solver_shape.specs.Paths.{key_path_eq}
use Rattle.facet_solver_shape.specs.Names.{names_of}
use Rattle.facet_solver_shape.specs.Resolved.{key_paths_view}
use Rattle.facet_solver_shape.proofs.Resolved.{paths_of, contains_path}
use Rattle.facet_solver.specs.KeyPath.{whole_path}
use Rattle.facet_solver.proofs.KeyPath.{key_path_same}
use Rattle.facet_solver.proofs.key_path.known_path.Goals as goal

pub loop-known-init : goal.loop-known-init
loop-known-init c = (ap key_paths_view c.into_iter-known-iterator.ensures.into_iter_gives.0 ∙ c.known_paths-known-items.ensures, refl)

pub returns-then-is_path_to-clause-known : goal.returns-then-is_path_to-clause-known
returns-then-is_path_to-clause-known c =
    let whole = whole_path (names_of c.args.path.now) c.args.key.now in
    sym (ap (λ s. contains s whole) (sym c.loop-known.invariant.0)
    ∙ contains_path whole c.into_iter-known-iterator.result
    ∙ c.loop-known.invariant.1
    ∙ ap (λ ps. list_any (key_path_eq whole) (paths_of ps)) c.in-Some.ensures.steps
    ∙ ap (λ b. b || list_any (key_path_eq whole) (paths_of c.next.new.self)) (ap (λ ns. key_path_eq whole (names_of ns)) (sym c.deref.ensures.value) ∙ sym c.is_path_to.ensures ∙ c.if-is_path_to.true))

pub returns-then-is_path_to-clause-whole : goal.returns-then-is_path_to-clause-whole
returns-then-is_path_to-clause-whole c =
    let whole = whole_path (names_of c.args.path.now) c.args.key.now in
    sym (key_path_same whole (names_of c.in-Some.known.now.items)
    (ap (λ ns. key_path_eq whole (names_of ns)) (sym c.deref.ensures.value) ∙ sym c.is_path_to.ensures ∙ c.if-is_path_to.true))

pub returns-clause-known : goal.returns-clause-known
returns-clause-known c =
    let whole = whole_path (names_of c.args.path.now) c.args.key.now in
    sym (ap (λ s. contains s whole) (sym c.loop-known.invariant.0)
    ∙ contains_path whole c.into_iter-known-iterator.result
    ∙ c.loop-known.invariant.1
    ∙ ap (λ ps. list_any (key_path_eq whole) (paths_of ps)) c.in-None.ensures.steps.0)
