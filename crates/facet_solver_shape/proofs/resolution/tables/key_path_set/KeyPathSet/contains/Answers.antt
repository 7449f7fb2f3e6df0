use Rattle.std.proofs.Common.{◌||◌, refl, ap, sym, ◌∙◌}
use Rattle.std.specs.FinSet.{contains}
use Rattle.std.specs.List.{list_any}
use Rattle.facet_solver_shape.specs.Paths.{key_path_eq}
use Rattle.facet_solver_shape.specs.Names.{names_of}
use Rattle.facet_solver_shape.specs.Resolved.{key_paths_view}
use Rattle.facet_solver_shape.proofs.Resolved.{paths_of, contains_path}
use Rattle.facet_solver_shape.proofs.resolution.tables.key_path_set.KeyPathSet.contains.Goals as goal

pub loop-known-init : goal.loop-known-init
loop-known-init c = (ap key_paths_view c.into_iter-known-iterator.ensures.into_iter_gives.0 ∙ c.self.view_is, refl)

pub returns-then-is_path : goal.returns-then-is_path
returns-then-is_path c =
    let path = names_of c.args.path.now in
    sym (ap (λ s. contains s path) (sym c.loop-known.invariant.0)
    ∙ contains_path path c.into_iter-known-iterator.result
    ∙ c.loop-known.invariant.1
    ∙ ap (λ ps. list_any (key_path_eq path) (paths_of ps)) c.in-Some.ensures.steps
    ∙ ap (λ b. b || list_any (key_path_eq path) (paths_of c.next.new.self)) (sym c.is_path.ensures ∙ c.if-is_path.true))

pub returns : goal.returns
returns c =
    let path = names_of c.args.path.now in
    sym (ap (λ s. contains s path) (sym c.loop-known.invariant.0)
    ∙ contains_path path c.into_iter-known-iterator.result
    ∙ c.loop-known.invariant.1
    ∙ ap (λ ps. list_any (key_path_eq path) (paths_of ps)) c.in-None.ensures.steps.0)
