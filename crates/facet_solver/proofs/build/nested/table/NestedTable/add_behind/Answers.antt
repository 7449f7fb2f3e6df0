use Rattle.std.proofs.Common.{◌≡◌, ◌∷◌, ◌++◌, [], ◌∙◌, Bor, List, ap}
use Rattle.facet_solver_shape.specs.Names.{Name, names_of}
use Rattle.facet_solver.specs.build.Nested.{KeyPath, with_paths_behind}
use Rattle.facet_solver.specs.build.NestedTable.{paths_by_name}
use Rattle.facet_solver.proofs.NestedTable.{on_ok}
use Rattle.facet_solver.proofs.build.nested.table.NestedTable.add_behind.Goals as goal

pub returns : goal.returns
returns c =
    let r = c.args.resolution.now in
    let name = c.args.name.now in
    let path : names_of c.push.new.self.items ≡ name ∷ [] =
    ap names_of (c.in_ok-push.ensures.items ∙ ap (λ (ns : List (Bor Name)). ns ++ c.args.name ∷ []) c.in_ok-prefix.ensures.items) in
    on_ok c.add_paths.result
    (λ paths under stand.
    paths under stand ∙ ap (λ (p : KeyPath). with_paths_behind r p (paths_by_name under c.args.fields.now)) path)
    c.add_paths.ensures.paths
