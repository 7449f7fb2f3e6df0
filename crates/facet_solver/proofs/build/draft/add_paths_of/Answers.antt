use Rattle.std.proofs.Common.{List, ap, sym, ◌∙◌}
use Rattle.facet_solver_shape.specs.Names.{Name, names_of}
use Rattle.facet_solver_shape.specs.Resolved.{Resolved, with_key_path}
use Rattle.facet_solver.specs.build.Draft.{paths_of}
use Rattle.facet_solver.specs.build.Nested.{KeyPath, with_key_paths}
use Rattle.facet_solver.proofs.Draft.{named-last, named-none, names_none, names_popped}
use Rattle.facet_solver.proofs.build.draft.add_paths_of.Goals as goal

pub loop-name-preserved : goal.loop-name-preserved
loop-name-preserved c =
    let r = c.loop-name.resolution in
    let name = c.in-Some.name.now in
    let rest = c.pop.new.self.items in
    let popped = names_popped c.loop-name.names.items rest c.pop.result c.in-Some.name c.pop.ensures.items c.in-Some.is in
    let added = c.in_ok-add_key_path.ensures.ok ∙ ap (λ (p : KeyPath). with_key_path r p) c.in_ok-one_name_path.ensures in
    ap (λ (s : Resolved). with_key_paths s (paths_of (names_of rest))) added
    ∙ sym (named-last r (names_of rest) name)
    ∙ ap (λ (ns : List Name). with_key_paths r (paths_of ns)) (sym popped)
    ∙ c.loop-name.invariant

pub returns : goal.returns
returns c =
    let r = c.loop-name.resolution in
    let none = names_none c.loop-name.names.items (sym c.loop-name.names.ok.0 ∙ c.in_default.ensures.cases.0) in
    sym (named-none r)
    ∙ ap (λ (ns : List Name). with_key_paths r (paths_of ns)) (sym none)
    ∙ c.loop-name.invariant
