use Rattle.std.proofs.Common.{Bool, List, map, ap, refl, sym, ◌∙◌, string_bytes}
use Rattle.facet_solver_shape.specs.declared.resolution.key.FieldKey.{FieldKey}
use Rattle.facet_solver_shape.specs.Keys.{Key, key_of}
use Rattle.facet_solver_shape.specs.Names.{Name}
use Rattle.facet_solver.specs.solver.Failure.{names_where}
use Rattle.facet_solver.proofs.Left.{left_end, left_none, left_one, left_start, map_pushed}
use Rattle.facet_solver.proofs.SeenNames.{name_left, name_taken}
use Rattle.facet_solver.proofs.solver.report.names.names_where.Goals as goal

abbrev taken : (Key → Bool) → List FieldKey → List Name
taken test keys = names_where test (map key_of keys)

pub loop-key-init : goal.loop-key-init
loop-key-init g c =
    left_start (taken (g.T.KeyTest.is_passed c.args.test)) (map string_bytes c.new-names.result.items) _ c.args.seen.now.keys
    (ap (map string_bytes) c.new-names.ensures.items) c.into_iter-key-iterator.ensures.into_iter_gives.0

pub loop-key-preserved-in_ok-push : goal.loop-key-preserved-in_ok-push
loop-key-preserved-in_ok-push g c =
    let test = g.T.KeyTest.is_passed c.args.test in
    let key = c.in-Some.key.now in
    left_one (taken test) (map string_bytes c.loop-key.names.items) c.loop-key.key-iterator _ key _ c.loop-key.invariant c.in-Some.ensures.steps
    _ (key_of key).name
    (map_pushed string_bytes c.loop-key.names.items _ c.in_ok-from_str.field-0 _ c.in_ok-push.ensures.items (c.in_ok-from_str.ensures.ok ∙ c.name.ensures))
    (name_taken test (key_of key) _ (sym c.is_passed.ensures ∙ c.if-is_passed.true))

pub loop-key-preserved : goal.loop-key-preserved
loop-key-preserved g c =
    let test = g.T.KeyTest.is_passed c.args.test in
    let key = c.in-Some.key.now in
    left_none (taken test) (map string_bytes c.loop-key.names.items) c.loop-key.key-iterator _ key _ c.loop-key.invariant c.in-Some.ensures.steps
    (name_left test (key_of key) _ (sym c.is_passed.ensures ∙ c.if-is_passed.false))

pub returns : goal.returns
returns g c =
    left_end (taken (g.T.KeyTest.is_passed c.args.test)) (map string_bytes c.loop-key.names.items) c.loop-key.key-iterator _
    c.loop-key.invariant c.in-None.ensures.steps.0 refl
