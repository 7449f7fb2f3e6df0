use Rattle.std.proofs.Common.{◌≡◌, List, ap, arith, false, length, sym, ◌∙◌}
use Rattle.std.specs.List.{list_any}
use Rattle.std.proofs.lemmas.List.{length-map, take_all}
use Rattle.facet_solver.specs.Fields.{FieldView}
use Rattle.facet_solver.specs.Keys.{key_of}
use Rattle.facet_solver.specs.declared.FieldKey.{FieldKey}
use Rattle.facet_solver_uses.specs.AmbiguousPairs.{keys_for, serves}
use Rattle.facet_solver_uses.specs.KeysToChoice.{keys_of}
use Rattle.facet_solver_uses.proofs.AmbiguousPairs.{none_serves}
use Rattle.facet_solver_uses.proofs.ambiguous_pairs.key_for.Goals as goal

pub returns : goal.returns
returns c h =
    let r = c.args.resolution.now in
    let f = c.args.field.now in
    let keys = c.keys_for-keys.result in
    let ten : length keys ≡ 10 = sym (length-map keys key_of) ∙ ap length c.keys_for-keys.ensures in
    let tried : list_any (serves r f) (keys_of keys) ≡ false =
    ap (λ (ks : List FieldKey). list_any (serves r f) (keys_of ks)) (sym (take_all c.loop-key.key-index keys (omega (arith, ten, c.loop-key-test.false)))) ∙ c.loop-key.invariant in
    let named = ap (λ (v : FieldView). keys_for v.name) c.field.view_is in
    none_serves r f (ap (list_any (serves r f)) (sym named ∙ sym c.keys_for-keys.ensures) ∙ tried) h
