use Rattle.std.proofs.Common.{◌≡◌, List, ap, map, rules, subst, sym, ◌∙◌}
use Rattle.std.proofs.lemmas.List.{take_all}
use Rattle.facet_solver.specs.Keys.{key_of}
use Rattle.facet_solver.specs.Resolved.{Resolved}
use Rattle.facet_solver.specs.schema.Schema.{SchemaView}
use Rattle.facet_solver.specs.schema.ResolutionHandle.{IsHandleOf}
use Rattle.facet_solver.specs.solver.State.{State}
use Rattle.facet_solver.specs.solver.Report.{viable}
use Rattle.facet_solver.specs.declared.FieldKey.{FieldKey}
use Rattle.facet_solver_uses.specs.KeysToChoice.{keys_of}
use Rattle.facet_solver_uses.specs.LoadConfig.{NamesVariant, told}
use Rattle.facet_solver_uses.specs.Taken.{first_unknown}
use Rattle.facet_solver_uses.proofs.LoadConfig.{told_schema}
use Rattle.facet_solver_uses.proofs.SeenTag.{found}
use Rattle.facet_solver_uses.proofs.load_config.load_config.Goals as goal

pub returns-in-Some : goal.returns-in-Some
returns-in-Some c =
    let keys = c.args.keys.now in
    let schema = c.args.schema.now in
    let tag = c.args.tag.now in
    let variant = c.args.variant.now in
    let handle = c.in_ok-handle.handle in
    let same : c.loop-key.solver ≡ told schema tag variant (keys_of keys) =
    c.loop-key.invariant ∙ ap (λ (ks : List FieldKey). told schema tag variant (map key_of ks)) (take_all c.loop-key.key-index keys c.loop-key-test.false) in
    let named : NamesVariant schema tag variant = search rules in
    let alone = ap viable (sym same) ∙ c.in_ok-handle.ensures.index in
    let there = subst (λ (s : SchemaView). IsHandleOf s handle) (ap (λ (s : State). s.schema) same ∙ told_schema schema tag variant (keys_of keys)) c.in_ok-handle.ensures.handle in
    let known = ap (λ (r : Resolved). first_unknown r (keys_of keys)) (sym c.resolution.ensures) ∙ sym c.in-Some.ensures in
    (handle, found schema tag variant (keys_of keys) handle named alone there, known)

pub returns-in-None : goal.returns-in-None
returns-in-None c =
    let keys = c.args.keys.now in
    let schema = c.args.schema.now in
    let tag = c.args.tag.now in
    let variant = c.args.variant.now in
    let handle = c.in_ok-handle.handle in
    let same : c.loop-key.solver ≡ told schema tag variant (keys_of keys) =
    c.loop-key.invariant ∙ ap (λ (ks : List FieldKey). told schema tag variant (map key_of ks)) (take_all c.loop-key.key-index keys c.loop-key-test.false) in
    let named : NamesVariant schema tag variant = search rules in
    let alone = ap viable (sym same) ∙ c.in_ok-handle.ensures.index in
    let there = subst (λ (s : SchemaView). IsHandleOf s handle) (ap (λ (s : State). s.schema) same ∙ told_schema schema tag variant (keys_of keys)) c.in_ok-handle.ensures.handle in
    let known = ap (λ (r : Resolved). first_unknown r (keys_of keys)) (sym c.resolution.ensures) ∙ sym c.in-None.ensures in
    (found schema tag variant (keys_of keys) handle named alone there, known)
