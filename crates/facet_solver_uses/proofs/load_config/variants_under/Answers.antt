use Rattle.std.proofs.Common.{◌≡◌, List, [], ◌++◌, Bor, Option, None, ap, append-nil, refl, sym, take, ◌∙◌}
use Rattle.std.specs.List.{cons_option}
use Rattle.std.specs.Option.{option_map}
use Rattle.std.proofs.lemmas.List.{take_all}
use Rattle.facet_solver.specs.Names.{Name, names_of}
use Rattle.facet_solver.specs.schema.ResolutionHandle.{resolution_of}
use Rattle.facet_solver.specs.solver.Tag.{variant_under}
use Rattle.facet_solver.specs.declared.ResolutionHandle.{ResolutionHandle}
use Rattle.facet_solver_uses.specs.LoadConfig.{each_once}
use Rattle.facet_solver_uses.proofs.LoadConfig.{name_told, names_more, variants_at, variants_of_handles}
use Rattle.facet_solver_uses.proofs.load_config.variants_under.Goals as goal
use Rattle.facet_solver_uses.proofs.load_config.variants_under.Goals.{in-Some+in_ok-push_new, in_default}

pub loop-handle-preserved : goal.loop-handle-preserved
loop-handle-preserved c =
    let tag = c.args.tag.now in
    let handles = c.deref-handle-items.result.now in
    let i = c.loop-handle.handle-index in
    let d = c.handle-item.result in
    let names = c.loop-handle.names.items in
    let before = c.loop-handle.invariant in
    let so_far = variants_of_handles tag (take i handles) in
    let is = c.variant_under.ensures ∙ ap (variant_under tag) (c.resolution.ensures ∙ ap resolution_of c.handle-item.is) in
    let more = names_more tag handles i d c.variant_under.result c.loop-handle-test.true is in
    let by_found = λ (found : Option (Bor Name)). each_once (so_far ++ cons_option (option_map (λ v. v.now) found) []) in
    elim c.match-variant_under.branch [
      | in-Some+in_ok-push_new w ↦
          let variant = w.in-Some.variant in
          let pushed = w.in_ok-push_new.ensures in
          rw (w.names-is, w.known-is) (record {
            told =
                ap names_of pushed.names ∙ name_told so_far names variant _ refl before.told
                ∙ sym (more ∙ ap by_found w.in-Some.is);
            known = pushed.known;
          })
      | in_default w ↦
          let none : c.variant_under.result ≡ None = cc in
          rw (w.names-is, w.known-is) (record {
            told = before.told ∙ sym (more ∙ ap by_found none ∙ ap each_once (append-nil so_far));
            known = before.known;
          })
    ]

pub returns : goal.returns
returns c =
    let tag = c.args.tag.now in
    let handles = c.deref-handle-items.result.now in
    let s = c.args.solver.now in
    c.loop-handle.invariant.told
    ∙ ap (λ (hs : List ResolutionHandle). each_once (variants_of_handles tag hs)) (take_all c.loop-handle.handle-index handles c.loop-handle-test.false ∙ c.deref-handle-items.ensures.value)
    ∙ ap each_once (variants_at tag s.schema c.in_ok-handles.handles.items s.candidates c.in_ok-handles.ensures.indices c.in_ok-handles.ensures.handles)
