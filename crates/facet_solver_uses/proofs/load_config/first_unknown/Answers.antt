use Rattle.std.proofs.Common.{[], List, ap, get_or, map, not, sym, ◌∙◌}
use Rattle.std.specs.List.{list_all}
use Rattle.std.proofs.lemmas.List.{take_all}
use Rattle.facet_solver.specs.Keys.{key_of}
use Rattle.facet_solver.specs.declared.FieldKey.{FieldKey}
use Rattle.facet_solver.specs.declared.FieldKey.TheVariants.{Flat}
use Rattle.facet_solver_uses.specs.Taken.{is_taken, taker_of}
use Rattle.facet_solver_uses.proofs.FirstUnknown.{asked, key_at, none_unknown, taken_before, unknown_at}
use Rattle.facet_solver_uses.proofs.load_config.first_unknown.Goals as goal

pub returns-then-is_none : goal.returns-then-is_none
returns-then-is_none c =
    let nothing : FieldKey = Flat record { ref_ptr = (0, 0); now = [] } in
    let r = c.args.resolution.now in
    let keys = c.args.keys.now in
    let i = c.loop-key.key-index in
    let key = key_of (get_or keys i nothing) in
    let unknown = asked c.taker_of.result (taker_of key r) c.is_none.result c.taker_of.ensures c.is_none.ensures ∙ ap not c.if-is_none.true in
    sym (unknown_at r (map key_of keys) i key (taken_before r keys i c.loop-key.invariant) (key_at keys i nothing c.loop-key-test.true) unknown)

pub returns : goal.returns
returns c =
    let r = c.args.resolution.now in
    let keys = c.args.keys.now in
    let all = ap (λ (ks : List FieldKey). list_all (λ key. is_taken key r) (map key_of ks)) (sym (take_all c.loop-key.key-index keys c.loop-key-test.false)) ∙ c.loop-key.invariant in
    sym (none_unknown r (map key_of keys) all)
