use Rattle.std.proofs.Common.{List, [], ◌∷◌, ap, map, subst, sym, ◌∙◌}
use Rattle.std.proofs.lemmas.List.{map-append}
use Rattle.facet_solver.specs.Fields.{entry_view}
use Rattle.facet_solver.specs.Keys.{Key, key_of}
use Rattle.facet_solver_uses.specs.KeysToChoice.{keys_of}
use Rattle.facet_solver_uses.proofs.AmbiguousPairs.{UnderWay, finished, given}
use Rattle.facet_solver_uses.proofs.ambiguous_pairs.add_keys.Goals as goal

pub loop-field-preserved-in-Continue-1 : goal.loop-field-preserved-in-Continue-1
loop-field-preserved-in-Continue-1 c =
    let r = c.args.required_by.now in
    let s = c.args.other.now in
    let told = keys_of c.args.keys.now.items in
    let so_far = keys_of c.loop-field.keys.items in
    let key = c.in-Some-key_for.key in
    let rest = map (λ e. e.1) (map entry_view c.next.new.self) in
    let before = rw c.in-Some.ensures.steps at c.loop-field.invariant in
    let more = given r s told so_far c.in-Some.field.now rest before (key_of key) c.in-Some-key_for.ensures.0 c.in-Some-key_for.ensures.1 in
    subst (λ (keys : List Key). UnderWay r s told keys rest) (sym (ap keys_of c.in_ok-push-in-Some-key_for.ensures.items ∙ map-append key_of c.loop-field.keys.items (key ∷ []))) more

pub returns : goal.returns
returns c =
    finished c.args.required_by.now c.args.other.now (keys_of c.args.keys.now.items) (keys_of c.loop-field.keys.items)
    (rw c.in-None.ensures.steps.0 at c.loop-field.invariant)
