-- What a run of calls leaves.
use Rattle.std.proofs.Common.{◌≡◌, ℕ, ◌+◌, ◌<◌, ◌≤◌, true, ◌&&◌, ◌++◌, filter, List, [], ◌∷◌, get_or, length, map, subst, take, ap, sym, ◌∙◌}
use Rattle.std.proofs.lemmas.List.{map-append, take_all, take_more}
use Rattle.std.proofs.lemmas.List.Folds.{fold-map}
use Rattle.std.proofs.lemmas.List.Sums.{fold-append, fold_push}
use Rattle.facet_solver_shape.specs.Keys.{Key, flat_key}
use Rattle.facet_solver_shape.specs.Resolved.{description}
use Rattle.facet_solver.specs.solver.Run.{after_call, after_calls, call_view, call_views, CallView, FindsToldChoices, see_key, mark_seen, satisfy_shapes, satisfy_at_path, probe_key, hint_variant, hint_variant_for_tag, see_tag}
use Rattle.facet_solver.specs.KeyPath.{has_key_at}
use Rattle.facet_solver.specs.schema.Schema.{IsOwnBuild, SchemaView}
use Rattle.facet_solver.specs.solver.ShapeAtPath.{has_shape_at_path}
use Rattle.facet_solver.specs.solver.State as state
use Rattle.facet_solver.specs.solver.State.{State, has_shape_among, has_tag_field, passing, selects_variant, where_any}
use Rattle.facet_solver.specs.solver.Tag.{has_no_other_under, has_variant_under}
use Rattle.facet_solver.specs.Resolutions.{has_key}
use Rattle.facet_solver.specs.solver.Told.{see_keys, EndsWithOrNames, LeavesSome}
use Rattle.facet_solver.proofs.IndexSet.{filter_filter}
use Rattle.facet_solver.proofs.Told.{all_stay, choice_ends, narrow_leaves, retain_leaves}
use Rattle.facet_solver.specs.declared.solver.run.Call.{Call}

-- one more call
pub after_calls_more : (calls : List Call) (i : ℕ) (d : Call) (s : State) → i < length calls → after_calls (call_views (take (i + 1) calls)) s ≡ after_call (call_view (get_or calls i d)) (after_calls (call_views (take i calls)) s)
after_calls_more calls i d s low =
    ap (λ cs. after_calls (call_views cs) s) (take_more calls i d low)
    ∙ ap (λ cs. after_calls cs s) (map-append call_view (take i calls) (get_or calls i d ∷ []))
    ∙ fold_push (λ now call. after_call call now) s (call_views (take i calls)) (call_view (get_or calls i d))

-- calls that see keys alone
pub only_keys : (calls : List CallView) (keys : List Key) (s : State) → calls ≡ map see_key keys → after_calls calls s ≡ see_keys keys s
only_keys calls keys s same = ap (λ cs. after_calls cs s) same ∙ fold-map (λ now call. after_call call now) see_key s keys

-- a run of them, from its state
pub told_from : (calls : List CallView) (before after : State) → after ≡ after_calls calls before → (keys : List Key) → calls ≡ map see_key keys → after ≡ see_keys keys before
told_from calls before after is keys only = is ∙ only_keys calls keys before only

-- the schema that a state is made of is its own build
pub built_in : (schema : SchemaView) (candidates : List ℕ) (seen : List Key) (s : State) → IsOwnBuild schema → record { schema = schema; candidates = candidates; seen = seen } ≡ s → IsOwnBuild s.schema
built_in schema candidates seen s built same = subst (λ (t : State). IsOwnBuild t.schema) same built

-- and where it tells a choice, with the keys that were seen earlier
pub found_from : (calls : List CallView) (before after : State) → IsOwnBuild before.schema → after ≡ after_calls calls before → FindsToldChoices calls before after
found_from calls before after built is = record {
  ends = λ earlier keys new only choices listed index choice at r told.
      subst (λ (s : State). EndsWithOrNames s index (description r.selections))
      (fold-append (λ now key. state.see_key key now) (state.new_solver before.schema) earlier keys
      ∙ sym (told_from calls before after is keys only ∙ ap (see_keys keys) new))
      (choice_ends before.schema built choices listed index choice at (earlier ++ keys) r told);
}

-- also of a run that made all calls
pub found_of_all : (calls : List Call) (made : ℕ) (before after : State) → IsOwnBuild before.schema → length calls ≤ made → after ≡ after_calls (call_views (take made calls)) before → FindsToldChoices (call_views calls) before after
found_of_all calls made before after built all is =
    found_from (call_views calls) before after built (is ∙ ap (λ cs. after_calls (call_views cs) before) (take_all made calls all))

-- ---- no call adds a candidate
pub call_leaves : (call : CallView) (s : State) → LeavesSome s.candidates (after_call call s).candidates
call_leaves (see_key key) s =
    let some = narrow_leaves (has_key key) (state.mark_seen key s) in
    record { stays = some.stays; left = some.left }
call_leaves (mark_seen key) s = record { stays = λ i. true; left = all_stay s.candidates }
call_leaves (satisfy_shapes shapes) s = retain_leaves (has_shape_among shapes) s
call_leaves (satisfy_at_path path shapes) s = retain_leaves (has_shape_at_path s.schema.build.catalogue path shapes) s
call_leaves (probe_key path key) s = retain_leaves (has_key_at path key) s
call_leaves (hint_variant name) s = narrow_leaves (selects_variant name) s
call_leaves (hint_variant_for_tag tag name) s = go (passing (has_tag_field s.schema.build.catalogue tag) s)
  where
    go : (found : List ℕ) → LeavesSome s.candidates (where_any found (state.hint_variant name s) s).candidates
    go [] = record { stays = λ i. true; left = all_stay s.candidates }
    go (i ∷ rest) = narrow_leaves (selects_variant name) s
call_leaves (see_tag tag name) s =
    let seen = state.see_key (flat_key tag) s in
    let first = narrow_leaves (has_key (flat_key tag)) (state.mark_seen (flat_key tag) s) in
    let later = go seen (passing (has_variant_under tag name) seen) in
    record {
      stays = λ i. first.stays i && later.stays i;
      left = later.left ∙ ap (filter later.stays) first.left ∙ filter_filter first.stays later.stays s.candidates;
    }
  where
    go : (t : State) (found : List ℕ) → LeavesSome t.candidates (where_any found (state.retain (has_no_other_under tag name) t) t).candidates
    go t [] = record { stays = λ i. true; left = all_stay t.candidates }
    go t (i ∷ rest) = retain_leaves (has_no_other_under tag name) t

-- so no run does
pub calls_leave : (calls : List CallView) (s : State) → LeavesSome s.candidates (after_calls calls s).candidates
calls_leave [] s = record { stays = λ i. true; left = all_stay s.candidates }
calls_leave (call ∷ calls) s =
    let first = call_leaves call s in
    let later = calls_leave calls (after_call call s) in
    record {
      stays = λ i. first.stays i && later.stays i;
      left = later.left ∙ ap (filter later.stays) first.left ∙ filter_filter first.stays later.stays s.candidates;
    }
