-- Calls of a solver as values, and what a run of them leaves.
use Rattle.std.specs.Prelude.{◌≡◌, ◌++◌, ℕ, List, Some, fold, map, slice_get}
use Rattle.facet_solver_shape.specs.Keys.{Key, key_of}
use Rattle.facet_solver_shape.specs.Names.{Name, names_of}
use Rattle.facet_solver_shape.specs.Resolved.{description, Resolved}
use Rattle.facet_solver.specs.build.Choice.{ListsChoices}
use Rattle.facet_solver.specs.solver.Probe as probe
use Rattle.facet_solver.specs.solver.ShapeAtPath as at_path
use Rattle.facet_solver.specs.solver.State as state
use Rattle.facet_solver.specs.solver.State.{State, new_solver}
use Rattle.facet_solver.specs.solver.Tag as tag_calls
use Rattle.facet_solver.specs.solver.Told.{EndsWithOrNames, TellsChoice, see_keys}
use Rattle.facet_solver.specs.declared.solver.run.Call.{Call}
use Rattle.facet_solver.specs.declared.solver.run.Call.TheVariants.{SeeKey, MarkSeen, SatisfyShapes, SatisfyAtPath, ProbeKey, HintVariant, HintVariantForTag, SeeTag}

-- a call, wherever its names lie
pub data CallView : Type 0 where
  see_key : Key → CallView
  mark_seen : Key → CallView
  satisfy_shapes : List ℕ → CallView
  satisfy_at_path : List Name → List ℕ → CallView
  probe_key : List Name → Name → CallView
  hint_variant : Name → CallView
  hint_variant_for_tag : Name → Name → CallView
  see_tag : Name → Name → CallView

-- what a call says
abbrev pub call_view : Call → CallView
call_view (SeeKey key) = see_key (key_of key)
call_view (MarkSeen key) = mark_seen (key_of key)
call_view (SatisfyShapes shapes) = satisfy_shapes shapes.now
call_view (SatisfyAtPath path shapes) = satisfy_at_path (names_of path.now) shapes.now
call_view (ProbeKey path key) = probe_key (names_of path.now) key.now
call_view (HintVariant name) = hint_variant name.now
call_view (HintVariantForTag tag name) = hint_variant_for_tag tag.now name.now
call_view (SeeTag tag name) = see_tag tag.now name.now

-- what calls say
abbrev pub call_views : List Call → List CallView
call_views calls = map call_view calls

-- what a call leaves of a state
abbrev pub after_call : CallView → State → State
after_call (see_key key) s = state.see_key key s
after_call (mark_seen key) s = state.mark_seen key s
after_call (satisfy_shapes shapes) s = state.satisfy_shapes shapes s
after_call (satisfy_at_path path shapes) s = at_path.satisfy_at_path path shapes s
after_call (probe_key path key) s = probe.probe_key path key s
after_call (hint_variant name) s = state.hint_variant name s
after_call (hint_variant_for_tag tag name) s = state.hint_variant_for_tag tag name s
after_call (see_tag tag name) s = tag_calls.see_tag tag name s

-- what calls leave that are made one after another
abbrev pub after_calls : List CallView → State → State
after_calls calls s = fold (λ now call. after_call call now) s calls

-- a new solver that saw some keys earlier, and sees more by these calls, ends with the choice whose
-- keys all of these are, or names it
pub record FindsToldChoices (calls : List CallView) (before after : State) : Type 0 where
  pub ends : (earlier keys : List Key) → before ≡ see_keys earlier (new_solver before.schema)
      → calls ≡ map see_key keys
      → (choices : List (List ℕ)) → ListsChoices before.schema.build before.schema.root choices
      → (index : ℕ) (choice : List ℕ) → slice_get choices index ≡ Some choice
      → (r : Resolved)
      → TellsChoice before.schema.build before.schema.root choice (earlier ++ keys) r
      → EndsWithOrNames after index (description r.selections)
