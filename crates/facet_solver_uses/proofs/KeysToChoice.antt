-- Keys that are seen one after another, and what the end of a solver says of a choice.
use Rattle.std.proofs.Common.{◌≡◌, ℕ, zero, suc, arith, subst, ◌+◌, ◌<◌, ◌≤◌, List, [], ◌∷◌, ◌++◌, ap, sym, ◌∙◌, get_or, length, map, take}
use Rattle.std.specs.Prelude.{Result, Ok, Err, Contains, Some, slice_get}
use Rattle.std.proofs.lemmas.List.{map-append, take_all, take_more}
use Rattle.facet_solver.specs.build.Build.{Build}
use Rattle.facet_solver.specs.build.Choice.{ListsChoices}
use Rattle.facet_solver.specs.solver.Found.{GivesOrNames}
use Rattle.facet_solver.specs.Keys.{Key}
use Rattle.facet_solver.specs.Names.{Name}
use Rattle.facet_solver.specs.Resolved.{Resolved, description}
use Rattle.facet_solver.specs.schema.Schema.{IsBuilt, IsOwnBuild, SchemaView}
use Rattle.facet_solver.specs.solver.State.{State, new_solver, see_key}
use Rattle.facet_solver.specs.solver.Told.{EndsWithOrNames, TellsChoice, see_keys}
use Rattle.facet_solver.specs.declared.ResolutionHandle.{ResolutionHandle}
use Rattle.facet_solver.specs.declared.SolverError.{SolverError}
use Rattle.facet_solver.specs.declared.SolverError.TheVariants.{OutOfMemory}
use Rattle.facet_solver_uses.specs.KeysToChoice.{FindsChoice, UnlessOutOfMemory}

-- one more key, whatever it is the key of
pub see_keys_more : {X : Type 0} (one_by_one : (keys : List Key) (key : Key) (s : State) → see_keys (keys ++ key ∷ []) s ≡ see_key key (see_keys keys s)) (key : X → Key) (xs : List X) (i : ℕ) (d : X) (s before after : State) → i < length xs → before ≡ see_keys (map key (take i xs)) s → after ≡ see_key (key (get_or xs i d)) before → after ≡ see_keys (map key (take (i + 1) xs)) s
see_keys_more {X} one_by_one key xs i d s before after low so_far more =
    more
    ∙ ap (see_key (key (get_or xs i d))) so_far
    ∙ sym (ap (λ (ys : List X). see_keys (map key ys) s) (take_more xs i d low)
    ∙ ap (λ ks. see_keys ks s) (map-append key (take i xs) (get_or xs i d ∷ []))
    ∙ one_by_one (map key (take i xs)) (key (get_or xs i d)) s)

-- what stands at a place of a list is in it
pub at_place : {X : Type 0} (xs : List X) (i : ℕ) (x : X) → slice_get xs i ≡ Some x → Contains xs x
at_place [] i x e = absurd (cc)
at_place (y ∷ xs) zero x e = (0, omega arith, cc)
at_place (y ∷ xs) (suc i) x e = let r = at_place xs i x e in (suc r.0, omega (arith, r.1), r.2)

-- what holds of an answer holds unless it says that memory ran out
unless_out_of_memory : (Holds : Result ResolutionHandle SolverError → Type 0) (answer : Result ResolutionHandle SolverError) → Holds answer → UnlessOutOfMemory Holds answer
unless_out_of_memory Holds (Err OutOfMemory) h = tt
unless_out_of_memory Holds (Ok handle) h = h
unless_out_of_memory Holds (Err _) h = h

-- the end of a solver that was told some keys finds the choice that they tell
pub finds_choice : (schema : SchemaView) (keys : List Key) (s : State) (answer : Result ResolutionHandle SolverError)
    → s ≡ see_keys keys (new_solver schema)
    → (IsOwnBuild schema → (choices : List (List ℕ)) → ListsChoices schema.build schema.root choices → (index : ℕ) (choice : List ℕ) → slice_get choices index ≡ Some choice → (told : List Key) (r : Resolved) → TellsChoice schema.build schema.root choice told r → EndsWithOrNames (see_keys told (new_solver schema)) index (description r.selections))
    → ((index : ℕ) (text : Name) → EndsWithOrNames s index text → GivesOrNames s index text answer)
    → FindsChoice schema keys answer
finds_choice schema keys s answer same ends found build root built choices listed index choice at r told =
    let text = description r.selections in
    let of_own = ends (moved (λ b n. IsBuilt b n schema) built) choices (moved (λ b n. ListsChoices b n choices) listed) index choice at keys r (moved (λ b n. TellsChoice b n choice keys r) told) in
    unless_out_of_memory (GivesOrNames (see_keys keys (new_solver schema)) index text) answer
    (subst (λ (t : State). GivesOrNames t index text answer) same
    (found index text (subst (λ (t : State). EndsWithOrNames t index text) (sym same) of_own)))
  where
    moved : (P : Build → ℕ → Type 0) → P build root → P schema.build schema.root
    moved P h = subst (λ (n : ℕ). P schema.build n) (sym built.has_root) (subst (λ (b : Build). P b root) (sym built.made_by) h)

-- all of some things were seen
pub all_seen : {X : Type 0} (key : X → Key) (xs : List X) (i : ℕ) (s start : State) → length xs ≤ i → s ≡ see_keys (map key (take i xs)) start → s ≡ see_keys (map key xs) start
all_seen {X} key xs i s start past so_far =
    so_far ∙ ap (λ (ys : List X). see_keys (map key ys) start) (take_all i xs past)
