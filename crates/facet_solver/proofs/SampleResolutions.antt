-- Resolutions and schemas written out: what the rows of the solver's definitions are tried on.
use Rattle.std.proofs.Common.{◌≡◌, ℕ, zero, suc, Bool, T, List, [], ◌∷◌, map, filter, find, is_some, length, refl, sym, ap, ap₂, ◌∙◌, arith, codes}
use Rattle.std.specs.FinMap as finite
use Rattle.facet_solver_shape.specs.Fields.{FieldView, key_of_field, matches}
use Rattle.facet_solver_shape.specs.Keys.{Key, flat_key, key_cmp}
use Rattle.facet_solver_shape.specs.Names.{Name}
use Rattle.facet_solver_shape.specs.Resolved.{Resolved, nothing}
use Rattle.facet_solver_shape.specs.declared.resolution.key.FieldCategory.TheVariants.{Flat}
use Rattle.facet_solver_shape.proofs.Keys.{key_cmp_total}
use Rattle.facet_solver_shape.proofs.Samples.{seen_field}
use Rattle.facet_solver.specs.Resolutions.{has_key}
use Rattle.facet_solver.specs.schema.Schema.{SchemaView}
use Rattle.facet_solver.specs.solver.State.{new_solver, passing}
use Rattle.facet_solver.proofs.SampleBuilds.{flat, two_variants}

-- a required flat field under its key
abbrev pub entry : Name → Key × FieldView
entry name = (flat_key name, seen_field Flat name)

-- a resolution of these fields, whose keys rise
abbrev pub resolved : List (Key × FieldView) → Resolved
resolved entries = record nothing { fields = finite.from_sorted entries }

-- the fields of such a resolution
pub values_of : (entries : List (Key × FieldView)) → T (finite.is_sorted key_cmp entries)
    → finite.values (resolved entries).fields ≡ map (λ e. e.1) entries
values_of entries sorted = ap (map (λ e. e.1)) (finite.entries-from_sorted key_cmp entries sorted)

-- a list without length has nothing
empty_list : {A : Type 0} (xs : List A) → length xs ≡ 0 → xs ≡ []
empty_list [] none = refl
empty_list (x ∷ xs) none = let no : ⊥ = omega (arith, none) in absurd no

-- a single field is the only value
pub value_of_one : (f : FieldView)
    → finite.values {R = key_cmp} (finite.insert finite.empty (key_of_field f) f) ≡ f ∷ []
value_of_one f =
    let none = empty_list (finite.entries (finite.empty {X = FieldView} {R = key_cmp})) (sym (finite.len-entries finite.empty) ∙ finite.len-empty key_cmp FieldView) in
    ap (map (λ e. e.1)) (finite.entries-insert key_cmp_total finite.empty (key_of_field f) f
    ∙ ap (finite.put key_cmp (key_of_field f) f) none)

-- whether such a resolution has a key goes by its fields
pub has : (key : Key) (entries : List (Key × FieldView)) → T (finite.is_sorted key_cmp entries)
    → has_key key (resolved entries) ≡ is_some (find (matches key) (map (λ e. e.1) entries))
has key entries sorted = ap (λ fs. is_some (find (matches key) fs)) (values_of entries sorted)

-- a resolution with `a`, one with `b`, and one with both
abbrev pub only_a : Resolved
only_a = resolved (entry (codes "a") ∷ [])

abbrev pub only_b : Resolved
only_b = resolved (entry (codes "b") ∷ [])

abbrev pub both_fields : Resolved
both_fields = resolved (entry (codes "a") ∷ entry (codes "b") ∷ [])

-- a schema of two resolutions
abbrev pub two : Resolved → Resolved → SchemaView
two first second =
    record { build = flat two_variants; root = 1; resolutions = first ∷ second ∷ [] }

-- what two answers are at two indices
abbrev answers : Bool → Bool → ℕ → Bool
answers first second zero = first
answers first second (suc n) = second

-- the indices of two resolutions that pass, by whether each does
abbrev pub chosen : Bool → Bool → List ℕ
chosen first second = filter (answers first second) (0 ∷ 1 ∷ [])

-- which candidates of a new solver pass, by whether each does
pub passing_two : (test : Resolved → Bool) (r s : Resolved) {x y : Bool} → test r ≡ x → test s ≡ y
    → passing test (new_solver (two r s)) ≡ chosen x y
passing_two test r s first second = ap₂ chosen first second
