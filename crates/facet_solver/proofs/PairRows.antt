-- Which resolutions keys leave viable together: the definitions, row by row.
use Rattle.std.proofs.Common.{◌≡◌, Bool, true, false, List, [], ◌∷◌, Contains, filter, find, is_some, length, refl, sym, ap, ap₂, subst, ◌∙◌, arith, codes}
use Rattle.std.proofs.lemmas.Bool.{false≢true}
use Rattle.std.specs.Cmp.Lexicographic.{nat_list_eq_equiv}
use Rattle.std.specs.List.{AllByRecursion}
use Rattle.facet_solver_shape.specs.Fields.{matches}
use Rattle.facet_solver_shape.specs.Keys.{Key, flat_key}
use Rattle.facet_solver_shape.specs.Names.{name_eq}
use Rattle.facet_solver_shape.specs.declared.resolution.key.FieldCategory.TheVariants.{Flat}
use Rattle.facet_solver_shape.proofs.Samples.{seen_field}
use Rattle.facet_solver.specs.Resolutions.{has_key, passes}
use Rattle.facet_solver.specs.schema.Schema.{SchemaView}
use Rattle.facet_solver.specs.solver.Pairs.{CanBothBeViable, HasKeyFor, HasKeysRequiredBy, LeavesBothViable}
use Rattle.facet_solver.specs.solver.Report.{is_viable, viable}
use Rattle.facet_solver.specs.solver.State.{State, new_solver, or_all, see_key}
use Rattle.facet_solver.specs.solver.Told.{see_keys}
use Rattle.facet_solver.proofs.ReportRows.{viable_rows}
use Rattle.facet_solver.proofs.SampleBuilds.{flat, two_variants}
use Rattle.facet_solver.proofs.SampleResolutions.{both_fields, chosen, entry, has, only_a, only_b, passing_two, two, values_of}

-- the key of `a`
abbrev key_a : Key
key_a = flat_key (codes "a")

-- what is viable of two resolutions with `a`, once `a` is seen
both_viable : viable (see_keys (key_a ∷ []) (new_solver (two only_a only_a))) ≡ 0 ∷ 1 ∷ []
both_viable =
    let left = ap (λ left. or_all left (0 ∷ 1 ∷ [])) (passing_two (has_key key_a) only_a only_a (has key_a _ tt) (has key_a _ tt)) in
    ap (filter (passes (is_viable (key_a ∷ [])) (only_a ∷ only_a ∷ []))) left
    ∙ ap₂ chosen viable_rows.0 viable_rows.0

-- both are
pub leaves_both_holds : LeavesBothViable (two only_a only_a) (key_a ∷ []) 0 1
leaves_both_holds = record {
  first_viable = subst (λ left. Contains left 0) (sym both_viable) (0, omega arith, refl);
  second_viable = subst (λ left. Contains left 1) (sym both_viable) (1, omega arith, refl);
}

-- a schema without resolutions
abbrev none : SchemaView
none = record { build = flat two_variants; root = 0; resolutions = [] }

-- no key brings a candidate back
no_candidate : (keys : List Key) (s : State) → s.candidates ≡ []
    → (see_keys keys s).candidates ≡ []
no_candidate [] s is = is
no_candidate (key ∷ keys) s is =
    no_candidate keys (see_key key s) (ap (λ left. or_all (filter (passes (has_key key) s.schema.resolutions) left) left) is)

-- where there are no resolutions no two are viable, whatever is seen
pub leaves_both_fails :
    ((keys : List Key) → ¬ (LeavesBothViable none keys 0 1)) × (¬ (CanBothBeViable none 0 1))
leaves_both_fails = (fails, λ can. fails can.keys can.leaves)
  where
    fails : (keys : List Key) → ¬ (LeavesBothViable none keys 0 1)
    fails keys h =
        let s = see_keys keys (new_solver none) in
        let left = ap (λ left. length (filter (passes (is_viable s.seen) s.schema.resolutions) left)) (no_candidate keys (new_solver none) refl) in
        let within = h.first_viable.1 in
        omega (arith, left, within)

-- two resolutions with `a` can both be viable
pub can_both_holds : CanBothBeViable (two only_a only_a) 0 1
can_both_holds = record { keys = key_a ∷ []; leaves = leaves_both_holds }

-- a resolution with `a` has a key for the field `a`
pub key_for_holds : HasKeyFor only_a (seen_field Flat (codes "a"))
key_for_holds = record { key = key_a; means = refl; has = has key_a (entry (codes "a") ∷ []) tt }

-- what is found of one key among fields of `a` alone
named_a : (key : Key) → has_key key only_a ≡ true → name_eq key.name (codes "a") ≡ true
named_a key h = go (name_eq key.name (codes "a")) refl (sym (has key (entry (codes "a") ∷ []) tt) ∙ h)
  where
    go : (b : Bool) → name_eq key.name (codes "a") ≡ b
        → is_some (find (matches key) (seen_field Flat (codes "a") ∷ [])) ≡ true → b ≡ true
    go true is found = refl
    go false is found = is_some_rewritten is found
      where
        is_some_rewritten : name_eq key.name (codes "a") ≡ false
            → is_some (find (matches key) (seen_field Flat (codes "a") ∷ [])) ≡ true → false ≡ true
        is_some_rewritten is found = ap (λ b. is_some (find (λ f. b) (seen_field Flat (codes "a") ∷ []))) (sym is) ∙ found

-- and none for a field `b`
pub key_for_fails : ¬ (HasKeyFor only_a (seen_field Flat (codes "b")))
key_for_fails h =
    false≢true (sym (nat_list_eq_equiv.congr h.key.name (codes "a") (codes "b") (named_a h.key h.has)) ∙ h.means)

-- both fields have what `a` requires, and `a` not what `b` does
pub required_rows :
    HasKeysRequiredBy only_a both_fields × (¬ (HasKeysRequiredBy only_b only_a))
required_rows = (
  subst (AllByRecursion (λ f. f.is_required ≡ true → HasKeyFor both_fields f)) (sym (values_of (entry (codes "a") ∷ []) tt)) ((λ is. record { key = key_a; means = refl; has = has key_a (entry (codes "a") ∷ entry (codes "b") ∷ []) tt }), tt),
  λ h. key_for_fails ((subst (AllByRecursion (λ f. f.is_required ≡ true → HasKeyFor only_a f)) (values_of (entry (codes "b") ∷ []) tt) h).0 refl),
)
