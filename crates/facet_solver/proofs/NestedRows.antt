-- Which sets of key paths have no gaps, and which fields one shape: the definitions, row by row.
use Rattle.std.proofs.Common.{◌≡◌, ℕ, zero, suc, false, [], ◌∷◌, ◌++◌, Option, Some, None, find, sym, ap, ◌∙◌, inl, inr, arith, codes}
use Rattle.std.proofs.lemmas.Bool.{false≢true}
use Rattle.std.specs.Cmp.Lexicographic.{slice_cmp}
use Rattle.std.specs.FinSet as set
use Rattle.std.specs.Ordering.{nat_cmp}
use Rattle.facet_solver_shape.specs.Fields.{FieldView, matches}
use Rattle.facet_solver_shape.specs.Keys.{Key, flat_key}
use Rattle.facet_solver_shape.specs.declared.resolution.key.FieldCategory.TheVariants.{Flat}
use Rattle.facet_solver_shape.proofs.Keys.{path_cmp_total}
use Rattle.facet_solver_shape.proofs.Samples.{seen_field}
use Rattle.facet_solver.specs.Resolutions.{field_at}
use Rattle.facet_solver.specs.build.Nested.{HasNoGaps, KeyPath, KeyPaths, no_paths}
use Rattle.facet_solver.specs.solver.KeyResult.{HaveShape}
use Rattle.facet_solver.proofs.SampleResolutions.{entry, only_a, values_of}

-- no key path is among none
none_has : (p : KeyPath) → set.contains no_paths p ≡ false
none_has p = set.contains-empty (slice_cmp (slice_cmp nat_cmp)) p

-- the empty path alone, and `a` `b` without `a`
abbrev empty_path : KeyPaths
empty_path = set.insert no_paths []

abbrev without_a : KeyPaths
without_a = set.insert no_paths (codes "a" ∷ codes "b" ∷ [])

-- no paths have no gap; an empty path is none, and a path goes through those that it begins with
pub no_gaps_rows :
    HasNoGaps no_paths × (¬ (HasNoGaps empty_path)) × (¬ (HasNoGaps without_a))
no_gaps_rows = (
  record {
    none_empty = none_has [];
    gone_through = λ p n has. absurd (false≢true (sym (none_has (p ++ n ∷ [])) ∙ has));
  },
  λ h. false≢true (sym h.none_empty ∙ set.contains-insert path_cmp_total no_paths [] []),
  λ h. elim (h.gone_through (codes "a" ∷ []) (codes "b") (set.contains-insert path_cmp_total no_paths (codes "a" ∷ codes "b" ∷ []) (codes "a" ∷ codes "b" ∷ []))) [
    | inl empty ↦ cc
    | inr has ↦ false≢true (sym (set.contains-insert path_cmp_total no_paths (codes "a" ∷ codes "b" ∷ []) (codes "a" ∷ []) ∙ none_has (codes "a" ∷ [])) ∙ has)
  ],
)

-- the key `a`, and what it finds of a resolution with `a`
abbrev key_a : Key
key_a = flat_key (codes "a")

found_a : field_at key_a (only_a ∷ []) 0 ≡ Some (seen_field Flat (codes "a"))
found_a = ap (find (matches key_a)) (values_of (entry (codes "a") ∷ []) tt)

-- the shape of what is found
abbrev shape_in : Option FieldView → ℕ
shape_in None = 0
shape_in (Some f) = f.shape

-- the fields that the key means have the shape 0, and not 7
pub have_shape_rows :
    HaveShape 0 key_a (only_a ∷ []) × (¬ (HaveShape 7 key_a (only_a ∷ [])))
have_shape_rows = (holds, λ h. let shape = h 0 (seen_field Flat (codes "a")) found_a in omega (arith, shape))
  where
    holds : (index : ℕ) (f : FieldView) → field_at key_a (only_a ∷ []) index ≡ Some f → f.shape ≡ 0
    holds zero f is = sym (ap shape_in (sym found_a ∙ is))
    holds (suc n) f is = let no : ⊥ = cc in absurd no
