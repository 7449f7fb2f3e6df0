-- The ids of uses, one after the other.
use Rattle.std.proofs.Common.{◌≡◌, Bool, true, false, ◌||◌, cond, List, [], ◌∷◌, ◌++◌, refl, sym, ap, ◌∙◌}
use Rattle.std.specs.BTreeMap.{is_at}
use Rattle.std.specs.BTreeSet.{BTreeSet, IsEmpty, UpdatesBy, contains_text}
use Rattle.std.specs.Cmp.Lexicographic.{slice_cmp}
use Rattle.std.specs.List.{list_any}
use Rattle.std.specs.Ordering.{nat_cmp}
use Rattle.std.specs.Str.{bytes_eq}
use Rattle.std.specs.String.{string_bytes, string_cmp}
use Rattle.std.specs.declared.alloc.Global.{Global}
use Rattle.std.specs.declared.string.String.{String}
use Rattle.std.proofs.Math.Bool.{or-true}
use Rattle.std.proofs.lemmas.List.Folds.{list_any-append}
use Rattle.std.proofs.lemmas.Map.Text.{btree_set_updates_text}
use Rattle.facet_solver_shape.specs.Names.{Name, name_eq}
use Rattle.facet_solver_types.specs.UsedTypes.{has_use, with_use}
use Rattle.facet_solver_types.specs.UseIds.{AreIdsOf}
use Rattle.facet_solver_types.specs.Uses.{Use}

-- no ids are those of no uses
pub known_none : (ids : BTreeSet (String Global)) → IsEmpty ids → AreIdsOf ids []
known_none ids empty id = ap (list_any (is_at (λ k. slice_cmp nat_cmp id (string_bytes k)))) empty

-- a use more, and its id
pub known_more : (s n : BTreeSet (String Global)) (id : Name) (found : List Use) (used : Use)
    → used.id ≡ id
    → UpdatesBy string_cmp (λ k. slice_cmp nat_cmp id (string_bytes k)) s n true
    → AreIdsOf s found → AreIdsOf n (found ++ used ∷ [])
known_more s n id found used same updates known q =
    btree_set_updates_text id s n true updates q
    ∙ go (bytes_eq id q) refl
    ∙ sym (list_any-append (λ (u : Use). name_eq u.id q) found (used ∷ []))
  where
    or_none : (b : Bool) → b ≡ (b || false)
    or_none true = refl
    or_none false = refl

    go : (b : Bool) → bytes_eq id q ≡ b
        → cond b true (contains_text s q) ≡ (has_use q found || (name_eq used.id q || false))
    go true named =
        sym (ap (λ x. has_use q found || (name_eq x q || false)) same
        ∙ ap (λ b. has_use q found || (b || false)) named
        ∙ or-true (has_use q found))
    go false other =
        known q
        ∙ or_none (has_use q found)
        ∙ sym (ap (λ x. has_use q found || (name_eq x q || false)) same
        ∙ ap (λ b. has_use q found || (b || false)) other)

-- what there is with a use of a new id, and of another
module _ (found : List Use) (used : Use) where
  pub with_known : has_use used.id found ≡ true → with_use found used ≡ found
  with_known had = ap (λ b. cond b found (found ++ used ∷ [])) had

  pub with_other : has_use used.id found ≡ false → with_use found used ≡ found ++ used ∷ []
  with_other fresh = ap (λ b. cond b found (found ++ used ∷ [])) fresh
