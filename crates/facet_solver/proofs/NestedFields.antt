-- Fields by name: which key paths they stand for as they grow, and where they lead.
use Rattle.std.proofs.Common.{◌≡◌, ℕ, zero, suc, ◌≤◌, ◌<◌, List, [], ◌∷◌, ◌++◌, Some, Bool, true, false, refl, sym, ap, ◌∙◌, subst, slice_get, length, arith, max, Bor}
use Rattle.std.specs.Prelude.{◌&&◌, Vec, nat_lt}
use Rattle.std.specs.declared.alloc.Global.{Global}
use Rattle.std.specs.FinSet as set
use Rattle.std.specs.List.{AllByRecursion}
use Rattle.std.proofs.lemmas.Bool.{lt-ltb, ltb-true}
use Rattle.facet_solver_shape.specs.Names.{Name}
use Rattle.facet_solver.specs.build.Nested.{KeyPaths, no_paths, paths_of_each}
use Rattle.facet_solver.specs.build.NestedTable.{AllLeadTo, LeadTo}
use Rattle.facet_solver.specs.declared.build.nested.by_name.FieldsByName.{FieldsByName}
use Rattle.facet_solver.specs.build.NestedNames.{shapes_behind}
use Rattle.facet_solver.specs.declared.build.nested.shapes_behind.ShapesBehind.{ShapesBehind}
use Rattle.facet_solver.proofs.NestedSets.{union_assoc, union_comm}

-- ---- the shapes behind a name
module _ {X : Type 0} (paths : X → KeyPaths) where
  pub of_each-push : (xs : List X) (x : X) → paths_of_each paths (xs ++ x ∷ []) ≡ set.union (paths_of_each paths xs) (paths x)
  of_each-push [] x = union_comm (paths x) no_paths
  of_each-push (y ∷ xs) x = ap (λ (s : KeyPaths). set.union (paths y) s) (of_each-push xs x) ∙ union_assoc (paths y) (paths_of_each paths xs) (paths x)

-- ---- what all have, each has
module _ {X : Type 0} (P : X → Type 0) where
  pub each_push : (xs : List X) (x : X) → AllByRecursion P xs → P x → AllByRecursion P (xs ++ x ∷ [])
  each_push [] x h p = (p, tt)
  each_push (y ∷ xs) x h p = (h.0, each_push xs x h.1 p)

  pub each_at : (xs : List X) (i : ℕ) (x : X) → AllByRecursion P xs → slice_get xs i ≡ Some x → P x
  each_at [] i x h e = absurd (cc)
  each_at (y ∷ xs) zero x h e = let same : y ≡ x = cc in subst P same h.0
  each_at (y ∷ xs) (suc i) x h e = each_at xs i x h.1 e

  pub each_also : (Q : X → Type 0) → ((x : X) → P x → Q x) → (xs : List X) → AllByRecursion P xs → AllByRecursion Q xs
  each_also Q f [] h = tt
  each_also Q f (x ∷ xs) h = (f x h.0, each_also Q f xs h.1)

-- ---- where names lead
-- of two that both hold
pub first_of : (a b : Bool) → (a && b) ≡ true → a ≡ true
first_of true b e = refl
first_of false b e = e

pub second_of : (a b : Bool) → (a && b) ≡ true → b ≡ true
second_of true b e = e
second_of false b e = absurd (cc)

pub both_of : (a b : Bool) → a ≡ true → b ≡ true → (a && b) ≡ true
both_of true b e f = f
both_of false b e f = e

module _ (p q : ℕ → Bool) (also : (id : ℕ) → p id ≡ true → q id ≡ true) where
  pub leads_also : (fields : FieldsByName) → LeadTo p fields → LeadTo q fields
  leads_also fields h = each_also _ _ (λ e. each_also _ _ also (shapes_behind e.1)) fields.by_name.items h

  pub all_lead_also : (each : Vec FieldsByName Global) → AllLeadTo p each → AllLeadTo q each
  all_lead_also each h = each_also (LeadTo p) (LeadTo q) leads_also each.items h

-- ---- how far the shapes behind names reach: less than this
unfoldable pub limit_of_shapes : List ℕ → ℕ
limit_of_shapes [] = 0
limit_of_shapes (id ∷ ids) = max (suc id) (limit_of_shapes ids)

unfoldable pub limit_of_names : List (Bor Name × ShapesBehind) → ℕ
limit_of_names [] = 0
limit_of_names (e ∷ es) = max (limit_of_shapes (shapes_behind e.1)) (limit_of_names es)

pub below_limit : (ids : List ℕ) (limit : ℕ) → limit_of_shapes ids ≤ suc limit → AllByRecursion (λ id. id ≤ limit) ids
unfolding limit_of_shapes
below_limit [] limit h = tt
below_limit (id ∷ ids) limit h = (omega arith, below_limit ids limit (omega arith))

pub limit-some : (ids : List ℕ) → 0 < length ids → 0 < limit_of_shapes ids
unfolding limit_of_shapes
limit-some [] h = absurd (omega arith)
limit-some (id ∷ ids) h = omega arith

module _ (limit : ℕ) (passes : ℕ → Bool) where
  limit-shapes : (ids : List ℕ) → AllByRecursion (λ t. (nat_lt t limit && passes t) ≡ true) ids → limit_of_shapes ids ≤ limit
  unfolding limit_of_shapes
  limit-shapes [] h = omega arith
  limit-shapes (id ∷ ids) h =
      let rest = limit-shapes ids h.1 in
      let below = ltb-true id limit (first_of (nat_lt id limit) (passes id) h.0) in
      omega (arith, rest, below)

  pub limit-names : (es : List (Bor Name × ShapesBehind)) → AllByRecursion (λ e. AllByRecursion (λ t. (nat_lt t limit && passes t) ≡ true) (shapes_behind e.1)) es → limit_of_names es ≤ limit
  unfolding limit_of_names
  limit-names [] h = omega arith
  limit-names (e ∷ es) h =
      let first = limit-shapes (shapes_behind e.1) h.0 in
      let rest = limit-names es h.1 in
      omega (arith, first, rest)

pub limit-last : (es : List (Bor Name × ShapesBehind)) (e : Bor Name × ShapesBehind) (limit : ℕ) → limit_of_names (es ++ e ∷ []) ≤ limit → (limit_of_shapes (shapes_behind e.1) ≤ limit) × (limit_of_names es ≤ limit)
unfolding limit_of_names
limit-last [] e limit h = (omega arith, omega arith)
limit-last (d ∷ es) e limit h =
    let deeper = limit-last es e limit (omega (arith, h)) in
    (deeper.0, let rest = deeper.1 in omega (arith, h, rest))

-- what holds of each holds of the last, and of those before it
pub each-last : {X : Type 0} (P : X → Type 0) (xs : List X) (x : X) → AllByRecursion P (xs ++ x ∷ []) → P x × AllByRecursion P xs
each-last P [] x h = (h.0, tt)
each-last P (y ∷ xs) x h = let deeper = each-last P xs x h.1 in (deeper.0, (h.0, deeper.1))

-- the key paths of the last and those of the others
pub paths-last : {X : Type 0} (paths : X → KeyPaths) (xs : List X) (x : X) → set.union (paths x) (paths_of_each paths xs) ≡ paths_of_each paths (xs ++ x ∷ [])
paths-last paths [] x = refl
paths-last paths (y ∷ xs) x =
    union_assoc (paths x) (paths y) (paths_of_each paths xs)
    ∙ ap (λ (ps : KeyPaths). set.union ps (paths_of_each paths xs)) (union_comm (paths x) (paths y))
    ∙ sym (union_assoc (paths y) (paths x) (paths_of_each paths xs))
    ∙ ap (set.union (paths y)) (paths-last paths xs x)

-- what leads to earlier shapes than one leads to earlier ones than a later one
pub leads_below : (filled : ℕ → Bool) (id limit : ℕ) → id ≤ limit → (fields : FieldsByName) → LeadTo (λ t. nat_lt t id && filled t) fields → LeadTo (λ t. nat_lt t limit && filled t) fields
leads_below filled id limit le =
    leads_also _ _
    (λ t h.
    let lt = ltb-true t id (first_of (nat_lt t id) (filled t) h) in
    both_of (nat_lt t limit) (filled t) (lt-ltb t limit (omega (arith, lt, le))) (second_of (nat_lt t id) (filled t) h))
