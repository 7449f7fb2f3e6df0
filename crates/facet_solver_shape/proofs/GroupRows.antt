-- Which lists part others, and which counts fall: the definitions, row by row.
use Rattle.std.proofs.Common.{◌≡◌, ◌≤◌, ◌<◌, ℕ, List, [], ◌∷◌, refl, inl, inr, arith, codes}
use Rattle.std.proofs.lemmas.List.Sorted.{IsPermutation-refl}
use Rattle.facet_solver_shape.specs.Groups.{Groups, IsInOneOf, IsPartition, KeepsOrder}
use Rattle.facet_solver_shape.specs.Steps.{NoCountFalls, StepCounts}
use Rattle.facet_solver_shape.proofs.Samples.{variant}

-- some of a list in its order, and in another
pub order_rows :
    KeepsOrder {X = ℕ} (1 ∷ 2 ∷ 3 ∷ []) (1 ∷ 3 ∷ [])
    × (¬ (KeepsOrder {X = ℕ} (1 ∷ 3 ∷ []) (3 ∷ 1 ∷ [])))
    × (¬ (KeepsOrder {X = ℕ} [] (1 ∷ [])))
order_rows = (
  inl (refl, inr (inl (refl, tt))),
  λ h. elim h [
    | inl first ↦ let no = first.0 in omega (arith, no)
    | inr later ↦ elim later [
      | inl second ↦ second.1
      | inr none ↦ none
    ]
  ],
  λ h. h,
)

-- counts that rise, and one that falls
pub count_rows :
    NoCountFalls (record { words = 0; searches = 1; visits = 2 }) (record { words = 1; searches = 1; visits = 2 })
    × (¬ (NoCountFalls (record { words = 1; searches = 1; visits = 2 }) (record { words = 0; searches = 1; visits = 2 })))
count_rows = (
  record { words = omega arith; searches = omega arith; visits = omega arith },
  λ h. let fell = h.words in omega (arith, fell),
)

-- each number in one list, and in its order; not in the other order
pub in_one_rows :
    IsInOneOf {X = ℕ} (1 ∷ 2 ∷ []) ((1 ∷ []) ∷ (2 ∷ []) ∷ [])
    × (¬ (IsInOneOf {X = ℕ} (1 ∷ 2 ∷ []) ((2 ∷ 1 ∷ []) ∷ [])))
in_one_rows = (
  record {
    once = IsPermutation-refl (1 ∷ 2 ∷ []);
    in_order = (inl (refl, tt), (inr (inl (refl, tt)), tt));
  },
  λ h. elim h.in_order.0 [
    | inl first ↦ let no = first.0 in omega (arith, no)
    | inr later ↦ elim later [ inl second ↦ second.1 | inr none ↦ none ]
  ],
)

-- no groups
abbrev no_groups : Groups
no_groups = record {
  unit_variants = [];
  tuple_variants = [];
  struct_variants = [];
  scalar_variants = [];
  bool_variants = [];
  int_variants = [];
  float_variants = [];
  string_variants = [];
  other_variants = [];
}

-- they have each variant of none, and of one variant only if it stands among those without fields
pub partition_rows :
    IsPartition [] no_groups
    × IsPartition (variant (codes "V") [] ∷ []) (record no_groups { unit_variants = variant (codes "V") [] ∷ [] })
    × (¬ (IsPartition [] (record no_groups { unit_variants = variant (codes "V") [] ∷ [] })))
partition_rows = (
  record {
    variants_in_one = record { once = IsPermutation-refl []; in_order = (tt, (tt, (tt, (tt, (tt, tt))))) };
    rest = [];
    scalars_in_one = record { once = IsPermutation-refl []; in_order = (tt, (tt, (tt, (tt, (tt, tt))))) };
  },
  record {
    variants_in_one = record {
      once = IsPermutation-refl (variant (codes "V") [] ∷ []);
      in_order = (inl (refl, tt), (tt, (tt, (tt, (tt, tt)))));
    };
    rest = [];
    scalars_in_one = record { once = IsPermutation-refl []; in_order = (tt, (tt, (tt, (tt, (tt, tt))))) };
  },
  λ p. p.variants_in_one.in_order.0,
)
