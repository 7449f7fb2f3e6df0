-- Which indices are choices of a root, and what each resolves to: the definitions, row by row.
use Rattle.std.proofs.Common.{ℕ, zero, suc, List, [], ◌∷◌, Some, None, slice_index, length, Contains, refl, ap, subst, inl, inr, arith}
use Rattle.std.specs.List.Sorted.{IsStrictlySortedBy}
use Rattle.facet_solver_shape.proofs.FewValues.{which_is}
use Rattle.facet_solver.specs.build.Choice.{IsChoice, ListsChoices}
use Rattle.facet_solver.specs.build.Emissions.{emit_plain, emit_regular, field_and_paths, regular_field}
use Rattle.facet_solver.specs.build.Walk.{Walked, walk_content, walk_fields, walk_fields_step, walk_root, walk_root_variant, walk_within}
use Rattle.facet_solver.proofs.SampleBuilds.{flat, two_variants}

-- how many indices a walk leaves
abbrev left_by : Walked → ℕ
left_by None = 0
left_by (Some w) = length w.1

-- each of the two variants is a choice
pub choice_holds : IsChoice (flat two_variants) 1 (0 ∷ []) × IsChoice (flat two_variants) 1 (1 ∷ [])
unfolding walk_root walk_root_variant walk_content walk_fields walk_within walk_fields_step emit_plain emit_regular regular_field field_and_paths
choice_holds = ((_, refl), (_, refl))

-- no index, the index of no variant, and one index too many
pub choice_fails :
    (¬ (IsChoice (flat two_variants) 1 []))
    × ((k : ℕ) (ns : List ℕ) → ¬ (IsChoice (flat two_variants) 1 (suc (suc k) ∷ ns)))
    × ((n : ℕ) (ns : List ℕ) → ¬ (IsChoice (flat two_variants) 1 (0 ∷ n ∷ ns)))
    × ((n : ℕ) (ns : List ℕ) → ¬ (IsChoice (flat two_variants) 1 (1 ∷ n ∷ ns)))
unfolding walk_root walk_root_variant walk_content walk_fields walk_within walk_fields_step emit_plain emit_regular regular_field field_and_paths
choice_fails = (
  λ c. let is = c.1 in cc,
  λ k ns c. let is = c.1 in cc,
  λ n ns c. let many = ap left_by c.1 in omega (arith, many),
  λ n ns c. let many = ap left_by c.1 in omega (arith, many),
)

-- the choices of the two variants
abbrev pub both : List (List ℕ)
both = (0 ∷ []) ∷ (1 ∷ []) ∷ []

-- all of them, in order
pub lists_choices_holds : ListsChoices (flat two_variants) 1 both
unfolding IsStrictlySortedBy
lists_choices_holds = record { each_is = each; complete = all; in_order = ((refl, tt), (tt, tt)) }
  where
    each : (c : List ℕ) → Contains both c → IsChoice (flat two_variants) 1 c
    each c h = elim (which_is both c h) [
      | inl first ↦ subst (IsChoice (flat two_variants) 1) first choice_holds.0
      | inr (inl second) ↦ subst (IsChoice (flat two_variants) 1) second choice_holds.1
      | inr (inr none) ↦ absurd none
    ]

    all : (c : List ℕ) → IsChoice (flat two_variants) 1 c → Contains both c
    all [] h = absurd (choice_fails.0 h)
    all (zero ∷ []) h = (0, omega arith, refl)
    all (zero ∷ n ∷ ns) h = absurd (choice_fails.2 n ns h)
    all (suc zero ∷ []) h = (1, omega arith, refl)
    all (suc zero ∷ n ∷ ns) h = absurd (choice_fails.3 n ns h)
    all (suc (suc k) ∷ ns) h = absurd (choice_fails.1 k ns h)

-- one is left out, one more is none, and the other order
pub lists_choices_fails :
    (¬ (ListsChoices (flat two_variants) 1 ((0 ∷ []) ∷ [])))
    × (¬ (ListsChoices (flat two_variants) 1 ((0 ∷ []) ∷ (1 ∷ []) ∷ (2 ∷ []) ∷ [])))
    × (¬ (ListsChoices (flat two_variants) 1 ((1 ∷ []) ∷ (0 ∷ []) ∷ [])))
unfolding IsStrictlySortedBy
lists_choices_fails = (
  λ l. elim (which_is ((0 ∷ []) ∷ []) (1 ∷ []) (l.complete (1 ∷ []) choice_holds.1)) [
    | inl same ↦ let first = ap (λ ns. slice_index ns 0) same in omega (arith, first)
    | inr none ↦ none
  ],
  λ l. choice_fails.1 0 [] (l.each_is (2 ∷ []) (2, omega arith, refl)),
  λ l. let less = l.in_order.0.0 in cc,
)
