-- The variants that the fields of an entry select, and the resolutions that select each.
use Rattle.std.specs.Prelude.{◌≡◌, ℕ, Bool, true, false, ◌<◌, ◌&&◌, ◌||◌, ⊤, List, Option, Some, None, nat_eq}
use Rattle.std.specs.BTreeMap.{BTreeMap, get_by}
use Rattle.std.specs.Cmp.Lexicographic.{slice_cmp}
use Rattle.std.specs.Option.{option_map, option_map_or}
use Rattle.std.specs.Ordering.{nat_cmp}
use denote.Bor.{Bor}
use Rattle.facet_solver_shape.specs.Names.{Name, name_eq}
use Rattle.facet_solver.specs.set.IndexSet.{IndexSet, has_index}
use Rattle.facet_solver.specs.declared.schema.index.entry.Occurrence.{Occurrence}
use Rattle.facet_solver.specs.declared.schema.index.selected.Selected.{Selected}
use Rattle.facet_solver.specs.declared.schema.index.selected.Selected.TheVariants.{Same, Different}
use Rattle.facet_solver.specs.declared.schema.index.variant_sets.VariantSets.{VariantSets}

-- the name of a variant, if there is one
abbrev pub name_of : Option (Bor Name) → Option Name
name_of variant = option_map (λ v. v.now) variant

-- whether two fields select the same variant, or none both
abbrev pub same_variant : Option Name → Option Name → Bool
same_variant (Some one) (Some other) = name_eq one other
same_variant (Some one) None = false
same_variant None (Some other) = false
same_variant None None = true

-- whether a set has a resolution; where there is no set, none has it
abbrev pub is_in : Option IndexSet → ℕ → Bool
is_in set index = option_map_or (λ s. has_index s.members index) set false

-- the resolutions that select the variant of a name
abbrev pub named_set : BTreeMap (Bor Name) IndexSet → Name → Option IndexSet
named_set named name = get_by (λ k. slice_cmp nat_cmp name k.now) named

-- the resolutions that select a variant, or none
abbrev pub set_of : VariantSets → Option Name → Option IndexSet
set_of sets None = Some sets.without
set_of sets (Some name) = named_set sets.named name

-- a set, if there is one, is over the numbers below a bound
abbrev pub IsBelow : ℕ → Option IndexSet → Type 0
IsBelow bound set = option_map_or (λ s. s.bound) set bound ≡ bound

-- each of the sets is
abbrev pub AreBelow : ℕ → VariantSets → Type 0
AreBelow bound sets = (variant : Option Name) → IsBelow bound (set_of sets variant)

-- so are those of an entry, if it has some
abbrev pub HasSetsBelow : ℕ → Selected → Type 0
HasSetsBelow bound (Same known) = ⊤
HasSetsBelow bound (Different sets) = AreBelow bound sets.value

-- whether a resolution, of those of an entry, selects a variant, or none
abbrev pub selects : Selected → List ℕ → Option Name → ℕ → Bool
selects (Same known) all variant index = has_index all index && same_variant (name_of known) variant
selects (Different sets) all variant index = is_in (set_of sets.value variant) index

-- whether it is the resolution of a field that selects a variant, or none
abbrev pub is_selected_by : Occurrence → Option Name → ℕ → Bool
is_selected_by at variant index =
    nat_eq index at.index && same_variant (name_of at.variant) variant

-- each variant is selected by the resolutions that selected it, and by that of one field more
abbrev pub SelectsMore : Occurrence → (Option Name → ℕ → Bool) → (Option Name → ℕ → Bool) → Type 0
SelectsMore at before after = (variant : Option Name) (index : ℕ) → index < at.bound
    → after variant index ≡ (is_selected_by at variant index || before variant index)
