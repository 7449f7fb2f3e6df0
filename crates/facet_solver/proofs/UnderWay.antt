-- An index while the fields of a resolution are added.
use Rattle.std.proofs.Common.{◌≡◌, ℕ, zero, suc, ◌+◌, ◌<◌, List, [], ◌∷◌, ◌++◌, Bor, Option, length, get_or, take, append_assoc, append-nil, refl, ap, sym, ◌∙◌, subst, arith}
use Rattle.std.proofs.lemmas.Option.{slice_get-get_or}
use Rattle.std.specs.Prelude.{Some, slice_get}
use Rattle.std.specs.FinMap as finite
use Rattle.std.specs.Option.{option_map, option_map_or}
use Rattle.facet_solver_shape.specs.declared.resolution.key.FieldKey.{FieldKey}
use Rattle.facet_solver_shape.specs.Fields.{FieldView}
use Rattle.facet_solver_shape.specs.Names.{Name}
use Rattle.facet_solver_shape.specs.Resolved.{Resolved}
use Rattle.facet_solver.specs.schema.IndexEntries.{IsSlotAfter, entry_at}
use Rattle.facet_solver.specs.schema.Indexed.{IsIndexOf, fields_of_each}
use Rattle.facet_solver.specs.schema.Slots.{Slot, is_at}
use Rattle.facet_solver.specs.solver.Tag.{last_variant}
use Rattle.facet_solver.specs.declared.schema.index.Index.{Index}
use Rattle.facet_solver_shape.proofs.Fields.{fields_of}
use Rattle.facet_solver.proofs.Indexing.{index_more, index_same}

-- the fields of the resolution of a number
abbrev pub fields_at : List Resolved → ℕ → List FieldView
fields_at resolutions i = option_map_or (λ r. finite.values r.fields) (slice_get resolutions i) []

pub fields_at_is : (resolutions : List Resolved) (i : ℕ) (r : Resolved) → i < length resolutions → r ≡ get_or resolutions i r → fields_at resolutions i ≡ finite.values r.fields
fields_at_is resolutions i r within is = ap (λ o. option_map_or (λ (x : Resolved). finite.values x.fields) o []) (slice_get-get_or resolutions i r within ∙ ap (λ x. Some x) (sym is))

-- the resolutions before it
pub count_before : (resolutions : List Resolved) (i : ℕ) → i < length resolutions → length (fields_of_each (take i resolutions)) ≡ i
count_before [] i within = absurd (omega arith)
count_before (r ∷ resolutions) zero within = refl
count_before (r ∷ resolutions) (suc i) within = ap (λ n. suc n) (count_before resolutions i (omega arith))

-- and with it
pub each_more : (resolutions : List Resolved) (i : ℕ) → i < length resolutions → fields_of_each (take (i + 1) resolutions) ≡ fields_of_each (take i resolutions) ++ fields_at resolutions i ∷ []
each_more [] i within = absurd (omega arith)
each_more (r ∷ resolutions) zero within = refl
each_more (r ∷ resolutions) (suc i) within =
    let e : suc i + 1 ≡ suc (i + 1) = omega arith in
    rw e (ap (λ lists. finite.values r.fields ∷ lists) (each_more resolutions i (omega arith)))

-- some of the fields of a resolution were added after those of the resolutions before it, and the
-- others are still to come
pub record IsAddedInPart (bound : ℕ) (before : List (List FieldView)) (fields : List FieldView) (rest : List (FieldKey × FieldView)) (index : Index) : Type 0 where
  pub seen : List FieldView
  pub parts : seen ++ fields_of rest ≡ fields
  pub indexed : IsIndexOf bound (before ++ seen ∷ []) index

-- none yet
pub way_start : (bound : ℕ) (before : List (List FieldView)) (fields : List FieldView) (rest : List (FieldKey × FieldView)) (index : Index) → fields_of rest ≡ fields → IsIndexOf bound before index
    → IsAddedInPart bound before fields rest index
way_start bound before fields rest index all is = record { seen = []; parts = all; indexed = index_same bound before index is }

-- one more
pub way_more : (bound : ℕ) (before : List (List FieldView)) (fields : List FieldView) (key : FieldKey) (f : FieldView) (variant : Option (Bor Name)) → option_map (λ (v : Bor Name). v.now) variant ≡ last_variant f.path
    → (rest : List (FieldKey × FieldView)) (old new : Index) (i : ℕ) → length before ≡ i → i < bound
    → IsAddedInPart bound before fields ((key, f) ∷ rest) old
    → ((slot : Slot) → IsSlotAfter (is_at slot f) (record { index = i; bound = bound; shape = f.shape; variant = variant }) (entry_at old slot) (entry_at new slot))
    → IsAddedInPart bound before fields rest new
way_more bound before fields key f variant named rest old new i count within way step = record {
  seen = way.seen ++ f ∷ [];
  parts = append_assoc way.seen (f ∷ []) (fields_of rest) ∙ way.parts;
  indexed = index_more bound before way.seen f variant named old new (rw count within) way.indexed (rw count step);
}

-- all
pub way_end : (bound : ℕ) (before : List (List FieldView)) (fields : List FieldView) (index : Index) → IsAddedInPart bound before fields [] index → IsIndexOf bound (before ++ fields ∷ []) index
way_end bound before fields index way =
    let all : way.seen ≡ fields = sym (append-nil way.seen) ∙ way.parts in
    subst (λ fs. IsIndexOf bound (before ++ fs ∷ []) index) all way.indexed
