-- What the tests of the shapes of a list say of the whole list.
use Rattle.std.proofs.Common.{◌≡◌, ℕ, ◌<◌, ◌≤◌, Bool, true, false, List, [], ◌∷◌, ◌++◌, length, Some, None, Option, slice_get, nat_le, refl, sym, ◌∙◌, inl, inr, ◌+◌, ap, arith, IsSomeAnd, ◌||◌}
use Rattle.std.specs.List.{list_any, Any, flat_map}
use Rattle.std.specs.Option.{option_to_list, IfSome, option_and_then, is_some, unwrap_or}
use Rattle.std.proofs.lemmas.Bool.{false≢true, false_from_ne_true, leb-true, leb-false, le-leb, cases_lt, or_parts}
use Rattle.std.proofs.lemmas.List.Folds.{list_any-append, Any-from_list_any, list_any-from_Any}
use Rattle.facet_solver_shape.specs.declared.shape.Shape.{Shape}
use Rattle.facet_solver_shape.specs.declared.shape.Field.{Field}
use Rattle.facet_solver_shape.specs.declared.shape.Variant.{Variant}
use Rattle.facet_solver_shape.specs.declared.shape.ShapeKind.{ShapeKind}
use Rattle.facet_solver_shape.specs.declared.shape.ShapeKind.TheVariants.{Struct, Enum, Option as OptionOf}
use Rattle.facet_solver_shape.specs.declared.shape.catalogue.CatalogueError.TheVariants.{OutOfRange, NotEarlier, PointerCycle, DuplicateFieldName, DuplicateVariantName}
use Rattle.facet_solver_shape.specs.Catalogues.{early_indices, early_indices_of_kind, late_indices_of_kind, named_indices, FieldsBelow, VariantsBelow, KindBelow, IsEarlierThan, NamesEarlier, HasFault, IsChecked, NamesPast, NamesLater, shape_of, number_of, ComesBefore, IsFirstFault, IsFaultlessAt, IsLowestFaultAt, RepeatsFieldName, RepeatsVariantName, field_indices}
use Rattle.facet_solver_shape.proofs.Lists.{list_any-map}
use Rattle.std.proofs.lemmas.Option.{slice_get_within}
use Rattle.facet_solver_shape.specs.declared.shape.catalogue.CatalogueError.{CatalogueError}
use Rattle.facet_solver_shape.specs.Pointers.{pointee_at, pointee_after, NeverEnds, EndsBelow}
use Rattle.facet_solver_shape.proofs.Pointers.{within, pointee_ends}

-- a test of the indices that the fields of all variants name
pub list_any-fields : (p : ℕ → Bool) (variants : List Variant) → list_any p (flat_map (λ v. field_indices v.fields.items) variants) ≡ list_any (λ v. list_any (λ f. p f.shape) v.fields.items) variants
list_any-fields p [] = refl
list_any-fields p (v ∷ variants) =
    list_any-append p (field_indices v.fields.items) _
    ∙ ap (λ b. b || list_any p (flat_map (λ w. field_indices w.fields.items) variants)) (list_any-map p (λ f. f.shape) v.fields.items)
    ∙ ap (λ b. list_any (λ f. p f.shape) v.fields.items || b) (list_any-fields p variants)

-- some element has what each element with the premise has
any_then : {X : Type 0} (P Q : X → Type 0) (xs : List X) → ((x : X) → P x → Q x) → Any P xs → Any Q xs
any_then P Q xs then some = (some.0, some.1, some.2, some.3, then some.1 some.4)

-- the test for an index that is not below another
pub some_from : (low : ℕ) (ps : List ℕ) → list_any (λ p. nat_le low p) ps ≡ true → Any (λ p. low ≤ p) ps
some_from low ps found = any_then _ _ ps (λ p. leb-true low p) (Any-from_list_any (λ p. nat_le low p) ps found)

pub found_from : (low : ℕ) (ps : List ℕ) → Any (λ p. low ≤ p) ps → list_any (λ p. nat_le low p) ps ≡ true
found_from low ps some = list_any-from_Any (λ p. nat_le low p) ps (any_then _ _ ps (λ p. le-leb low p) some)

-- the faults of indices, by these tests
module _ (shapes : List Shape) (index : ℕ) (s : Shape) (here : slice_get shapes index ≡ Some s) where
  pub out_of_range : list_any (λ p. nat_le (length shapes) p) (named_indices s) ≡ true → HasFault shapes (OutOfRange index)
  out_of_range found = rw here (some_from (length shapes) (named_indices s) found)

  pub in_range : list_any (λ p. nat_le (length shapes) p) (named_indices s) ≡ false → ¬ HasFault shapes (OutOfRange index)
  in_range none fault =
      let past : NamesPast (length shapes) s = rw here at fault in
      false≢true (sym none ∙ found_from (length shapes) (named_indices s) past)

  pub not_earlier : list_any (λ p. nat_le (length shapes) p) (named_indices s) ≡ false → list_any (λ p. nat_le index p) (early_indices s) ≡ true → HasFault shapes (NotEarlier index)
  not_earlier none found = rw here (later (early_indices s) early found)
    where
      early : list_any (λ p. nat_le (length shapes) p) (early_indices s) ≡ false
      early = (or_parts _ _ (sym (list_any-append (λ p. nat_le (length shapes) p) (early_indices s) (late_indices_of_kind s.kind)) ∙ none)).0

      later : (ps : List ℕ) → list_any (λ p. nat_le (length shapes) p) ps ≡ false → list_any (λ p. nat_le index p) ps ≡ true → Any (λ p. (index ≤ p) × (p < length shapes)) ps
      later ps none found =
          let some = some_from index ps found in
          let less : some.1 < length shapes = elim (cases_lt some.1 (length shapes)) [
            | inl less ↦ less
            | inr past ↦ absurd (false≢true (sym none ∙ found_from (length shapes) ps (some.0, some.1, some.2, some.3, past)))
          ] in
          (some.0, some.1, some.2, some.3, (some.4, less))

  pub earlier : list_any (λ p. nat_le index p) (early_indices s) ≡ false → ¬ HasFault shapes (NotEarlier index)
  earlier none fault =
      let later : NamesLater (length shapes) index s = rw here at fault in
      false≢true (sym none ∙ found_from index (early_indices s) (any_then _ _ (early_indices s) (λ p both. both.0) later))

-- where no field passes the test for an index that is not below another, each names one below it
fields_below : (index : ℕ) (fs : List Field) → list_any (λ f. nat_le index f.shape) fs ≡ false → FieldsBelow index fs
fields_below index [] none = tt
fields_below index (f ∷ fs) none =
    let parts = or_parts (nat_le index f.shape) _ none in
    (leb-false index f.shape parts.0, fields_below index fs parts.1)

variants_below : (index : ℕ) (vs : List Variant) → list_any (λ v. list_any (λ f. nat_le index f.shape) v.fields.items) vs ≡ false → VariantsBelow index vs
variants_below index [] none = tt
variants_below index (v ∷ vs) none =
    let parts = or_parts (list_any (λ f. nat_le index f.shape) v.fields.items) _ none in
    (fields_below index v.fields.items parts.0, variants_below index vs parts.1)

kind_below : (index : ℕ) (k : ShapeKind) → list_any (λ p. nat_le index p) (early_indices_of_kind k) ≡ false → KindBelow index k
kind_below index (Struct kind fields) none =
    fields_below index fields.items (sym (list_any-map (λ p. nat_le index p) (λ f. f.shape) fields.items) ∙ none)
kind_below index (Enum variants) none =
    variants_below index variants.items (sym (list_any-fields (λ p. nat_le index p) variants.items) ∙ none)
kind_below index (OptionOf inside) none = leb-false index inside (or_parts _ _ none).0
kind_below index _ none = tt

index_below : (index : ℕ) (o : Option ℕ) → list_any (λ p. nat_le index p) (option_to_list o) ≡ false → IfSome o (λ p. p < index)
index_below index None none = tt
index_below index (Some p) none = leb-false index p (or_parts _ _ none).0

-- in a catalogue each shape refers to earlier ones where it has to
pub names_earlier : (shapes : List Shape) → IsChecked shapes → NamesEarlier shapes
names_earlier shapes checked index s here =
    let test : ℕ → ℕ → Bool = λ low p. nat_le low p in
    let none_past = false_from_ne_true _ (λ found. checked.faultless (OutOfRange index) (out_of_range shapes index s here found)) in
    let none_later = false_from_ne_true _ (λ found. checked.faultless (NotEarlier index) (not_earlier shapes index s here none_past found)) in
    let parts = or_parts _ _ (sym (list_any-append (test index) (early_indices_of_kind s.kind) (option_to_list s.inner ++ option_to_list s.proxy)) ∙ none_later) in
    let ends = or_parts _ _ (sym (list_any-append (test index) (option_to_list s.inner) (option_to_list s.proxy)) ∙ parts.1) in
    record { kind = kind_below index s.kind parts.0; inner = index_below index s.inner ends.0; proxy = index_below index s.proxy ends.1 }

-- so what is found at an index is
pub found_earlier : (shapes : List Shape) → IsChecked shapes → (index : ℕ) → IfSome (slice_get shapes index) (IsEarlierThan index)
found_earlier shapes checked index = go (slice_get shapes index) refl
  where
    go : (o : Option Shape) → slice_get shapes index ≡ o → IfSome o (IsEarlierThan index)
    go None is = tt
    go (Some s) is = names_earlier shapes checked index s is

-- refusals have the numbers from 1 to 5
numbered : (d : CatalogueError) → (1 ≤ number_of d) × (number_of d < 6)
numbered (OutOfRange index) = (omega arith, omega arith)
numbered (NotEarlier index) = (omega arith, omega arith)
numbered (PointerCycle index) = (omega arith, omega arith)
numbered (DuplicateFieldName index) = (omega arith, omega arith)
numbered (DuplicateVariantName index) = (omega arith, omega arith)

-- an index and a number are those of one refusal
one_refusal : (d e : CatalogueError) → shape_of d ≡ shape_of e → number_of d ≡ number_of e → d ≡ e
one_refusal (OutOfRange p) (OutOfRange q) index number = ap OutOfRange index
one_refusal (NotEarlier p) (NotEarlier q) index number = ap NotEarlier index
one_refusal (PointerCycle p) (PointerCycle q) index number = ap PointerCycle index
one_refusal (DuplicateFieldName p) (DuplicateFieldName q) index number = ap DuplicateFieldName index
one_refusal (DuplicateVariantName p) (DuplicateVariantName q) index number = ap DuplicateVariantName index
one_refusal d e index number = absurd (omega (arith, number))

-- a fault of an index, by the faults of lower numbers that it has not
module _ (shapes : List Shape) (index : ℕ) where
  abbrev pub NoneBelow : ℕ → Type 0
  NoneBelow n = (d : CatalogueError) → shape_of d ≡ index → number_of d < n → ¬ HasFault shapes d

  pub none_below_first : NoneBelow 1
  none_below_first d here low = let least = (numbered d).0 in absurd (omega arith)

  pub none_below_next : (e : CatalogueError) → shape_of e ≡ index → NoneBelow (number_of e) → ¬ HasFault shapes e → NoneBelow (number_of e + 1)
  none_below_next e at below absent d here low = elim (cases_lt (number_of d) (number_of e)) [
    | inl lower ↦ below d here lower
    | inr higher ↦
        let same : d ≡ e = one_refusal d e (here ∙ sym at) (omega arith) in
        rw same absent
  ]

  pub lowest_fault : (e : CatalogueError) → shape_of e ≡ index → NoneBelow (number_of e) → HasFault shapes e → IsLowestFaultAt shapes index e
  lowest_fault e at below present = record { here = at; present = present; lowest = below }

  pub faultless_at : NoneBelow 6 → IsFaultlessAt shapes index
  faultless_at below = record { none = λ d here. below d here (numbered d).1 }

some_within : (shapes : List Shape) (index : ℕ) (P : Shape → Type 0) → IsSomeAnd (slice_get shapes index) P → index < length shapes
some_within shapes index P fault = go (slice_get shapes index) refl fault
  where
    go : (o : Option Shape) → slice_get shapes index ≡ o → IsSomeAnd o P → index < length shapes
    go None is fault = absurd fault
    go (Some s) is fault = slice_get_within shapes index s is

-- a fault is at an index of the list
fault_within : (shapes : List Shape) (d : CatalogueError) → HasFault shapes d → shape_of d < length shapes
fault_within shapes (OutOfRange index) fault = some_within shapes index _ fault
fault_within shapes (NotEarlier index) fault = some_within shapes index _ fault
fault_within shapes (PointerCycle index) fault = go (pointee_at shapes index) refl (fault 1)
  where
    go : (o : Option ℕ) → pointee_at shapes index ≡ o → is_some (option_and_then (pointee_after shapes 0) o) ≡ true → index < length shapes
    go None is leads = cc
    go (Some next) is leads = within shapes index next is
fault_within shapes (DuplicateFieldName index) fault = some_within shapes index _ fault
fault_within shapes (DuplicateVariantName index) fault = some_within shapes index _ fault

-- no shape before this index has a fault
abbrev pub FaultlessBelow : List Shape → ℕ → Type 0
FaultlessBelow shapes n = (k : ℕ) → k < n → IsFaultlessAt shapes k

pub one_more : (shapes : List Shape) (n : ℕ) → FaultlessBelow shapes n → IsFaultlessAt shapes n → FaultlessBelow shapes (n + 1)
one_more shapes n below here k lt = elim (cases_lt k n) [
  | inl less ↦ below k less
  | inr more ↦ let same : k ≡ n = omega arith in rw same here
]

-- pointees followed from before this index come to an end
pub ends_below : (shapes : List Shape) (n : ℕ) → FaultlessBelow shapes n → EndsBelow shapes n
ends_below shapes n below k lt = (below k lt).none (PointerCycle k) refl

-- so do those from an index past the list
pub ends_past : (shapes : List Shape) (n : ℕ) → length shapes ≤ n → ¬ NeverEnds shapes n
ends_past shapes n past never = let inside = fault_within shapes (PointerCycle n) never in omega (arith, inside, past)

-- and those from the pointee of a shape without fault, or else from what was kept before
pub ends_still : (shapes : List Shape) (index : ℕ) (later : Option ℕ) (kept now : ℕ) → IsFaultlessAt shapes index → IfSome later (λ next. pointee_at shapes index ≡ Some next)
    → ¬ NeverEnds shapes kept → now ≡ unwrap_or later kept → ¬ NeverEnds shapes now
ends_still shapes index None kept now faultless leads known is = rw is known
ends_still shapes index (Some next) kept now faultless leads known is =
    rw is (pointee_ends shapes index next leads (faultless.none (PointerCycle index) refl))

pub checked : (shapes : List Shape) (n : ℕ) → length shapes ≤ n → FaultlessBelow shapes n → IsChecked shapes
checked shapes n all below = record {
  faultless = λ d fault.
      let inside = fault_within shapes d fault in
      (below (shape_of d) (omega (arith, inside, all))).none d refl fault;
}

pub first_fault : (shapes : List Shape) (n : ℕ) (e : CatalogueError) → FaultlessBelow shapes n → IsLowestFaultAt shapes n e → IsFirstFault shapes e
first_fault shapes n e below fault = record { present = fault.present; first = first }
  where
    first : (d : CatalogueError) → ComesBefore d e → ¬ HasFault shapes d
    first d (inl earlier) = (below (shape_of d) (omega (arith, earlier, fault.here))).none d refl
    first d (inr lower) = fault.lowest d (lower.0 ∙ fault.here) lower.1

-- which faults the shape at an index has not, test after test
module _ (shapes : List Shape) (index : ℕ) (s : Shape) (here : slice_get shapes index ≡ Some s) where
  pub none_below_not_earlier : list_any (λ p. nat_le (length shapes) p) (named_indices s) ≡ false → NoneBelow shapes index 2
  none_below_not_earlier none =
      none_below_next shapes index (OutOfRange index) refl (none_below_first shapes index) (in_range shapes index s here none)

  pub none_below_cycle : list_any (λ p. nat_le (length shapes) p) (named_indices s) ≡ false → list_any (λ p. nat_le index p) (early_indices s) ≡ false → NoneBelow shapes index 3
  none_below_cycle none none_early =
      none_below_next shapes index (NotEarlier index) refl (none_below_not_earlier none) (earlier shapes index s here none_early)

  pub none_below_fields : NoneBelow shapes index 3 → ¬ NeverEnds shapes index → NoneBelow shapes index 4
  none_below_fields below ends = none_below_next shapes index (PointerCycle index) refl below ends

  pub none_below_variants : NoneBelow shapes index 4 → ¬ RepeatsFieldName s.kind → NoneBelow shapes index 5
  none_below_variants below once = none_below_next shapes index (DuplicateFieldName index) refl below (λ fault. once (rw here at fault))

  pub none_at_all : NoneBelow shapes index 5 → ¬ RepeatsVariantName s.kind → NoneBelow shapes index 6
  none_at_all below once = none_below_next shapes index (DuplicateVariantName index) refl below (λ fault. once (rw here at fault))
