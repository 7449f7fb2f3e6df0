-- The resolutions of an entry that select a variant, and what they leave of a solver.
use Rattle.std.proofs.Common.{◌≡◌, ℕ, zero, suc, ◌+◌, ◌<◌, Bool, true, false, cond, ◌&&◌, ◌||◌, List, [], ◌∷◌, Option, Some, None, All, filter, length, map, refl, ap, sym, ◌∙◌, arith}
use Rattle.std.specs.List.{list_any}
use Rattle.std.specs.Option.{is_some, option_and_then, option_map_or}
use Rattle.std.specs.Prelude.{◌≢◌, ◌↔◌, IsTrue, if◌then◌else◌, slice_get}
use Rattle.std.specs.BTreeSet.{insert_key}
use Rattle.std.proofs.Math.Bool.{or-false}
use Rattle.std.proofs.lemmas.Bool.{false≢true}
use Rattle.facet_solver_shape.specs.Fields.{FieldView}
use Rattle.facet_solver_shape.specs.Keys.{Key, flat_key, key_cmp}
use Rattle.facet_solver_shape.specs.Names.{Name, name_eq}
use Rattle.facet_solver_shape.specs.Resolved.{Resolved, field_by_key}
use Rattle.facet_solver.specs.Resolutions.{field_at, has_key, passes}
use Rattle.facet_solver.specs.schema.IndexEntries.{selects_in}
use Rattle.facet_solver.specs.schema.Indexed.{IsIndexEntry}
use Rattle.facet_solver.specs.schema.Selected.{same_variant}
use Rattle.facet_solver.specs.set.IndexSet.{has_index}
use Rattle.facet_solver.specs.solver.State.{State, mark_seen, or_all, passing, retain, see_key, where_any}
use Rattle.facet_solver.specs.solver.Tag.{has_no_other_under, has_variant_under, keep_variant, last_variant, see_tag, variant_under}
use Rattle.facet_solver.specs.declared.schema.index.entry.Entry.{Entry}
use Rattle.facet_solver.proofs.IndexSet.{any_passes, filter_filter, has_some}
use Rattle.facet_solver.proofs.Kept.{members_pass}
use Rattle.facet_solver.proofs.LookUps.{has_field}

pub filter_agree : (p q : ℕ → Bool) (n : ℕ) (xs : List ℕ) → All (λ i. i < n) xs → ((i : ℕ) → i < n → p i ≡ q i) → filter p xs ≡ filter q xs
filter_agree p q n [] within same = refl
filter_agree p q n (x ∷ xs) within same =
    let here : p x ≡ q x = same x (within 0 x (omega arith)) in
    let later : filter p xs ≡ filter q xs = filter_agree p q n xs (λ k d low. within (suc k) d (omega arith)) same in
    rw (here, later) refl

-- some index of those below a bound passes either of two tests that agree there
pub any_agree : (p q : ℕ → Bool) (n : ℕ) (xs : List ℕ) → All (λ i. i < n) xs → ((i : ℕ) → i < n → p i ≡ q i) → list_any p xs ≡ list_any q xs
any_agree p q n xs within same = any_passes p xs ∙ ap has_some (filter_agree p q n xs within same) ∙ sym (any_passes q xs)

where_some : (xs : List ℕ) (some none : State) → where_any xs some none ≡ (if has_some xs then some else none)
where_some [] some none = refl
where_some (x ∷ xs) some none = refl

none_some : (xs : List ℕ) → (has_some xs ≡ true → xs ≢ []) × (xs ≢ [] → has_some xs ≡ true)
none_some [] = (λ e. absurd (false≢true e), λ ne. absurd (ne refl))
none_some (x ∷ xs) = (λ _ e. cons_some x xs e, λ _. refl)
  where
    cons_some : (x : ℕ) (xs : List ℕ) → (x ∷ xs) ≡ [] → ⊥
    cons_some x xs e = cc

pub is_named : (xs : List ℕ) (result : Bool) → result ≡ has_some xs → IsTrue result ↔ (xs ≢ [])
is_named xs result is = (λ yes. (none_some xs).0 (sym is ∙ yes), λ ne. is ∙ (none_some xs).1 ne)

-- indices that are kept, or all where none is
pub or_all_if : (xs all : List ℕ) → or_all xs all ≡ (if has_some xs then xs else all)
or_all_if [] all = refl
or_all_if (x ∷ xs) all = refl

-- the field of a key, by the variant that it selects
by_field : (variant : Name) (o : Option FieldView)
    → option_map_or (λ (f : FieldView). same_variant (last_variant f.path) (Some variant)) o false
    ≡ option_map_or (λ other. name_eq other variant) (option_and_then (λ (f : FieldView). last_variant f.path) o) false
by_field variant None = refl
by_field variant (Some f) = go (last_variant f.path)
  where
    go : (v : Option Name) → same_variant v (Some variant) ≡ option_map_or (λ other. name_eq other variant) v false
    go None = refl
    go (Some other) = refl

either_by_field : (variant : Name) (key : Key) (r : Resolved)
    → (option_map_or (λ (f : FieldView). same_variant (last_variant f.path) (Some variant)) (field_by_key key r) false
    || option_map_or (λ (f : FieldView). same_variant (last_variant f.path) None) (field_by_key key r) false)
    ≡ (has_key key r && option_map_or (λ other. name_eq other variant) (option_and_then (λ (f : FieldView). last_variant f.path) (field_by_key key r)) true)
either_by_field variant key r = go (field_by_key key r)
  where
    of : (v : Option Name) → (same_variant v (Some variant) || same_variant v None) ≡ option_map_or (λ other. name_eq other variant) v true
    of None = refl
    of (Some other) = or-false (name_eq other variant)

    go : (o : Option FieldView)
        → (option_map_or (λ (f : FieldView). same_variant (last_variant f.path) (Some variant)) o false
        || option_map_or (λ (f : FieldView). same_variant (last_variant f.path) None) o false)
        ≡ (is_some o && option_map_or (λ other. name_eq other variant) (option_and_then (λ (f : FieldView). last_variant f.path) o) true)
    go None = refl
    go (Some f) = of (last_variant f.path)

named_has_key : (variant : Name) (o : Option FieldView)
    → (is_some o && option_map_or (λ other. name_eq other variant) (option_and_then (λ (f : FieldView). last_variant f.path) o) false)
    ≡ option_map_or (λ other. name_eq other variant) (option_and_then (λ (f : FieldView). last_variant f.path) o) false
named_has_key variant None = refl
named_has_key variant (Some f) = refl

-- ---- a solver by the entry of a tag
module _ (tag variant : Name) (s : State) where
  abbrev rs : List Resolved
  rs = s.schema.resolutions

  abbrev K : ℕ → Bool
  K = passes (has_key (flat_key tag)) rs

  abbrev V : ℕ → Bool
  V = passes (has_variant_under tag variant) rs

  abbrev N : ℕ → Bool
  N = passes (has_no_other_under tag variant) rs

  -- a resolution that has the variant has the key
  implied : (i : ℕ) → (K i && V i) ≡ V i
  implied i = go (slice_get rs i)
    where
      go : (o : Option Resolved) → (option_map_or (has_key (flat_key tag)) o false && option_map_or (has_variant_under tag variant) o false) ≡ option_map_or (has_variant_under tag variant) o false
      go None = refl
      go (Some r) = named_has_key variant (field_by_key (flat_key tag) r)

  kept_twice : filter V (filter K s.candidates) ≡ filter V s.candidates
  kept_twice = filter_filter K V s.candidates ∙ ap (λ p. filter p s.candidates) (λ j i. implied i j)

  -- so it is a candidate after the key if it was one before
  passing_seen : filter V (or_all (filter K s.candidates) s.candidates) ≡ filter V s.candidates
  passing_seen = go (filter K s.candidates) refl
    where
      go : (xs : List ℕ) → filter K s.candidates ≡ xs → filter V (or_all xs s.candidates) ≡ filter V s.candidates
      go [] none = refl
      go (x ∷ xs) some = ap (filter V) (sym some) ∙ kept_twice

  -- where one has the variant, one has the key
  key_seen : has_some (filter V s.candidates) ≡ true → or_all (filter K s.candidates) s.candidates ≡ filter K s.candidates
  key_seen some = go (filter K s.candidates) refl
    where
      go : (xs : List ℕ) → filter K s.candidates ≡ xs → or_all xs s.candidates ≡ xs
      go [] none = absurd (false≢true (ap (λ xs. has_some (filter V xs)) (sym none) ∙ ap has_some kept_twice ∙ some))
      go (x ∷ xs) is = refl

  -- what is left of the solver where a candidate has the variant
  left_named : has_some (filter V s.candidates) ≡ true → retain (has_no_other_under tag variant) (see_key (flat_key tag) s) ≡ see_tag tag variant s
  left_named some =
      ap (λ b. if b then retain (has_no_other_under tag variant) (see_key (flat_key tag) s) else see_key (flat_key tag) s) (sym (ap has_some passing_seen ∙ some))
      ∙ sym (where_some (passing (has_variant_under tag variant) (see_key (flat_key tag) s)) (retain (has_no_other_under tag variant) (see_key (flat_key tag) s)) (see_key (flat_key tag) s))

  -- and where none has
  pub left_unnamed : has_some (filter V s.candidates) ≡ false → see_key (flat_key tag) s ≡ see_tag tag variant s
  left_unnamed none =
      ap (λ b. if b then retain (has_no_other_under tag variant) (see_key (flat_key tag) s) else see_key (flat_key tag) s) (sym (ap has_some passing_seen ∙ none))
      ∙ sym (where_some (passing (has_variant_under tag variant) (see_key (flat_key tag) s)) (retain (has_no_other_under tag variant) (see_key (flat_key tag) s)) (see_key (flat_key tag) s))

  -- the answer
  pub answered : (result : Bool) → result ≡ has_some (filter V s.candidates) → IsTrue result ↔ (passing (has_variant_under tag variant) (see_key (flat_key tag) s) ≢ [])
  answered result is = is_named (passing (has_variant_under tag variant) (see_key (flat_key tag) s)) result (is ∙ ap has_some (sym passing_seen))

  -- where no resolution has the tag
  module _ (none : (i : ℕ) → field_at (flat_key tag) rs i ≡ None) where
    never : (i : ℕ) → V i ≡ false
    never i = go (slice_get rs i) (none i)
      where
        go : (o : Option Resolved) → option_and_then (field_by_key (flat_key tag)) o ≡ None → option_map_or (has_variant_under tag variant) o false ≡ false
        go None is = refl
        go (Some r) is = ap (λ f. option_map_or (λ other. name_eq other variant) (option_and_then (λ (f : FieldView). last_variant f.path) f) false) is

    pub none_passes : has_some (filter V s.candidates) ≡ false
    none_passes = go s.candidates
      where
        go : (xs : List ℕ) → has_some (filter V xs) ≡ false
        go [] = refl
        go (x ∷ xs) = ap (λ b. has_some (cond b (x ∷ filter V xs) (filter V xs))) (never x) ∙ go xs

    never_key : (i : ℕ) → K i ≡ false
    never_key i = sym (has_field (flat_key tag) rs i) ∙ ap (λ f. is_some f) (none i)

    pub none_left : (seen : List Key) → seen ≡ insert_key key_cmp s.seen (flat_key tag) → record { schema = s.schema; candidates = s.candidates; seen = seen } ≡ see_tag tag variant s
    none_left seen keys =
        let kept : s.candidates ≡ or_all (filter K s.candidates) s.candidates = sym (ap (λ xs. or_all xs s.candidates) (go s.candidates)) in
        (λ j. record { schema = s.schema; candidates = kept j; seen = keys j }) ∙ left_unnamed none_passes
      where
        go : (xs : List ℕ) → filter K xs ≡ []
        go [] = refl
        go (x ∷ xs) = ap (λ b. cond b (x ∷ filter K xs) (filter K xs)) (never_key x) ∙ go xs

  -- by the entry of the tag
  module _ (entry : Entry) (is : IsIndexEntry (length rs) (field_at (flat_key tag) rs) entry) (within : All (λ i. i < length rs) s.candidates) where
    selects_named : (i : ℕ) → i < length rs → selects_in entry (Some variant) i ≡ V i
    selects_named i low = is.selected (Some variant) i low ∙ go (slice_get rs i)
      where
        go : (o : Option Resolved) → option_map_or (λ (f : FieldView). same_variant (last_variant f.path) (Some variant)) (option_and_then (field_by_key (flat_key tag)) o) false
            ≡ option_map_or (has_variant_under tag variant) o false
        go None = refl
        go (Some r) = by_field variant (field_by_key (flat_key tag) r)

    selects_either : (i : ℕ) → i < length rs → (selects_in entry (Some variant) i || selects_in entry None i) ≡ (K i && N i)
    selects_either i low =
        (λ j. is.selected (Some variant) i low j || is.selected None i low j) ∙ go (slice_get rs i)
      where
        go : (o : Option Resolved)
            → (option_map_or (λ (f : FieldView). same_variant (last_variant f.path) (Some variant)) (option_and_then (field_by_key (flat_key tag)) o) false
            || option_map_or (λ (f : FieldView). same_variant (last_variant f.path) None) (option_and_then (field_by_key (flat_key tag)) o) false)
            ≡ (option_map_or (has_key (flat_key tag)) o false && option_map_or (has_no_other_under tag variant) o false)
        go None = refl
        go (Some r) = either_by_field variant (flat_key tag) r

    pub told : (result : Bool) → result ≡ list_any (selects_in entry (Some variant)) s.candidates → result ≡ has_some (filter V s.candidates)
    told result named =
        named ∙ any_passes (selects_in entry (Some variant)) s.candidates
        ∙ ap has_some (filter_agree (selects_in entry (Some variant)) V (length rs) s.candidates within selects_named)

    pub named_left : (members : List ℕ) (seen : List Key) → true ≡ list_any (selects_in entry (Some variant)) s.candidates
        → members ≡ filter (λ i. selects_in entry (Some variant) i || selects_in entry None i) s.candidates → seen ≡ insert_key key_cmp s.seen (flat_key tag)
        → record { schema = s.schema; candidates = members; seen = seen } ≡ see_tag tag variant s
    named_left members seen named are keys =
        let some : has_some (filter V s.candidates) ≡ true = sym (told true named) in
        let kept : members ≡ filter N (or_all (filter K s.candidates) s.candidates) =
        are ∙ filter_agree (λ i. selects_in entry (Some variant) i || selects_in entry None i) (λ i. K i && N i) (length rs) s.candidates within selects_either
        ∙ sym (filter_filter K N s.candidates) ∙ ap (filter N) (sym (key_seen some)) in
        (λ j. record { schema = s.schema; candidates = kept j; seen = keys j }) ∙ left_named some

    pub unnamed_left : (members : List ℕ) (seen : List Key) → false ≡ list_any (selects_in entry (Some variant)) s.candidates
        → members ≡ or_all (filter (has_index entry.set.members) s.candidates) s.candidates → seen ≡ insert_key key_cmp s.seen (flat_key tag)
        → record { schema = s.schema; candidates = members; seen = seen } ≡ see_tag tag variant s
    unnamed_left members seen named are keys =
        let kept : members ≡ or_all (filter K s.candidates) s.candidates = are ∙ ap (λ xs. or_all xs s.candidates) (members_pass (flat_key tag) rs entry is s.candidates) in
        (λ j. record { schema = s.schema; candidates = kept j; seen = keys j }) ∙ left_unnamed (sym (told false named))
