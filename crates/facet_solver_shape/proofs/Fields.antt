-- Tables of fields, and searches among fields that stand under their stored keys.
use Rattle.std.proofs.Common.{◌≡◌, Bool, true, false, cond, ◌&&◌, T, Option, Some, List, [], ◌∷◌, map, refl, sym, ◌∙◌, ap, subst, ◌≢◌, ◌⊎◌, inl, inr, None, MatchOption, All}
use Rattle.std.specs.declared.cmp.Ordering.{Ordering}
use Rattle.std.specs.declared.cmp.Ordering.TheVariants.{Less, Equal, Greater}
use Rattle.std.specs.Cmp.{IsTotalOrder}
use Rattle.std.specs.Option.{option_map}
use Rattle.std.specs.Ordering.{is_lt, match_ordering, eq_by_cmp, is_eq}
use Rattle.std.specs.List.{AllByRecursion, find}
use Rattle.std.specs.List.Sorted.{IsStrictlySortedBy}
use Rattle.std.specs.Map.{keys_of, lookup}
use Rattle.std.specs.BTreeMap.{insert_entry, is_at}
use Rattle.std.specs.FinMap as finite
use Rattle.std.specs.FinMap.{find as find_at}
use Rattle.std.specs.FinMap.Entries.{below_all}
use Rattle.facet_solver_shape.specs.declared.resolution.key.FieldKey.{FieldKey}
use Rattle.facet_solver_shape.specs.contracts.resolution.key.FieldKeyOrd.TheImpl as key_order
use Rattle.facet_solver_shape.specs.contracts.resolution.key.FieldCategoryOrd.TheImpl as category_order
use Rattle.facet_solver_shape.specs.declared.resolution.key.FieldCategory.{FieldCategory}
use Rattle.facet_solver_shape.specs.Keys.{Key, key_cmp, key_of, category_cmp, flat_key, stored_key}
use Rattle.facet_solver_shape.specs.Fields.{FieldView, IsStored, as_optional, key_of_field, entry_view, IsFieldTable, field_entries_view, IsLeastIfAny, matches, has_name, means}
use Rattle.facet_solver_shape.proofs.Keys.{key_cmp_total, key_cmp_same, key_agrees, category_cmp_agrees}
use Rattle.std.specs.Cmp.Lexicographic.{texts_ties}
use Rattle.std.proofs.lemmas.Bool.{false≢true}
use Rattle.std.proofs.lemmas.Cmp.{tied_itself}
use Rattle.std.proofs.lemmas.List.Elements.{recursion_from_All}
use Rattle.facet_solver_shape.specs.Names.{Name, name_eq}
use Rattle.facet_solver_shape.specs.declared.resolution.key.FieldCategory.TheVariants.{Flat}
use Rattle.facet_solver_shape.proofs.Finite.{equal, cases_bool, none_is_some, same_value}
use Rattle.facet_solver_shape.proofs.Viewed.{viewed-put_back}
use Rattle.facet_solver_shape.proofs.Resolved.{first_part, second_part, none_above, none_below}

-- keys that rise in one order rise, seen by a function, in an order that agrees
module _ {K J : Type 0} (R : K → K → Ordering) (S : J → J → Ordering) (key : K → J) (agree : (x y : K) → R x y ≡ S (key x) (key y)) where
  below_seen : (x : K) (ks : List K) → AllByRecursion (λ y. R x y ≡ Less) ks → AllByRecursion (λ y. S (key x) y ≡ Less) (map key ks)
  below_seen x [] below = tt
  below_seen x (y ∷ ks) below = (sym (agree x y) ∙ below.0, below_seen x ks below.1)

  pub rising_seen : (ks : List K) → IsStrictlySortedBy R ks → IsStrictlySortedBy S (map key ks)
  unfolding IsStrictlySortedBy
  rising_seen [] rising = tt
  rising_seen (x ∷ ks) rising = (below_seen x ks rising.0, rising_seen ks rising.1)

both : (a b : Bool) → T a → T b → T (a && b)
both true b p q = q
both false b p q = p

module _ {K X : Type 0} (R : K → K → Ordering) where
  below_test : (x : K) (es : List (K × X)) → AllByRecursion (λ y. R x y ≡ Less) (keys_of es) → T (below_all R x es)
  below_test x [] below = tt
  below_test x (e ∷ es) below = both _ _ (subst (λ r. T (is_lt r)) (sym below.0) tt) (below_test x es below.1)

  -- the test of entries whose keys rise
  pub rising_test : (es : List (K × X)) → IsStrictlySortedBy R (keys_of es) → T (finite.is_sorted R es)
  unfolding IsStrictlySortedBy
  rising_test [] rising = tt
  rising_test (e ∷ es) rising = both _ _ (below_test e.0 es rising.0) (rising_test es rising.1)

-- entries whose keys rise are the entries of their map
module _ {K X : Type 0} {R : K → K → Ordering} (o : IsTotalOrder R) (same : finite.IsAntisymmetric R) where
  pub entries-from_entries : (es : List (K × X)) → T (finite.is_sorted R es) → finite.entries (finite.from_entries {R = R} es) ≡ es
  entries-from_entries es sorted =
      ap finite.entries (finite.same_map o same (finite.from_entries es) (finite.from_sorted es) (λ q. finite.get-from_entries o es q ∙ sym (finite.get-from_sorted R es q sorted)))
      ∙ finite.entries-from_sorted R es sorted

-- the keys of viewed entries
keys_viewed : (es : List (FieldKey × FieldView)) → map key_of (keys_of es) ≡ keys_of (map entry_view es)
keys_viewed [] = refl
keys_viewed (e ∷ es) = ap (λ ks. key_of e.0 ∷ ks) (keys_viewed es)

-- what a map's own order says of viewed keys
pub rising_viewed : (es : List (FieldKey × FieldView)) → IsStrictlySortedBy (key_order.ghosts).cmp (keys_of es) → IsStrictlySortedBy key_cmp (keys_of (map entry_view es))
rising_viewed es rising = subst (IsStrictlySortedBy key_cmp) (keys_viewed es) (rising_seen (key_order.ghosts).cmp key_cmp key_of key_agrees (keys_of es) rising)

-- a field is put under its stored key
pub stored-insert_entry : (k : FieldKey) (f : FieldView) (es : List (FieldKey × FieldView)) → key_of k ≡ key_of_field f → AllByRecursion IsStored (map entry_view es)
    → AllByRecursion IsStored (map entry_view (insert_entry (key_order.ghosts).cmp es k f))
stored-insert_entry k f [] here all = (here, tt)
stored-insert_entry k f (e ∷ es) here all = go ((key_order.ghosts).cmp k e.0) (sym (key_agrees k e.0)) (stored-insert_entry k f es here all.1)
  where
    go : (r : Ordering) → key_cmp (key_of k) (key_of e.0) ≡ r → AllByRecursion IsStored (map entry_view (insert_entry (key_order.ghosts).cmp es k f))
        → AllByRecursion IsStored (map entry_view (match_ordering r ((k, f) ∷ e ∷ es) ((e.0, f) ∷ es) (e ∷ insert_entry (key_order.ghosts).cmp es k f)))
    go Less is rest = (here, all)
    go Equal is rest = (sym (key_cmp_same _ _ is) ∙ here, all.1)
    go Greater is rest = (all.0, rest)

-- a field that is found stands under its stored key
stored_found : (k : FieldKey) (f : FieldView) (es : List (FieldKey × FieldView)) → AllByRecursion IsStored (map entry_view es) → lookup (is_at ((key_order.ghosts).cmp k)) es ≡ Some f → key_of k ≡ key_of_field f
stored_found k f [] all found = none_is_some f found
stored_found k f (e ∷ es) all found = go ((key_order.ghosts).cmp k e.0) (sym (key_agrees k e.0)) (stored_found k f es all.1) found
  where
    go : (r : Ordering) → key_cmp (key_of k) (key_of e.0) ≡ r → (lookup (is_at ((key_order.ghosts).cmp k)) es ≡ Some f → key_of k ≡ key_of_field f)
        → cond (is_eq r) (Some e.1) (lookup (is_at ((key_order.ghosts).cmp k)) es) ≡ Some f → key_of k ≡ key_of_field f
    go Less is rest found = rest found
    go Equal is rest found = key_cmp_same _ _ is ∙ all.0 ∙ ap key_of_field (same_value e.1 f found)
    go Greater is rest found = rest found

-- what is found in a table, put back
module _ (k : FieldKey) (f : FieldView) (es : List (FieldKey × FieldView)) (table : IsFieldTable es) (found : lookup (is_at ((key_order.ghosts).cmp k)) es ≡ Some f) where
  pub put_back_table : (made : List (FieldKey × FieldView)) → made ≡ insert_entry (key_order.ghosts).cmp es k f → IsStrictlySortedBy (key_order.ghosts).cmp (keys_of made) → IsFieldTable made
  put_back_table made is rising = record {
    rising = rising_viewed made rising;
    stored = rw is (stored-insert_entry k f es (stored_found k f es table.stored found) table.stored);
  }

  pub put_back_view : field_entries_view (insert_entry (key_order.ghosts).cmp es k f) ≡ field_entries_view es
  put_back_view = viewed-put_back key_cmp_total key_cmp_same key_of key_agrees k f es found

-- the entries of a table, in order
pub entries_of_table : (es : List (FieldKey × FieldView)) → IsFieldTable es → map entry_view es ≡ finite.entries (field_entries_view es)
entries_of_table es table = sym (entries-from_entries key_cmp_total key_cmp_same (map entry_view es) (rising_test key_cmp (map entry_view es) table.rising))

-- no entries
pub empty_table : IsFieldTable []
unfolding IsStrictlySortedBy
empty_table = record { rising = tt; stored = tt }

-- the fields of entries
abbrev pub fields_of : List (FieldKey × FieldView) → List FieldView
fields_of es = map (λ e. e.1) (map entry_view es)

-- an entry whose field is not required
abbrev pub optional_entry : FieldKey × FieldView → FieldKey × FieldView
optional_entry e = (e.0, as_optional e.1)

keys_of_optional : (es : List (FieldKey × FieldView)) → keys_of (map entry_view es) ≡ keys_of (map entry_view (map optional_entry es))
keys_of_optional [] = refl
keys_of_optional (e ∷ es) = ap (λ ks. key_of e.0 ∷ ks) (keys_of_optional es)

stored_optional : (es : List (FieldKey × FieldView)) → AllByRecursion IsStored (map entry_view es) → AllByRecursion IsStored (map entry_view (map optional_entry es))
stored_optional [] stored = tt
stored_optional (e ∷ es) stored = (stored.0, stored_optional es stored.1)

-- keys do not say what is required
pub optional_table : (es : List (FieldKey × FieldView)) → IsFieldTable es → IsFieldTable (map optional_entry es)
optional_table es table = record {
  rising = subst (IsStrictlySortedBy key_cmp) (keys_of_optional es) table.rising;
  stored = stored_optional es table.stored;
}

find_optional : (q : Key) (es : List (FieldKey × FieldView)) → find_at key_cmp q (map entry_view (map optional_entry es)) ≡ option_map as_optional (find_at key_cmp q (map entry_view es))
find_optional q [] = refl
find_optional q (e ∷ es) = ap (cond (eq_by_cmp key_cmp q (key_of e.0)) (Some (as_optional e.1))) (find_optional q es) ∙ moved (eq_by_cmp key_cmp q (key_of e.0)) e.1 _
  where
    moved : (b : Bool) (x : FieldView) (r : Option FieldView) → cond b (Some (as_optional x)) (option_map as_optional r) ≡ option_map as_optional (cond b (Some x) r)
    moved true x r = refl
    moved false x r = refl

-- what is found once nothing is required
pub get_optional : (q : Key) (es : List (FieldKey × FieldView)) → finite.get (field_entries_view (map optional_entry es)) q ≡ option_map as_optional (finite.get (field_entries_view es) q)
get_optional q es =
    finite.get-from_entries key_cmp_total (map entry_view (map optional_entry es)) q
    ∙ find_optional q es
    ∙ ap (option_map as_optional) (sym (finite.get-from_entries key_cmp_total (map entry_view es) q))

keys_again : (cs : List FieldCategory) → map (λ c. c) cs ≡ cs
keys_again [] = refl
keys_again (c ∷ cs) = ap (λ rest. c ∷ rest) (keys_again cs)

-- the categories of catch-alls rise
pub catch_alls_rising : (es : List (FieldCategory × FieldView)) → IsStrictlySortedBy (category_order.ghosts).cmp (keys_of es) → T (finite.is_sorted category_cmp es)
catch_alls_rising es rising =
    rising_test category_cmp es (subst (IsStrictlySortedBy category_cmp) (keys_again (keys_of es)) (rising_seen (category_order.ghosts).cmp category_cmp (λ c. c) category_cmp_agrees (keys_of es) rising))

-- catch-alls are seen as they are
pub entries_again : (es : List (FieldCategory × FieldView)) → map (λ e. (e.0, e.1)) es ≡ es
entries_again [] = refl
entries_again (e ∷ es) = ap (λ rest. e ∷ rest) (entries_again es)

fields_in : List (Key × FieldView) → List FieldView
fields_in es = map (λ e. e.1) es

-- the words of the theorem, over a list of entries
abbrev NonePassesIn : List (Key × FieldView) → (FieldView → Bool) → Type 0
NonePassesIn es test = (k : Key) (f : FieldView) → find_at key_cmp k es ≡ Some f → test f ≡ false

record IsLeastIn (es : List (Key × FieldView)) (test : FieldView → Bool) (found : FieldView) : Type 0 where
  passes : test found ≡ true
  present : find_at key_cmp (key_of_field found) es ≡ Some found
  least : (k : Key) (f : FieldView) → find_at key_cmp k es ≡ Some f → test f ≡ true → key_cmp k (key_of_field found) ≢ Less

abbrev IsAnswer : List (Key × FieldView) → (FieldView → Bool) → Option FieldView → Type 0
IsAnswer es test r = MatchOption r (NonePassesIn es test) (IsLeastIn es test)

-- what stands at a key of a list with one more entry
at_key : (k : Key) (e : Key × FieldView) (es : List (Key × FieldView)) (f : FieldView) → find_at key_cmp k (e ∷ es) ≡ Some f
    → ((eq_by_cmp key_cmp k e.0 ≡ true) × (e.1 ≡ f)) ⊎ ((eq_by_cmp key_cmp k e.0 ≡ false) × (find_at key_cmp k es ≡ Some f))
at_key k e es f is = elim (cases_bool (eq_by_cmp key_cmp k e.0)) [
  | inl tie ↦ inl (tie, same_value e.1 f (rw tie at is))
  | inr apart ↦ inr (apart, rw apart at is)
]

least_of : (es : List (Key × FieldView)) (test : FieldView → Bool) → T (finite.is_sorted key_cmp es) → AllByRecursion IsStored es → IsAnswer es test (find test (fields_in es))
unfolding fields_in
least_of [] test rising stored = λ k f is. none_is_some f is
least_of (e ∷ es) test rising stored = go (test e.1) refl (least_of es test (second_part _ _ rising) stored.1)
  where
    below : T (below_all key_cmp e.0 es)
    below = first_part _ _ rising

    not_less : (k : Key) (f : FieldView) → find_at key_cmp k (e ∷ es) ≡ Some f → test f ≡ true → key_cmp k (key_of_field e.1) ≢ Less
    not_less k f is passes less = none_is_some f (sym (none_below key_cmp_total k e es (ap (key_cmp k) stored.0 ∙ less) below) ∙ is)

    here : find_at key_cmp (key_of_field e.1) (e ∷ es) ≡ Some e.1
    here = ap (λ r. cond (is_eq r) (Some e.1) (find_at key_cmp (key_of_field e.1) es)) (ap (key_cmp (key_of_field e.1)) stored.0 ∙ tied_itself key_cmp_total (key_of_field e.1))

    none_more : test e.1 ≡ false → NonePassesIn es test → NonePassesIn (e ∷ es) test
    none_more fails none k f is = elim (at_key k e es f is) [
      | inl at ↦ ap test (sym at.1) ∙ fails
      | inr at ↦ none k f at.1
    ]

    least_more : (found : FieldView) → test e.1 ≡ false → IsLeastIn es test found → IsLeastIn (e ∷ es) test found
    least_more found fails before = record { passes = before.passes; present = still (cases_bool (eq_by_cmp key_cmp (key_of_field found) e.0)); least = least }
      where
        still : (eq_by_cmp key_cmp (key_of_field found) e.0 ≡ true) ⊎ (eq_by_cmp key_cmp (key_of_field found) e.0 ≡ false) → find_at key_cmp (key_of_field found) (e ∷ es) ≡ Some found
        still (inl tie) = none_is_some found (sym (none_above key_cmp_total (key_of_field found) e.0 es (equal _ tie) below) ∙ before.present)
        still (inr apart) = rw apart before.present

        least : (k : Key) (f : FieldView) → find_at key_cmp k (e ∷ es) ≡ Some f → test f ≡ true → key_cmp k (key_of_field found) ≢ Less
        least k f is passes = elim (at_key k e es f is) [
          | inl at ↦ absurd (false≢true (sym fails ∙ ap test at.1 ∙ passes))
          | inr at ↦ before.least k f at.1 passes
        ]

    more : (r : Option FieldView) → test e.1 ≡ false → IsAnswer es test r → IsAnswer (e ∷ es) test r
    more None fails none = none_more fails none
    more (Some found) fails before = least_more found fails before

    go : (b : Bool) → test e.1 ≡ b → IsAnswer es test (find test (fields_in es)) → IsAnswer (e ∷ es) test (cond b (Some e.1) (find test (fields_in es)))
    go true passes before = record { passes = passes; present = here; least = not_less }
    go false fails before = more (find test (fields_in es)) fails before

pub least_of_map : (fields : finite.FinMap key_cmp FieldView) (test : FieldView → Bool) → AllByRecursion IsStored (finite.entries fields) → IsLeastIfAny fields test (find test (finite.values fields))
unfolding fields_in
least_of_map fields test stored = go (find test (finite.values fields)) (least_of (finite.entries fields) test (finite.entries_sorted fields) stored)
  where
    at : (k : Key) → finite.get fields k ≡ find_at key_cmp k (finite.entries fields)
    at k = finite.get-entries fields k

    go : (r : Option FieldView) → IsAnswer (finite.entries fields) test r → IsLeastIfAny fields test r
    go None none = λ k f is. none k f (sym (at k) ∙ is)
    go (Some found) least = record { passes = least.passes; present = at (key_of_field found) ∙ least.present; least = λ k f is. least.least k f (sym (at k) ∙ is) }

-- the stored key of a field of category Flat
flat_stored : (f : FieldView) → f.category ≡ Flat → key_of_field f ≡ flat_key f.name
flat_stored f flat = ap (λ c. stored_key c f.name) flat

alone_in : (es : List (Key × FieldView)) → AllByRecursion IsStored es → AllByRecursion (λ f. f.category ≡ Flat) (fields_in es) → (k : Key) (f : FieldView) → find_at key_cmp k es ≡ Some f → k ≡ flat_key f.name
unfolding fields_in
alone_in [] stored flat k f is = none_is_some f is
alone_in (e ∷ es) stored flat k f is = go (at_key k e es f is) (alone_in es stored.1 flat.1 k f)
  where
    go : ((eq_by_cmp key_cmp k e.0 ≡ true) × (e.1 ≡ f)) ⊎ ((eq_by_cmp key_cmp k e.0 ≡ false) × (find_at key_cmp k es ≡ Some f)) → (find_at key_cmp k es ≡ Some f → k ≡ flat_key f.name) → k ≡ flat_key f.name
    go (inl at) later = key_cmp_same k e.0 (equal _ at.0) ∙ stored.0 ∙ flat_stored e.1 flat.0 ∙ ap (λ g. flat_key g.name) at.1
    go (inr at) later = later at.1

-- where names alone decide a test, the first that passes stands under the flat key of the name
by_flat_key : (name : Name) (test : FieldView → Bool) → ((f : FieldView) → f.category ≡ Flat → test f ≡ name_eq name f.name) → (es : List (Key × FieldView)) → AllByRecursion IsStored es → AllByRecursion (λ f. f.category ≡ Flat) (fields_in es)
    → find test (fields_in es) ≡ find_at key_cmp (flat_key name) es
unfolding fields_in
by_flat_key name test decided [] stored flat = refl
by_flat_key name test decided (e ∷ es) stored flat =
    let same : test e.1 ≡ eq_by_cmp key_cmp (flat_key name) e.0 = decided e.1 flat.0 ∙ texts_ties name e.1.name ∙ ap (eq_by_cmp key_cmp (flat_key name)) (sym (stored.0 ∙ flat_stored e.1 flat.0)) in
    λ i. cond (same i) (Some e.1) (by_flat_key name test decided es stored.1 flat.1 i)

module _ (fields : finite.FinMap key_cmp FieldView) (stored : All IsStored (finite.entries fields)) (flat : All (λ f. f.category ≡ Flat) (finite.values fields)) where
  pub flat_alone : (k : Key) (f : FieldView) → finite.get fields k ≡ Some f → k ≡ flat_key f.name
  unfolding fields_in
  flat_alone k f is = alone_in (finite.entries fields) (recursion_from_All IsStored _ stored) (recursion_from_All (λ f. f.category ≡ Flat) _ flat) k f (sym (finite.get-entries fields k) ∙ is)

  flat_found : (name : Name) (test : FieldView → Bool) → ((f : FieldView) → f.category ≡ Flat → test f ≡ name_eq name f.name) → find test (finite.values fields) ≡ finite.get fields (flat_key name)
  unfolding fields_in
  flat_found name test decided =
      by_flat_key name test decided (finite.entries fields) (recursion_from_All IsStored _ stored) (recursion_from_All (λ f. f.category ≡ Flat) _ flat)
      ∙ sym (finite.get-entries fields (flat_key name))

  pub flat_by_name : (name : Name) → find (has_name name) (finite.values fields) ≡ finite.get fields (flat_key name)
  flat_by_name name = flat_found name (has_name name) (λ f is. refl)

  pub flat_by_key : (key : Key) → find (matches key) (finite.values fields) ≡ finite.get fields (flat_key key.name)
  flat_by_key key = flat_found key.name (matches key) (λ f is. ap (λ c. means key.dom key.name c f.name) is)
