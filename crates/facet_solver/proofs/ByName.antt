-- In the flat format seen keys say of a resolution what their names say.
use Rattle.std.proofs.Common.{◌≡◌, Bool, true, false, cond, ◌||◌, ◌&&◌, not, T, List, [], ◌∷◌, Option, Some, filter, map, refl, ap, sym, subst, ◌∙◌, ⊎_elim, inl, inr}
use Rattle.std.specs.Cmp.Lexicographic.{slice_cmp}
use Rattle.std.specs.declared.cmp.Ordering.TheVariants.{Less}
use Rattle.std.specs.FinMap as finite
use Rattle.std.specs.FinMap.{find as find_at}
use Rattle.std.specs.FinMap.Entries.{below_all}
use Rattle.std.specs.FinSet as set
use Rattle.std.specs.List.{AllByRecursion, filter_map, list_all, list_any, cons_option}
use Rattle.std.specs.List.Sorted.{IsStrictlySortedBy}
use Rattle.std.specs.Ordering.{eq_by_cmp, is_eq, nat_cmp}
use Rattle.std.proofs.lemmas.Bool.{and_from, and_parts, false≢true, or_cases, or_left, or_right}
use Rattle.std.proofs.lemmas.Cmp.{nat_list_cmp_total, tied_itself}
use Rattle.std.proofs.lemmas.List.Elements.{All-from_recursion}
use Rattle.std.proofs.lemmas.List.Kept.{IsStrictlySortedBy-filter}
use Rattle.facet_solver_shape.specs.declared.resolution.key.FieldCategory.TheVariants.{Flat as FlatCategory}
use Rattle.facet_solver_shape.specs.Fields.{FieldView, IsStored, has_name, matches, means}
use Rattle.facet_solver_shape.specs.Keys.{Key, flat_key, key_cmp, stored_key}
use Rattle.facet_solver_shape.specs.Names.{Name}
use Rattle.facet_solver_shape.specs.Resolved.{AreRequiredNames, Resolved, field_by_name}
use Rattle.facet_solver_shape.proofs.Fields.{flat_by_name}
use Rattle.facet_solver_shape.proofs.Finite.{cases_bool, equal, none_is_some, same_value}
use Rattle.facet_solver_shape.proofs.Keys.{key_cmp_total, name_cmp_same}
use Rattle.facet_solver_shape.proofs.Resolved.{IsFound, first_part, found_entries, less, second_part}
use Rattle.facet_solver.specs.solver.ByName.{is_viable_by_name, missing_by_name, unseen_names, names_among, unknown_by_name}
use Rattle.facet_solver.specs.solver.Failure.{in_byte_order, is_met, missing, names_where}
use Rattle.facet_solver.specs.Resolutions.{has_field_named, has_key, is_known}
use Rattle.facet_solver.specs.solver.Report.{is_viable, unknown_names}
use Rattle.facet_solver.proofs.ByteOrder.{items_in_order, member-in_byte_order, same_sorted, sorted-in_byte_order}
use Rattle.facet_solver.proofs.FieldCategories.{found_first, found_later}
use Rattle.facet_solver.proofs.NameEntries.{is_some-found}
use Rattle.facet_solver.proofs.Verdict.{contains-names_among, is_subset-from_list, same_test}

-- ---- a test that all pass leaves nothing of those that do not
pub none_left : {X : Type 0} (p : X → Bool) (xs : List X) → list_all p xs ≡ true → filter (λ x. not (p x)) xs ≡ []
none_left p [] all = refl
none_left p (x ∷ xs) all = go (p x) all (none_left p xs)
  where
    go : (b : Bool) → (b && list_all p xs) ≡ true → (list_all p xs ≡ true → filter (λ x. not (p x)) xs ≡ [])
        → cond (not b) (x ∷ filter (λ x. not (p x)) xs) (filter (λ x. not (p x)) xs) ≡ []
    go true all rest = rest all
    go false all rest = absurd (false≢true all)

pub all_passed : {X : Type 0} (p : X → Bool) (xs : List X) → filter (λ x. not (p x)) xs ≡ [] → list_all p xs ≡ true
all_passed p [] none = refl
all_passed p (x ∷ xs) none = go (p x) none (all_passed p xs)
  where
    go : (b : Bool) → cond (not b) (x ∷ filter (λ x. not (p x)) xs) (filter (λ x. not (p x)) xs) ≡ []
        → (filter (λ x. not (p x)) xs ≡ [] → list_all p xs ≡ true) → (b && list_all p xs) ≡ true
    go true none rest = rest none
    go false none rest = cc

-- a resolution is viable by name where it lacks no name
pub viable_by_name : (seen : List Key) (r : Resolved) → is_viable_by_name seen r ≡ list_all (set.contains (names_among seen)) (in_byte_order (set.items r.required_names))
viable_by_name seen r =
    ap (λ s. set.is_subset s (names_among seen)) (sym (items_in_order r.required_names))
    ∙ is_subset-from_list nat_list_cmp_total (names_among seen) (in_byte_order (set.items r.required_names))

-- ---- fields of category Flat
abbrev pub IsFlat : FieldView → Type 0
IsFlat f = f.category ≡ FlatCategory

-- a key matches one that has its name
flat_match : (key : Key) (f : FieldView) → IsFlat f → matches key f ≡ has_name key.name f
flat_match key f flat = ap (λ c. means key.dom key.name c f.name) flat

any_flat : (key : Key) (fs : List FieldView) → AllByRecursion IsFlat fs → list_any (matches key) fs ≡ list_any (has_name key.name) fs
any_flat key [] flat = refl
any_flat key (f ∷ fs) flat = λ i. flat_match key f flat.0 i || any_flat key fs flat.1 i

-- so a resolution has a key where it has a field of the name
flat_key_had : (key : Key) (r : Resolved) → AllByRecursion IsFlat (finite.values r.fields) → has_key key r ≡ has_field_named key.name r
flat_key_had key r flat = is_some-found (matches key) (finite.values r.fields) ∙ any_flat key (finite.values r.fields) flat

any_known : (key : Key) (rs : List Resolved) → AllByRecursion (λ (r : Resolved). AllByRecursion IsFlat (finite.values r.fields)) rs
    → is_known rs key ≡ list_any (has_field_named key.name) rs
any_known key [] flat = refl
any_known key (r ∷ rs) flat = λ i. flat_key_had key r flat.0 i || any_known key rs flat.1 i

-- and names are unknown by matching keys where they are by name
pub unknown_alike : (seen : List Key) (rs : List Resolved) → AllByRecursion (λ (r : Resolved). AllByRecursion IsFlat (finite.values r.fields)) rs
    → unknown_names seen rs ≡ unknown_by_name seen rs
unknown_alike seen rs flat = ap (λ (test : Key → Bool). names_where test seen) (λ i key. not (any_known key rs flat i))

-- a seen key matches one where a seen key bears its name
any_matches : (seen : List Key) (f : FieldView) → IsFlat f → list_any (λ key. matches key f) seen ≡ set.contains (names_among seen) f.name
any_matches seen f flat =
    ap (λ (test : Key → Bool). list_any test seen) (λ i key. flat_match key f flat i) ∙ sym (contains-names_among seen f.name)

-- whether a field is required and has a name
abbrev is_required_as : Name → FieldView → Bool
is_required_as name f = f.is_required && eq_by_cmp (slice_cmp nat_cmp) name f.name

de_morgan : (a b : Bool) → not (not a || b) ≡ (a && not b)
de_morgan true b = refl
de_morgan false b = refl

-- a field is not met where it is required and its name was not seen
unmet : (seen : List Key) (f : FieldView) → IsFlat f → not (is_met seen f) ≡ (f.is_required && not (set.contains (names_among seen) f.name))
unmet seen f flat =
    de_morgan f.is_required (list_any (λ key. matches key f) seen) ∙ ap (λ b. f.is_required && not b) (any_matches seen f flat)

-- ---- the names of the fields that are lacked
-- whether a name is that of a field that is lacked
named_lack : (seen : List Key) (q : Name) (f : FieldView) → IsFlat f
    → (not (is_met seen f) && eq_by_cmp (slice_cmp nat_cmp) q f.name) ≡ (not (set.contains (names_among seen) q) && is_required_as q f)
named_lack seen q f flat =
    ap (λ b. b && eq_by_cmp (slice_cmp nat_cmp) q f.name) (unmet seen f flat)
    ∙ go (eq_by_cmp (slice_cmp nat_cmp) q f.name) refl
  where
    moved : (a b : Bool) → ((a && b) && true) ≡ (b && (a && true))
    moved true true = refl
    moved true false = refl
    moved false true = refl
    moved false false = refl

    neither : (a b c : Bool) → ((a && b) && false) ≡ (c && (a && false))
    neither true true true = refl
    neither true true false = refl
    neither true false true = refl
    neither true false false = refl
    neither false b true = refl
    neither false b false = refl

    go : (b : Bool) → eq_by_cmp (slice_cmp nat_cmp) q f.name ≡ b
        → ((f.is_required && not (set.contains (names_among seen) f.name)) && b) ≡ (not (set.contains (names_among seen) q) && (f.is_required && b))
    go true tie =
        moved f.is_required (not (set.contains (names_among seen) f.name))
        ∙ ap (λ n. not (set.contains (names_among seen) n) && (f.is_required && true)) (sym (name_cmp_same q f.name (equal (slice_cmp nat_cmp q f.name) tie)))
    go false apart = neither f.is_required (not (set.contains (names_among seen) f.name)) (not (set.contains (names_among seen) q))

-- the name of one more field, if it is lacked
one_named : (q : Name) (b : Bool) (f : FieldView) (fs : List FieldView)
    → list_any (eq_by_cmp (slice_cmp nat_cmp) q) (map (λ (g : FieldView). g.name) (cond b (f ∷ fs) fs))
    ≡ ((b && eq_by_cmp (slice_cmp nat_cmp) q f.name) || list_any (eq_by_cmp (slice_cmp nat_cmp) q) (map (λ (g : FieldView). g.name) fs))
one_named q true f fs = refl
one_named q false f fs = refl

shared : (n a b : Bool) → ((n && a) || (n && b)) ≡ (n && (a || b))
shared true a b = refl
shared false a b = refl

lacks_named : (seen : List Key) (q : Name) (fs : List FieldView) → AllByRecursion IsFlat fs
    → list_any (eq_by_cmp (slice_cmp nat_cmp) q) (map (λ (f : FieldView). f.name) (filter (λ f. not (is_met seen f)) fs))
    ≡ (not (set.contains (names_among seen) q) && list_any (is_required_as q) fs)
lacks_named seen q [] flat = nothing (not (set.contains (names_among seen) q))
  where
    nothing : (b : Bool) → false ≡ (b && false)
    nothing true = refl
    nothing false = refl
lacks_named seen q (f ∷ fs) flat =
    one_named q (not (is_met seen f)) f (filter (λ f. not (is_met seen f)) fs)
    ∙ (λ i. named_lack seen q f flat.0 i || lacks_named seen q fs flat.1 i)
    ∙ shared (not (set.contains (names_among seen) q)) (is_required_as q f) (list_any (is_required_as q) fs)

-- ---- the required names of a resolution are those of its fields
found_any : (test : FieldView → Bool) (es : List (Key × FieldView)) (k : Key) (f : FieldView) → find_at key_cmp k es ≡ Some f → test f ≡ true
    → list_any test (map (λ (e : Key × FieldView). e.1) es) ≡ true
found_any test [] k f here passes = none_is_some f here
found_any test (e ∷ es) k f here passes = go (eq_by_cmp key_cmp k e.0) here (λ later. found_any test es k f later passes)
  where
    go : (b : Bool) → cond b (Some e.1) (find_at key_cmp k es) ≡ Some f → (find_at key_cmp k es ≡ Some f → list_any test (map (λ (e : Key × FieldView). e.1) es) ≡ true)
        → (test e.1 || list_any test (map (λ (e : Key × FieldView). e.1) es)) ≡ true
    go true here rest = or_left (test e.1) (list_any test (map (λ (e : Key × FieldView). e.1) es)) (ap test (same_value e.1 f here) ∙ passes)
    go false here rest = or_right (test e.1) (list_any test (map (λ (e : Key × FieldView). e.1) es)) (rest here)

any_found : (test : FieldView → Bool) (es : List (Key × FieldView)) → T (finite.is_sorted key_cmp es) → list_any test (map (λ (e : Key × FieldView). e.1) es) ≡ true
    → (k : Key) × (f : FieldView) × (find_at key_cmp k es ≡ Some f) × (test f ≡ true)
any_found test [] rising any = absurd (false≢true any)
any_found test (e ∷ es) rising any =
    ⊎_elim
    (λ here. (e.0, e.1, found_first e es, here))
    (λ later. let at = any_found test es (second_part _ _ rising) later in (at.0, at.1, found_later e es rising at.0 at.1 at.2, at.3))
    (or_cases (test e.1) (list_any test (map (λ (e : Key × FieldView). e.1) es)) any)

required_named : (fields : finite.FinMap key_cmp FieldView) (names : set.FinSet (slice_cmp nat_cmp)) → AreRequiredNames fields names → (q : Name)
    → set.contains names q ≡ list_any (is_required_as q) (finite.values fields)
required_named fields names are q =
    same_test (set.contains names q) (list_any (is_required_as q) (finite.values fields))
    (λ has.
    let is = (are q).0 has in
    found_any (is_required_as q) (finite.entries fields) is.key is.field (sym (finite.get-entries fields is.key) ∙ is.present)
    (and_from is.field.is_required (eq_by_cmp (slice_cmp nat_cmp) q is.field.name) is.is_required
    (ap (λ n. eq_by_cmp (slice_cmp nat_cmp) q n) is.same_name ∙ ap is_eq (tied_itself nat_list_cmp_total q))))
    (λ any.
    let at = any_found (is_required_as q) (finite.entries fields) (finite.entries_sorted fields) any in
    let parts = and_parts at.1.is_required (eq_by_cmp (slice_cmp nat_cmp) q at.1.name) at.3 in
    (are q).1 record {
      key = at.0;
      field = at.1;
      present = finite.get-entries fields at.0 ∙ at.2;
      is_required = parts.0;
      same_name = sym (name_cmp_same q at.1.name (equal (slice_cmp nat_cmp q at.1.name) parts.1));
    })

-- ---- names that are left of a list
any_filtered : (u : Name → Bool) (xs : List Name) (q : Name) → list_any (eq_by_cmp (slice_cmp nat_cmp) q) (filter u xs) ≡ (u q && list_any (eq_by_cmp (slice_cmp nat_cmp) q) xs)
any_filtered u [] q = nothing (u q)
  where
    nothing : (b : Bool) → false ≡ (b && false)
    nothing true = refl
    nothing false = refl
any_filtered u (x ∷ xs) q = go (u x) (eq_by_cmp (slice_cmp nat_cmp) q x) refl refl (any_filtered u xs q)
  where
    rest : Bool
    rest = list_any (eq_by_cmp (slice_cmp nat_cmp) q) xs

    same : eq_by_cmp (slice_cmp nat_cmp) q x ≡ true → u q ≡ u x
    same tie = ap u (name_cmp_same q x (equal (slice_cmp nat_cmp q x) tie))

    go : (b t : Bool) → u x ≡ b → eq_by_cmp (slice_cmp nat_cmp) q x ≡ t → list_any (eq_by_cmp (slice_cmp nat_cmp) q) (filter u xs) ≡ (u q && list_any (eq_by_cmp (slice_cmp nat_cmp) q) xs)
        → list_any (eq_by_cmp (slice_cmp nat_cmp) q) (cond b (x ∷ filter u xs) (filter u xs)) ≡ (u q && (t || list_any (eq_by_cmp (slice_cmp nat_cmp) q) xs))
    go true true kept tie later =
        ap (λ t. t || list_any (eq_by_cmp (slice_cmp nat_cmp) q) (filter u xs)) tie ∙ ap (λ b. b && true) (sym (same tie ∙ kept))
    go true false kept apart later = ap (λ t. t || list_any (eq_by_cmp (slice_cmp nat_cmp) q) (filter u xs)) apart ∙ later
    go false true left tie later =
        later ∙ ap (λ b. b && list_any (eq_by_cmp (slice_cmp nat_cmp) q) xs) (same tie ∙ left) ∙ ap (λ b. b && true) (sym (same tie ∙ left))
    go false false left apart later = later

-- ---- the names of flat fields rise
abbrev IsNamed : Key × FieldView → Type 0
IsNamed e = e.0 ≡ flat_key e.1.name

names_above : (name : Name) (es : List (Key × FieldView)) → AllByRecursion IsNamed es → T (below_all key_cmp (flat_key name) es)
    → AllByRecursion (λ n. slice_cmp nat_cmp name n ≡ Less) (map (λ (f : FieldView). f.name) (map (λ (e : Key × FieldView). e.1) es))
names_above name [] named below = tt
names_above name (e ∷ es) named below = (
  ap (key_cmp (flat_key name)) (sym named.0) ∙ less (key_cmp (flat_key name) e.0) (first_part _ _ below),
  names_above name es named.1 (second_part _ _ below),
)

names_rise : (es : List (Key × FieldView)) → AllByRecursion IsNamed es → T (finite.is_sorted key_cmp es)
    → IsStrictlySortedBy (slice_cmp nat_cmp) (map (λ (f : FieldView). f.name) (map (λ (e : Key × FieldView). e.1) es))
unfolding IsStrictlySortedBy
names_rise [] named rising = tt
names_rise (e ∷ es) named rising = (
  names_above e.1.name es named.1 (subst (λ k. T (below_all key_cmp k es)) named.0 (first_part _ _ rising)),
  names_rise es named.1 (second_part _ _ rising),
)

-- and so do those of some of them
names_left_rise : (p : FieldView → Bool) (fs : List FieldView) → IsStrictlySortedBy (slice_cmp nat_cmp) (map (λ (f : FieldView). f.name) fs)
    → IsStrictlySortedBy (slice_cmp nat_cmp) (map (λ (f : FieldView). f.name) (filter p fs))
unfolding IsStrictlySortedBy
names_left_rise p [] rising = tt
names_left_rise p (f ∷ fs) rising = go (p f) (names_left_rise p fs rising.1)
  where
    above : (fs : List FieldView) → AllByRecursion (λ n. slice_cmp nat_cmp f.name n ≡ Less) (map (λ (f : FieldView). f.name) fs)
        → AllByRecursion (λ n. slice_cmp nat_cmp f.name n ≡ Less) (map (λ (f : FieldView). f.name) (filter p fs))
    above [] all = tt
    above (g ∷ gs) all = keep (p g) (above gs all.1)
      where
        keep : (b : Bool) → AllByRecursion (λ n. slice_cmp nat_cmp f.name n ≡ Less) (map (λ (f : FieldView). f.name) (filter p gs))
            → AllByRecursion (λ n. slice_cmp nat_cmp f.name n ≡ Less) (map (λ (f : FieldView). f.name) (cond b (g ∷ filter p gs) (filter p gs)))
        keep true rest = (all.0, rest)
        keep false rest = rest

    go : (b : Bool) → IsStrictlySortedBy (slice_cmp nat_cmp) (map (λ (f : FieldView). f.name) (filter p fs))
        → IsStrictlySortedBy (slice_cmp nat_cmp) (map (λ (f : FieldView). f.name) (cond b (f ∷ filter p fs) (filter p fs)))
    go true rest = (above fs rising.0, rest)
    go false rest = rest

-- ---- fields that are found again by their names
found_again : (find_named : Name → Option FieldView) (fs : List FieldView) → AllByRecursion (λ (f : FieldView). find_named f.name ≡ Some f) fs
    → filter_map find_named (map (λ (f : FieldView). f.name) fs) ≡ fs
found_again find_named [] each = refl
found_again find_named (f ∷ fs) each = λ i. cons_option (each.0 i) (found_again find_named fs each.1 i)

some_of : (P : FieldView → Type 0) (p : FieldView → Bool) (fs : List FieldView) → AllByRecursion P fs → AllByRecursion P (filter p fs)
some_of P p [] each = tt
some_of P p (f ∷ fs) each = go (p f) (some_of P p fs each.1)
  where
    go : (b : Bool) → AllByRecursion P (filter p fs) → AllByRecursion P (cond b (f ∷ filter p fs) (filter p fs))
    go true rest = (each.0, rest)
    go false rest = rest

-- ---- a resolution of the flat format
module _ (r : Resolved) (stored : AllByRecursion IsStored (finite.entries r.fields)) (flat : AllByRecursion IsFlat (finite.values r.fields)) (are : AreRequiredNames r.fields r.required_names) where
  named_entries : (es : List (Key × FieldView)) → AllByRecursion IsStored es → AllByRecursion IsFlat (map (λ (e : Key × FieldView). e.1) es) → AllByRecursion IsNamed es
  named_entries [] stands is_flat = tt
  named_entries (e ∷ es) stands is_flat = (stands.0 ∙ ap (λ c. stored_key c e.1.name) is_flat.0, named_entries es stands.1 is_flat.1)

  -- each field is the one of its name
  each_found : (es : List (Key × FieldView)) → ((k : Key) (f : FieldView) → find_at key_cmp k es ≡ Some f → finite.get r.fields k ≡ Some f) → T (finite.is_sorted key_cmp es) → AllByRecursion IsNamed es
      → AllByRecursion (λ (f : FieldView). field_by_name f.name r ≡ Some f) (map (λ (e : Key × FieldView). e.1) es)
  each_found [] within rising named = tt
  each_found (e ∷ es) within rising named = (
    flat_by_name r.fields (All-from_recursion IsStored (finite.entries r.fields) stored) (All-from_recursion IsFlat (finite.values r.fields) flat) e.1.name
        ∙ ap (finite.get r.fields) (sym named.0)
        ∙ within e.0 e.1 (found_first e es),
    each_found es (λ k f found. within k f (found_later e es rising k f found)) (second_part _ _ rising) named.1,
  )

  -- the names of what is lacked are those that are lacked by name
  names_alike : (seen : List Key) → map (λ (f : FieldView). f.name) (missing seen r) ≡ unseen_names seen r
  names_alike seen =
      let entries = finite.entries r.fields in
      let rising = finite.entries_sorted r.fields in
      let required = in_byte_order (set.items r.required_names) in
      let unseen : Name → Bool = λ name. not (set.contains (names_among seen) name) in
      same_sorted nat_list_cmp_total name_cmp_same (map (λ (f : FieldView). f.name) (missing seen r)) (unseen_names seen r)
      (names_left_rise (λ f. not (is_met seen f)) (finite.values r.fields) (names_rise entries (named_entries entries stored flat) rising))
      (IsStrictlySortedBy-filter (slice_cmp nat_cmp) unseen required (sorted-in_byte_order (set.items r.required_names)))
      (λ q.
      lacks_named seen q (finite.values r.fields) flat
      ∙ ap (λ b. unseen q && b)
      (sym (required_named r.fields r.required_names are q)
      ∙ set.contains-items r.required_names q
      ∙ sym (member-in_byte_order (set.items r.required_names) q))
      ∙ sym (any_filtered unseen required q))

  -- and so is what is lacked
  pub missing_alike : (seen : List Key) → missing seen r ≡ missing_by_name seen r
  missing_alike seen =
      let entries = finite.entries r.fields in
      let rising = finite.entries_sorted r.fields in
      let each = each_found entries (λ k f found. finite.get-entries r.fields k ∙ found) rising (named_entries entries stored flat) in
      sym (found_again (λ name. field_by_name name r) (missing seen r) (some_of (λ (f : FieldView). field_by_name f.name r ≡ Some f) (λ f. not (is_met seen f)) (finite.values r.fields) each))
      ∙ ap (filter_map (λ name. field_by_name name r)) (names_alike seen)

  -- so it is viable where it is by name
  pub viable_alike : (seen : List Key) → is_viable seen r ≡ is_viable_by_name seen r
  viable_alike seen =
      let fs = finite.values r.fields in
      let required = in_byte_order (set.items r.required_names) in
      same_test (is_viable seen r) (is_viable_by_name seen r)
      (λ viable.
      viable_by_name seen r
      ∙ all_passed (set.contains (names_among seen)) required
      (sym (names_alike seen) ∙ ap (map (λ (f : FieldView). f.name)) (none_left (is_met seen) fs viable)))
      (λ viable.
      all_passed (is_met seen) fs
      (none_of_none (missing seen r)
      (names_alike seen ∙ none_left (set.contains (names_among seen)) required (sym (viable_by_name seen r) ∙ viable))))
    where
      none_of_none : (gs : List FieldView) → map (λ (f : FieldView). f.name) gs ≡ [] → gs ≡ []
      none_of_none [] none = refl
      none_of_none (g ∷ gs) none = cc

-- ---- where no name is required, every field is met
module _ (seen : List Key) (r : Resolved) (are : AreRequiredNames r.fields r.required_names) (none : r.required_names ≡ set.empty) where
  optional : (k : Key) (f : FieldView) → finite.get r.fields k ≡ Some f → f.is_required ≡ false
  optional k f at = elim (cases_bool f.is_required) [
    | inl is ↦ absurd (false≢true (sym (set.contains-empty (slice_cmp nat_cmp) f.name) ∙ ap (λ (names : set.FinSet (slice_cmp nat_cmp)). set.contains names f.name) (sym none) ∙ (are f.name).1 (record { key = k; field = f; present = at; is_required = is; same_name = refl })))
    | inr not ↦ not
  ]

  each_met : (es : List (Key × FieldView)) → AllByRecursion (IsFound r.fields) es → list_all (is_met seen) (map (λ (e : Key × FieldView). e.1) es) ≡ true
  each_met [] h = refl
  each_met (e ∷ es) h = rw (optional e.0 e.1 h.0) (each_met es h.1)

  pub all_met : is_viable seen r ≡ true
  all_met = each_met (finite.entries r.fields) (found_entries key_cmp_total r.fields)
