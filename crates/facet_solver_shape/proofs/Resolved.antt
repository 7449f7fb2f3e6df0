-- Maps and sets into which others are put entry by entry, and what they say of a resolution.
use Rattle.std.proofs.Common.{◌≡◌, Result, Ok, Err, OnOk, OnErr, Bool, true, false, cond, ◌||◌, ◌&&◌, T, ◌⊎◌, List, [], ◌∷◌, Some, None, Option, IsSome, refl, sym, ◌∙◌, ap, inl, inr, map, Bor, nat_eq, ◌++◌, codes}
use Rattle.std.specs.declared.cmp.Ordering.{Ordering}
use Rattle.std.specs.declared.cmp.Ordering.TheVariants.{Less, Equal, Greater}
use Rattle.std.specs.Cmp.{IsTotalOrder}
use Rattle.std.specs.List.{list_any, AllByRecursion, flat_map}
use Rattle.std.specs.Option.{option_or, is_some, option_map}
use Rattle.std.specs.Ordering.{eq_by_cmp, is_eq, is_lt, ordering_reverse, nat_cmp}
use Rattle.std.proofs.lemmas.Cmp.{tied_itself, nat_list_cmp_total}
use Rattle.std.specs.FinMap as finite
use Rattle.std.specs.FinMap.{find}
use Rattle.std.specs.FinMap.Entries.{below_all}
use Rattle.std.specs.FinSet as set
use Rattle.std.proofs.lemmas.Bool.{false≢true, or_cases, or_right}
use Rattle.facet_solver_shape.specs.Keys.{Key, key_cmp}
use Rattle.facet_solver_shape.specs.Paths.{Segment, key_path_eq}
use Rattle.facet_solver_shape.specs.Fields.{FieldView, key_of_field, IsStored, as_optional}
use Rattle.facet_solver_shape.specs.Resolved.{Resolved, AreApart, IsUnionOf, IsOverlaid, IsMergeDuplicate, IsRequiredName, AreRequiredNames, key_paths_view, selection_view, selection_text, description}
use Rattle.facet_solver_shape.proofs.Finite.{equal, cases_bool, none_is_some, same_value}
use Rattle.facet_solver_shape.proofs.Keys.{key_cmp_total, key_cmp_same, name_cmp_same, path_cmp_total}
use Rattle.std.specs.Cmp.Lexicographic.{slice_cmp, lists_ties, texts_ties}
use Rattle.facet_solver_shape.specs.Names.{Name, name_eq, names_of}
use Rattle.std.specs.Prelude.{Vec}
use Rattle.std.specs.declared.alloc.Global.{Global}
use Rattle.std.proofs.Math.Bool.{or-false}
use lib.Pointwise.{pointwise}
use Rattle.facet_solver_shape.specs.declared.resolution.field.VariantSelection.{VariantSelection}
use Rattle.facet_solver_shape.proofs.Lists.{flat_map-map}

-- of all entries, those in left are still to be put into now
pub record IsUnderway {K : Type 0} {R : K → K → Ordering} (old now : finite.FinMap R FieldView) (all left : List (K × FieldView)) : Type 0 where
  pub same : (q : K) → option_or (find R q left) (finite.get now q) ≡ option_or (find R q all) (finite.get old q)
  pub rising : T (finite.is_sorted R left)

pub at_start : {K : Type 0} {R : K → K → Ordering} (old : finite.FinMap R FieldView) (all : List (K × FieldView)) → T (finite.is_sorted R all) → IsUnderway old old all all
at_start old all rising = record { same = λ q. refl; rising = rising }

pub first_part : (a b : Bool) → T (a && b) → T a
first_part true b p = tt
first_part false b p = p

pub second_part : (a b : Bool) → T (a && b) → T b
second_part true b p = p
second_part false b p = absurd p

-- what a test of an order tells
pub less : (r : Ordering) → T (is_lt r) → r ≡ Less
less Less p = refl
less Equal p = absurd p
less Greater p = absurd p

pub or_none : {X : Type 0} (o : Option X) → option_or o None ≡ o
or_none None = refl
or_none (Some x) = refl

module _ {K : Type 0} {R : K → K → Ordering} (o : IsTotalOrder R) where
  -- what ties with a key below all others is none of them
  pub none_above : (q k : K) (es : List (K × FieldView)) → R q k ≡ Equal → T (below_all R k es) → find R q es ≡ None
  none_above q k [] tie below = refl
  none_above q k (e ∷ es) tie below =
      let apart : R q e.0 ≡ Less = o.congr q k e.0 tie ∙ less _ (first_part _ _ below) in
      ap (λ r. cond (is_eq r) (Some e.1) (find R q es)) apart ∙ none_above q k es tie (second_part _ _ below)

  -- nor is what is below it, or itself
  pub none_below : (q : K) (e : K × FieldView) (es : List (K × FieldView)) → R q e.0 ≡ Less → T (below_all R e.0 es) → find R q (e ∷ es) ≡ None
  none_below q e es is below = ap (λ r. cond (is_eq r) (Some e.1) (find R q es)) is ∙ rest es below
    where
      rest : (fs : List (K × FieldView)) → T (below_all R e.0 fs) → find R q fs ≡ None
      rest [] below = refl
      rest (f ∷ fs) below = ap (λ r. cond (is_eq r) (Some f.1) (find R q fs)) (o.trans q e.0 f.0 is (less _ (first_part _ _ below))) ∙ rest fs (second_part _ _ below)

  -- one entry more
  pub one_put : (old now : finite.FinMap R FieldView) (all left : List (K × FieldView)) (k : K) (v : FieldView)
      → IsUnderway old now all ((k, v) ∷ left) → IsUnderway old (finite.insert now k v) all left
  one_put old now all left k v before = record { same = λ q. go q (cases_bool (eq_by_cmp R q k)) ∙ before.same q; rising = second_part _ _ before.rising }
    where
      go : (q : K) → (eq_by_cmp R q k ≡ true) ⊎ (eq_by_cmp R q k ≡ false) → option_or (find R q left) (finite.get (finite.insert now k v) q) ≡ option_or (find R q ((k, v) ∷ left)) (finite.get now q)
      go q (inl tie) =
          let none = none_above q k left (equal _ tie) (first_part _ _ before.rising) in
          rw (finite.get-insert o now k v q, tie, none) refl
      go q (inr apart) = rw (finite.get-insert o now k v q, apart) refl

  -- none left
  pub at_end : (old now : finite.FinMap R FieldView) (all : List (K × FieldView)) → IsUnderway old now all [] → IsOverlaid old (finite.from_entries {R = R} all) now
  at_end old now all done q = done.same q ∙ ap (λ x. option_or x (finite.get old q)) (sym (finite.get-from_entries o all q))

  -- over nothing, and then over that
  pub after_copy : (lower upper copy made : finite.FinMap R FieldView) → IsOverlaid finite.empty lower copy → IsOverlaid copy upper made → IsOverlaid lower upper made
  after_copy lower upper copy made copied over q =
      over q ∙ ap (option_or (finite.get upper q)) (copied q ∙ ap (option_or (finite.get lower q)) (finite.get-empty R q) ∙ or_none (finite.get lower q))

-- where no key is in both, it matters not which is laid over which
pub union_of_apart : (first second made : finite.FinMap key_cmp FieldView) → AreApart first second → IsOverlaid first second made → IsUnionOf first second made
union_of_apart first second made apart over = record { apart = apart; joined = λ q. over q ∙ go (finite.get first q) (finite.get second q) (apart q) }
  where
    go : (a b : Option FieldView) → (IsSome a → b ≡ None) → option_or b a ≡ option_or a b
    go None b none = or_none b
    go (Some x) b none = ap (λ y. option_or y (Some x)) (none refl)

-- an entry is found where it stands
abbrev pub IsFound : {K : Type 0} {R : K → K → Ordering} → finite.FinMap R FieldView → K × FieldView → Type 0
IsFound m e = finite.get m e.0 ≡ Some e.1

module _ {K : Type 0} {R : K → K → Ordering} (o : IsTotalOrder R) where
  still_found : (e : K × FieldView) (es fs : List (K × FieldView)) → T (below_all R e.0 fs) → AllByRecursion (λ f. find R f.0 es ≡ Some f.1) fs → AllByRecursion (λ f. find R f.0 (e ∷ es) ≡ Some f.1) fs
  still_found e es [] below found = tt
  still_found e es (f ∷ fs) below found =
      let apart : eq_by_cmp R f.0 e.0 ≡ false = ap is_eq (o.antisymm f.0 e.0 ∙ ap ordering_reverse (less _ (first_part _ _ below))) in
      (rw apart found.0, still_found e es fs (second_part _ _ below) found.1)

  found_in : (es : List (K × FieldView)) → T (finite.is_sorted R es) → AllByRecursion (λ f. find R f.0 es ≡ Some f.1) es
  found_in [] rising = tt
  found_in (e ∷ es) rising =
      (ap (λ r. cond (is_eq r) (Some e.1) (find R e.0 es)) (tied_itself o e.0), still_found e es es (first_part _ _ rising) (found_in es (second_part _ _ rising)))

  -- each entry of a map
  pub found_entries : (m : finite.FinMap R FieldView) → AllByRecursion (IsFound m) (finite.entries m)
  found_entries m = go (finite.entries m) (found_in (finite.entries m) (finite.entries_sorted m))
    where
      go : (es : List (K × FieldView)) → AllByRecursion (λ f. find R f.0 (finite.entries m) ≡ Some f.1) es → AllByRecursion (IsFound m) es
      go [] found = tt
      go (e ∷ es) found = (finite.get-entries m e.0 ∙ found.0, go es found.1)

-- of the entries of other, those in left are still to be looked up in mine, and none before them
-- was found
pub record IsSearched (mine other : finite.FinMap key_cmp FieldView) (left : List (Key × FieldView)) : Type 0 where
  pub ahead : (q : Key) → IsSome (finite.get mine q) → IsSome (finite.get other q) → IsSome (find key_cmp q left)
  pub found : AllByRecursion (IsFound other) left
  pub stored : AllByRecursion IsStored left

pub search_start : (mine other : finite.FinMap key_cmp FieldView) → AllByRecursion IsStored (finite.entries other) → IsSearched mine other (finite.entries other)
search_start mine other stored = record { ahead = λ q has some. rw (← finite.get-entries other q) some; found = found_entries key_cmp_total other; stored = stored }

-- one entry that is not found
pub one_searched : (mine other : finite.FinMap key_cmp FieldView) (k : Key) (v : FieldView) (left : List (Key × FieldView)) → finite.get mine k ≡ None → IsSearched mine other ((k, v) ∷ left) → IsSearched mine other left
one_searched mine other k v left none before = record { ahead = ahead; found = before.found.1; stored = before.stored.1 }
  where
    at : (q : Key) → eq_by_cmp key_cmp q k ≡ true → finite.get mine q ≡ None
    at q tie = ap (finite.get mine) (key_cmp_same q k (equal (key_cmp q k) tie)) ∙ none

    go : (q : Key) (b : Bool) → IsSome (finite.get mine q) → (b ≡ true → finite.get mine q ≡ None) → IsSome (cond b (Some v) (find key_cmp q left)) → IsSome (find key_cmp q left)
    go q true has none some = absurd (false≢true (sym (ap is_some (none refl)) ∙ has))
    go q false has none some = some

    ahead : (q : Key) → IsSome (finite.get mine q) → IsSome (finite.get other q) → IsSome (find key_cmp q left)
    ahead q has some = go q (eq_by_cmp key_cmp q k) has (at q) (before.ahead q has some)

-- none left
pub search_end : (mine other : finite.FinMap key_cmp FieldView) → IsSearched mine other [] → AreApart mine other
search_end mine other done q has = go (finite.get other q) (done.ahead q has)
  where
    go : (r : Option FieldView) → (IsSome r → false ≡ true) → r ≡ None
    go None never = refl
    go (Some x) never = absurd (false≢true (never refl))

-- a field of other whose key is taken
pub merge_duplicate : (old other : Resolved) (k : Key) (f present : FieldView) (first second : List Segment) → finite.get other.fields k ≡ Some f → k ≡ key_of_field f → finite.get old.fields k ≡ Some present → present.path ≡ first → second ≡ f.path
    → IsMergeDuplicate old other f.name first second
merge_duplicate old other k f present first second among stored taken is_first is_second = record {
  field = f;
  among = rw (← stored) among;
  duplicate = record { taken = rw (← stored, taken) is_first; same_name = refl; same_path = is_second };
}

-- of all members, those in left are still to be put into now
pub record IsFilling {K : Type 0} {R : K → K → Ordering} (old now : set.FinSet R) (all left : List K) : Type 0 where
  pub same : (q : K) → (set.contains now q || list_any (eq_by_cmp R q) left) ≡ (set.contains old q || list_any (eq_by_cmp R q) all)

or_moved : (a b c : Bool) → ((a || b) || c) ≡ (b || (a || c))
or_moved true true c = refl
or_moved true false c = refl
or_moved false b c = refl

pub fill_start : {K : Type 0} {R : K → K → Ordering} (old : set.FinSet R) (all : List K) → IsFilling old old all all
fill_start old all = record { same = λ q. refl }

module _ {K : Type 0} {R : K → K → Ordering} (o : IsTotalOrder R) (same : finite.IsAntisymmetric R) where
  -- one member more
  pub one_filled : (old now : set.FinSet R) (all left : List K) (k : K) → IsFilling old now all (k ∷ left) → IsFilling old (set.insert now k) all left
  one_filled old now all left k before = record {
    same = λ q. ap (λ b. b || list_any (eq_by_cmp R q) left) (set.contains-insert o now k q) ∙ or_moved (eq_by_cmp R q k) (set.contains now q) _ ∙ before.same q;
  }

  -- none left
  pub fill_end : (old now : set.FinSet R) (all : List K) → IsFilling old now all [] → now ≡ set.union old (set.from_list all)
  fill_end old now all done = set.same_set o same _ _ (λ q.
      sym (or-false _)
      ∙ done.same q
      ∙ ap (λ b. set.contains old q || b) (sym (set.contains-from_list o all q))
      ∙ sym (set.contains-union o old (set.from_list all) q))

  -- with nothing else
  pub union-empty : (s : set.FinSet R) → set.union set.empty s ≡ s
  union-empty s = set.same_set o same _ _ (λ q. set.contains-union o set.empty s q ∙ ap (λ b. b || set.contains s q) (set.contains-empty R q))

or_first : (a b : Bool) → a ≡ true → (a || b) ≡ true
or_first true b e = refl
or_first false b e = absurd (false≢true e)

module _ (fields : finite.FinMap key_cmp FieldView) (f : FieldView) (fresh : finite.get fields (key_of_field f) ≡ None) where
  put : (k : Key) → finite.get (finite.insert fields (key_of_field f) f) k ≡ cond (eq_by_cmp key_cmp k (key_of_field f)) (Some f) (finite.get fields k)
  put k = finite.get-insert key_cmp_total fields (key_of_field f) f k

  -- a required name stays one
  kept_name : (name : Name) → IsRequiredName fields name → IsRequiredName (finite.insert fields (key_of_field f) f) name
  kept_name name before = record {
    key = before.key;
    field = before.field;
    present = put before.key ∙ go (cases_bool (eq_by_cmp key_cmp before.key (key_of_field f)));
    is_required = before.is_required;
    same_name = before.same_name;
  }
    where
      go : (eq_by_cmp key_cmp before.key (key_of_field f) ≡ true) ⊎ (eq_by_cmp key_cmp before.key (key_of_field f) ≡ false) → cond (eq_by_cmp key_cmp before.key (key_of_field f)) (Some f) (finite.get fields before.key) ≡ Some before.field
      go (inl tie) = none_is_some before.field (sym fresh ∙ ap (finite.get fields) (sym (key_cmp_same before.key (key_of_field f) (equal _ tie))) ∙ before.present)
      go (inr apart) = rw apart before.present

  -- and a new one is that of the new field
  new_name : (name : Name) → IsRequiredName (finite.insert fields (key_of_field f) f) name → (IsRequiredName fields name) ⊎ ((f.is_required ≡ true) × (f.name ≡ name))
  new_name name after = go (cases_bool (eq_by_cmp key_cmp after.key (key_of_field f)))
    where
      go : (eq_by_cmp key_cmp after.key (key_of_field f) ≡ true) ⊎ (eq_by_cmp key_cmp after.key (key_of_field f) ≡ false) → (IsRequiredName fields name) ⊎ ((f.is_required ≡ true) × (f.name ≡ name))
      go (inl tie) =
          let same : f ≡ after.field = same_value f after.field (ap (λ b. cond b (Some f) (finite.get fields after.key)) (sym tie) ∙ sym (put after.key) ∙ after.present) in
          inr (ap (λ g. g.is_required) same ∙ after.is_required, ap (λ g. g.name) same ∙ after.same_name)
      go (inr apart) =
          inl (record {
            key = after.key;
            field = after.field;
            present = ap (λ b. cond b (Some f) (finite.get fields after.key)) (sym apart) ∙ sym (put after.key) ∙ after.present;
            is_required = after.is_required;
            same_name = after.same_name;
          })

  here : finite.get (finite.insert fields (key_of_field f) f) (key_of_field f) ≡ Some f
  here = put (key_of_field f) ∙ ap (λ r. cond (is_eq r) (Some f) (finite.get fields (key_of_field f))) (tied_itself key_cmp_total (key_of_field f))

  -- a field that is not required contributes no name
  pub names_kept : (names : set.FinSet (slice_cmp nat_cmp)) → f.is_required ≡ false → AreRequiredNames fields names → AreRequiredNames (finite.insert fields (key_of_field f) f) names
  names_kept names optional are name = (λ has. kept_name name ((are name).0 has), λ after. back (new_name name after))
    where
      back : (IsRequiredName fields name) ⊎ ((f.is_required ≡ true) × (f.name ≡ name)) → set.contains names name ≡ true
      back (inl before) = (are name).1 before
      back (inr new) = absurd (false≢true (sym optional ∙ new.0))

  -- a required field contributes its name
  pub names_put : (names : set.FinSet (slice_cmp nat_cmp)) → f.is_required ≡ true → AreRequiredNames fields names → AreRequiredNames (finite.insert fields (key_of_field f) f) (set.insert names f.name)
  names_put names required are name = (λ has. forth (or_cases _ _ (sym put_name ∙ has)), λ after. put_name ∙ back (new_name name after))
    where
      put_name : set.contains (set.insert names f.name) name ≡ (eq_by_cmp (slice_cmp nat_cmp) name f.name || set.contains names name)
      put_name = set.contains-insert nat_list_cmp_total names f.name name

      forth : (eq_by_cmp (slice_cmp nat_cmp) name f.name ≡ true) ⊎ (set.contains names name ≡ true) → IsRequiredName (finite.insert fields (key_of_field f) f) name
      forth (inl tie) = record { key = key_of_field f; field = f; present = here; is_required = required; same_name = sym (name_cmp_same name f.name (equal _ tie)) }
      forth (inr has) = kept_name name ((are name).0 has)

      back : (IsRequiredName fields name) ⊎ ((f.is_required ≡ true) × (f.name ≡ name)) → (eq_by_cmp (slice_cmp nat_cmp) name f.name || set.contains names name) ≡ true
      back (inl before) = or_right _ _ ((are name).1 before)
      back (inr new) = or_first _ _ (ap (λ n. eq_by_cmp (slice_cmp nat_cmp) n f.name) (sym new.1) ∙ ap is_eq (tied_itself nat_list_cmp_total f.name))

-- what follows from both answers of a call
pub either_way : {X E P Q R G : Type 0} (r : Result X E) → OnOk r P → OnOk r Q → OnErr r R → (P → Q → G) → (R → G) → G
either_way (Ok x) p q _ at_ok at_err = at_ok p q
either_way (Err e) _ _ r at_ok at_err = at_err r

-- the names of two resolutions that have no key in common
pub names_joined : (first second made : finite.FinMap key_cmp FieldView) (a b : set.FinSet (slice_cmp nat_cmp)) → IsUnionOf first second made → AreRequiredNames first a → AreRequiredNames second b → AreRequiredNames made (set.union a b)
names_joined first second made a b joined in_a in_b name = (λ has. forth (or_cases _ _ (sym both ∙ has)), λ after. both ∙ back after (finite.get first after.key) refl)
  where
    both : set.contains (set.union a b) name ≡ (set.contains a name || set.contains b name)
    both = set.contains-union nat_list_cmp_total a b name

    from_first : IsRequiredName first name → IsRequiredName made name
    from_first before = record { key = before.key; field = before.field; present = joined.joined before.key ∙ ap (λ r. option_or r (finite.get second before.key)) before.present; is_required = before.is_required; same_name = before.same_name }

    alone : (k : Key) (f : FieldView) (r : Option FieldView) → finite.get first k ≡ r → finite.get second k ≡ Some f → option_or r (finite.get second k) ≡ Some f
    alone k f None none is = is
    alone k f (Some g) some is = none_is_some f (sym (joined.apart k (rw some refl)) ∙ is)

    from_second : IsRequiredName second name → IsRequiredName made name
    from_second before = record { key = before.key; field = before.field; present = joined.joined before.key ∙ alone before.key before.field _ refl before.present; is_required = before.is_required; same_name = before.same_name }

    forth : (set.contains a name ≡ true) ⊎ (set.contains b name ≡ true) → IsRequiredName made name
    forth (inl has) = from_first ((in_a name).0 has)
    forth (inr has) = from_second ((in_b name).0 has)

    back : (after : IsRequiredName made name) (r : Option FieldView) → finite.get first after.key ≡ r → (set.contains a name || set.contains b name) ≡ true
    back after None none =
        or_right _ _ ((in_b name).1 (record { key = after.key; field = after.field; present = ap (λ r. option_or r (finite.get second after.key)) (sym none) ∙ sym (joined.joined after.key) ∙ after.present; is_required = after.is_required; same_name = after.same_name }))
    back after (Some g) some =
        or_first _ _ ((in_a name).1 (record { key = after.key; field = after.field; present = some ∙ ap (λ r. option_or r (finite.get second after.key)) (sym some) ∙ sym (joined.joined after.key) ∙ after.present; is_required = after.is_required; same_name = after.same_name }))

-- where nothing is required there are no names
pub no_names : (fields optional : finite.FinMap key_cmp FieldView) → ((k : Key) → finite.get optional k ≡ option_map as_optional (finite.get fields k)) → AreRequiredNames optional set.empty
no_names fields optional made name = (λ has. absurd (false≢true (sym (set.contains-empty (slice_cmp nat_cmp) name) ∙ has)), λ after. never after (finite.get fields after.key) (sym (made after.key) ∙ after.present))
  where
    never : (after : IsRequiredName optional name) (r : Option FieldView) → option_map as_optional r ≡ Some after.field → set.contains {R = slice_cmp nat_cmp} set.empty name ≡ true
    never after None is = none_is_some after.field is
    never after (Some g) is = absurd (false≢true (ap (λ f. f.is_required) (same_value (as_optional g) after.field is) ∙ after.is_required))

pub nothing_required : AreRequiredNames finite.empty set.empty
nothing_required name = (λ has. absurd (false≢true (sym (set.contains-empty (slice_cmp nat_cmp) name) ∙ has)), λ after. none_is_some after.field (sym (finite.get-empty key_cmp after.key) ∙ after.present))

-- names behind references are compared by what they say
pub names_agree : (xs ys : List (Bor Name)) → pointwise (λ (x y : Bor Name). pointwise nat_eq x.now y.now) xs ys ≡ key_path_eq (names_of xs) (names_of ys)
names_agree [] [] = refl
names_agree [] (y ∷ ys) = refl
names_agree (x ∷ xs) [] = refl
names_agree (x ∷ xs) (y ∷ ys) = ap (λ b. name_eq x.now y.now && b) (names_agree xs ys)

-- what the key paths of a set say
abbrev pub paths_of : List (Vec (Bor Name) Global) → List (List Name)
paths_of ps = map (λ p. names_of p.items) ps

any_path : (q : List Name) (ps : List (List Name)) → list_any (eq_by_cmp (slice_cmp (slice_cmp nat_cmp)) q) ps ≡ list_any (key_path_eq q) ps
any_path q [] = refl
any_path q (p ∷ ps) = λ i. sym (lists_ties (slice_cmp nat_cmp) texts_ties q p) i || any_path q ps i

-- a path is in a set if it is that of one of its keys
pub contains_path : (q : List Name) (ps : List (Vec (Bor Name) Global)) → set.contains (key_paths_view ps) q ≡ list_any (key_path_eq q) (paths_of ps)
contains_path q ps = set.contains-from_list path_cmp_total (paths_of ps) q ∙ any_path q (paths_of ps)

-- the first, and the others with what joins them
pub text_of_selections : (p : VariantSelection) (rest : List VariantSelection) → selection_text (selection_view p) ++ flat_map (λ q. codes " + " ++ selection_text (selection_view q)) rest ≡ description (map selection_view (p ∷ rest))
text_of_selections p rest = ap (λ ys. selection_text (selection_view p) ++ ys) (flat_map-map (λ q. codes " + " ++ selection_text q) selection_view rest)
