-- The names of a resolution are those that its choice asks for.
use Rattle.std.proofs.Common.{◌≡◌, inl, inr, ⊎_elim, refl, sym, ap, ◌∙◌, subst, ℕ, Bool, true}
use Rattle.std.proofs.Common.{false, ◌||◌, not, T, List, [], ◌∷◌, Option, Some, None, IsSome, All}
use Rattle.std.proofs.Common.{map}
use Rattle.std.specs.Prelude.{Any, is_some}
use Rattle.std.specs.FinMap as finite
use Rattle.std.specs.FinMap.{find as find_at}
use Rattle.std.specs.FinSet as set
use Rattle.std.specs.List.{AllByRecursion, list_all, list_any}
use Rattle.std.specs.Ordering.{eq_by_cmp}
use Rattle.std.proofs.Common.{cond}
use Rattle.std.proofs.lemmas.Bool.{and_from, and_parts}
use Rattle.std.proofs.lemmas.List.Elements.{All-from_recursion, recursion_from_All}
use Rattle.facet_solver_shape.specs.declared.resolution.key.FieldCategory.TheVariants as category
use Rattle.facet_solver_shape.specs.Fields.{FieldView, IsStored, has_name, key_of_field, matches}
use Rattle.facet_solver_shape.specs.Fields.{means}
use Rattle.facet_solver_shape.specs.Keys.{Key, flat_key, key_cmp}
use Rattle.facet_solver_shape.specs.Names.{Name, name_eq}
use Rattle.facet_solver_shape.specs.Resolved.{AreRequiredNames, Resolved}
use Rattle.facet_solver_shape.proofs.Fields.{flat_alone, flat_by_key, flat_by_name}
use Rattle.facet_solver_shape.proofs.Finite.{none_is_some, same_value}
use Rattle.facet_solver_shape.proofs.Resolved.{second_part}
use Rattle.facet_solver.specs.declared.build.format.Format.TheVariants.{Flat}
use Rattle.facet_solver.specs.build.Build.{Build}
use Rattle.facet_solver.specs.build.Choice.{IsResolution, resolution_from}
use Rattle.facet_solver.specs.build.Emissions.{Emission, a_field, some_key_paths, a_selection}
use Rattle.facet_solver.specs.build.Emissions.{a_catch_all}
use Rattle.facet_solver.specs.solver.Failure.{is_met}
use Rattle.facet_solver.specs.solver.Report.{is_viable}
use Rattle.facet_solver.specs.Resolutions.{has_field_named, has_key}
use Rattle.facet_solver.proofs.FieldCategories.{fields-stored, flat_fields, found_first}
use Rattle.facet_solver.proofs.FieldCategories.{found_later}
use Rattle.facet_solver.proofs.NameEntries.{is_some-found}
use Rattle.facet_solver.proofs.Outcome.{required_names}
use Rattle.facet_solver_reader.specs.Choices.{Item, member_of, catch_all_of, presence_of}
use Rattle.facet_solver_reader.specs.Known.{HasKey, named, rest}
use Rattle.facet_solver_reader.proofs.Quantifiers.{any_of_more, any_of_none}
use Rattle.facet_solver_agreement.specs.Asked.{Asked, IsRequiredOf, asked_by_field, asked_by_items}
use Rattle.facet_solver_agreement.specs.Asked.{asked_by_member}
use Rattle.facet_solver_agreement.specs.Asked.{asked_by_walk}
use Rattle.facet_solver_agreement.specs.Kept.{HasNamesOf}
use Rattle.facet_solver_agreement.proofs.Emitted.{IsEmitted, is_emitted, is_required_name}
use Rattle.facet_solver_agreement.proofs.Emitted.{is_stored}

-- a name is asked for
abbrev pub IsNameOf : Name → Asked → Type 0
IsNameOf x a = a.name ≡ x

module _ (P : Asked → Type 0) where
  -- what is asked of an emitted field is asked by its walk
  pub asked_of_emitted : (es : List Emission) (f : FieldView) → IsEmitted f es
      → P (asked_by_field f) → Any P (asked_by_walk es)
  asked_of_emitted [] f h p = absurd h
  asked_of_emitted (a_field g ∷ es) f (inl same) p =
      (any_of_more P (asked_by_field g) (asked_by_walk es)).1
      (inl (subst (λ (x : FieldView). P (asked_by_field x)) (sym same) p))
  asked_of_emitted (a_field g ∷ es) f (inr h) p =
      (any_of_more P (asked_by_field g) (asked_by_walk es)).1 (inr (asked_of_emitted es f h p))
  asked_of_emitted (some_key_paths q ∷ es) f h p = asked_of_emitted es f h p
  asked_of_emitted (a_selection s ∷ es) f h p = asked_of_emitted es f h p
  asked_of_emitted (a_catch_all g ∷ es) f h p = asked_of_emitted es f h p

  -- and the other way round
  pub emitted_of_asked : (es : List Emission) → Any P (asked_by_walk es)
      → (f : FieldView) × IsEmitted f es × P (asked_by_field f)
  emitted_of_asked [] h = absurd (any_of_none P h)
  emitted_of_asked (a_field g ∷ es) h =
      ⊎_elim (λ (p : P (asked_by_field g)). (g, inl refl, p))
      (λ (q : Any P (asked_by_walk es)). let r = emitted_of_asked es q in (r.0, inr r.1, r.2))
      ((any_of_more P (asked_by_field g) (asked_by_walk es)).0 h)
  emitted_of_asked (some_key_paths q ∷ es) h = emitted_of_asked es h
  emitted_of_asked (a_selection s ∷ es) h = emitted_of_asked es h
  emitted_of_asked (a_catch_all g ∷ es) h = emitted_of_asked es h

-- items go by the name that they ask for
pub asked_by_key : (items : List Item) (x : Name) → HasKey items (named x)
    → Any (IsNameOf x) (asked_by_items items)
asked_by_key [] x h = absurd h
asked_by_key (member_of m r ∷ items) x (inl e) =
    let same : m.name ≡ x = cc in
    (any_of_more (IsNameOf x) (asked_by_member m) (asked_by_items items)).1 (inl same)
asked_by_key (member_of m r ∷ items) x (inr h) =
    (any_of_more (IsNameOf x) (asked_by_member m) (asked_by_items items)).1
    (inr (asked_by_key items x h))
asked_by_key (catch_all_of k t ∷ items) x (inl e) = let no : rest ≡ named x = e in absurd (cc)
asked_by_key (catch_all_of k t ∷ items) x (inr h) = asked_by_key items x h
asked_by_key (presence_of s ∷ items) x h = asked_by_key items x h

pub key_of_asked : (items : List Item) (x : Name) → Any (IsNameOf x) (asked_by_items items)
    → HasKey items (named x)
key_of_asked [] x h = absurd (any_of_none (IsNameOf x) h)
key_of_asked (member_of m r ∷ items) x h =
    ⊎_elim (λ (e : m.name ≡ x). inl (ap named e))
    (λ (q : Any (IsNameOf x) (asked_by_items items)). inr (key_of_asked items x q))
    ((any_of_more (IsNameOf x) (asked_by_member m) (asked_by_items items)).0 h)
key_of_asked (catch_all_of k t ∷ items) x h = inr (key_of_asked items x h)
key_of_asked (presence_of s ∷ items) x h = key_of_asked items x h

-- ---- entries of a map of fields
-- what each value has, the one that is found has
found_has : (P : FieldView → Type 0) (es : List (Key × FieldView)) (k : Key) (f : FieldView)
    → AllByRecursion P (map (λ e. e.1) es) → find_at key_cmp k es ≡ Some f → P f
found_has P [] k f all found = none_is_some f found
found_has P (e ∷ es) k f all found =
    go (eq_by_cmp key_cmp k e.0) found (λ later. found_has P es k f all.1 later)
  where
    go : (b : Bool) → cond b (Some e.1) (find_at key_cmp k es) ≡ Some f
        → (find_at key_cmp k es ≡ Some f → P f) → P f
    go true found later = subst P (same_value e.1 f found) all.0
    go false found later = later found

-- a test that all pass
all_true : (p : FieldView → Bool) (fs : List FieldView) → list_all p fs ≡ true
    → AllByRecursion (λ f. p f ≡ true) fs
all_true p [] h = tt
all_true p (f ∷ fs) h =
    let parts = and_parts (p f) (list_all p fs) h in (parts.0, all_true p fs parts.1)

-- what has to be met and is met is met by a key
required_met : (required met : Bool) → required ≡ true → (not required || met) ≡ true → met ≡ true
required_met true met e h = h
required_met false met e h = absurd (cc)

-- ---- the resolution of a choice of names
abbrev IsFlat : FieldView → Type 0
IsFlat f = f.category ≡ category.Flat

module _ (build : Build) (root : ℕ) (is_flat : build.format ≡ Flat) (choice : List ℕ) (r : Resolved)
    (is : IsResolution build root choice r) where
  stored : All IsStored (finite.entries r.fields)
  stored =
      All-from_recursion IsStored (finite.entries r.fields) (fields-stored build root choice r is)

  flat : All IsFlat (finite.values r.fields)
  flat = flat_fields build root choice r is_flat is

  -- it has a name where a field stands under it
  by_name : (x : Name) → has_field_named x r ≡ is_some (finite.get r.fields (flat_key x))
  by_name x =
      sym (is_some-found (has_name x) (finite.values r.fields))
      ∙ ap is_some (flat_by_name r.fields stored flat x)

  pub key_is_name : (x : Name) → has_key (flat_key x) r ≡ has_field_named x r
  key_is_name x = ap is_some (flat_by_key r.fields stored flat (flat_key x)) ∙ sym (by_name x)

  emitted_at : (k : Key) (f : FieldView) → finite.get r.fields k ≡ Some f
      → IsEmitted f is.emissions × (k ≡ key_of_field f)
  emitted_at k f e =
      is_emitted is.emissions k f
      (sym (ap (λ (q : Resolved). finite.get q.fields k) is.put_together) ∙ e)

  some_value : (o : Option FieldView) → is_some o ≡ true → (f : FieldView) × (o ≡ Some f)
  some_value None h = absurd (cc)
  some_value (Some f) h = (f, refl)

  -- its names are asked for
  pub name_asked : (x : Name) → has_field_named x r ≡ true
      → Any (IsNameOf x) (asked_by_walk is.emissions)
  name_asked x h =
      let v = some_value (finite.get r.fields (flat_key x)) (sym (by_name x) ∙ h) in
      let at = emitted_at (flat_key x) v.0 v.1 in
      asked_of_emitted (IsNameOf x) is.emissions v.0 at.0 (sym (ap (λ (k : Key). k.name) at.1))

  -- and what is asked for is one of its names
  pub asked_named : (x : Name) → Any (IsNameOf x) (asked_by_walk is.emissions)
      → has_field_named x r ≡ true
  asked_named x h =
      let e = emitted_of_asked (IsNameOf x) is.emissions h in
      let k = key_of_field e.0 in
      let there : IsSome (finite.get r.fields k) =
      subst (λ (q : Resolved). IsSome (finite.get q.fields k)) (sym is.put_together)
      (is_stored is.emissions e.0 e.1) in
      let v = some_value (finite.get r.fields k) there in
      let key_is : k ≡ flat_key v.0.name = flat_alone r.fields stored flat k v.0 v.1 in
      let same : v.0.name ≡ x = sym (ap (λ (key : Key). key.name) key_is) ∙ e.2 in
      let at : k ≡ flat_key x = key_is ∙ ap flat_key same in
      by_name x ∙ ap (λ (key : Key). is_some (finite.get r.fields key)) (sym at) ∙ there

  -- its required names have to be there
  are_required : AreRequiredNames r.fields r.required_names
  are_required =
      subst (λ (q : Resolved). AreRequiredNames q.fields q.required_names) (sym is.put_together)
      (required_names is.emissions is.no_duplicates)

  pub required_asked : (x : Name) → set.contains r.required_names x ≡ true
      → Any (IsRequiredOf x) (asked_by_walk is.emissions)
  required_asked x h =
      let q = (are_required x).0 h in
      asked_of_emitted (IsRequiredOf x) is.emissions q.field (emitted_at q.key q.field q.present).0
      (record { same_name = q.same_name; required = q.is_required })

  pub asked_required : (x : Name) → Any (IsRequiredOf x) (asked_by_walk is.emissions)
      → set.contains r.required_names x ≡ true
  asked_required x h =
      let e = emitted_of_asked (IsRequiredOf x) is.emissions h in
      subst (λ (q : Resolved). set.contains q.required_names x ≡ true) (sym is.put_together)
      (subst (λ (y : Name). set.contains (resolution_from is.emissions).required_names y ≡ true)
      e.2.same_name
      (is_required_name is.emissions e.0 e.1 e.2.required))

  -- so it has the names of a choice that asks the same
  pub has_names_of : (items : List Item) → asked_by_walk is.emissions ≡ asked_by_items items
      → HasNamesOf items r
  has_names_of items same = record {
    names = λ x. (
      λ h. key_of_asked items x (subst (Any (IsNameOf x)) same (name_asked x h)),
      λ k. asked_named x (subst (Any (IsNameOf x)) (sym same) (asked_by_key items x k)),
    );
    required = λ x. (
      λ h. subst (Any (IsRequiredOf x)) same (required_asked x h),
      λ a. asked_required x (subst (Any (IsRequiredOf x)) (sym same) a),
    );
  }

  -- ---- viable
  all_met : (keys : List Key) (es : List (Key × FieldView)) → T (finite.is_sorted key_cmp es)
      → AllByRecursion IsFlat (map (λ e. e.1) es)
      → ((k : Key) (f : FieldView) → find_at key_cmp k es ≡ Some f → IsFlat f
      → is_met keys f ≡ true)
      → list_all (is_met keys) (map (λ e. e.1) es) ≡ true
  all_met keys [] rising all_flat each = refl
  all_met keys (e ∷ es) rising all_flat each =
      and_from (is_met keys e.1) (list_all (is_met keys) (map (λ e. e.1) es))
      (each e.0 e.1 (found_first e es) all_flat.0)
      (all_met keys es (second_part _ _ rising) all_flat.1
      (λ k f found is_flat. each k f (found_later e es rising k f found) is_flat))

  -- where each required name is that of a key, the resolution is viable
  pub viable_by_names : (keys : List Key)
      → ((x : Name) → Any (IsRequiredOf x) (asked_by_walk is.emissions)
      → list_any (λ key. name_eq key.name x) keys ≡ true)
      → is_viable keys r ≡ true
  viable_by_names keys there =
      all_met keys (finite.entries r.fields) (finite.entries_sorted r.fields)
      (recursion_from_All IsFlat (finite.values r.fields) flat)
      (λ k f found is_flat.
      met f is_flat (emitted_at k f (finite.get-entries r.fields k ∙ found)).0)
    where
      met : (f : FieldView) → IsFlat f → IsEmitted f is.emissions → is_met keys f ≡ true
      met f is_flat h = go f.is_required refl
        where
          go : (b : Bool) → f.is_required ≡ b
              → (not b || list_any (λ key. matches key f) keys) ≡ true
          go false e = refl
          go true e =
              ap (λ c. list_any (λ (key : Key). means key.dom key.name c f.name) keys) is_flat
              ∙ there f.name
              (asked_of_emitted (IsRequiredOf f.name) is.emissions f h
              (record { same_name = refl; required = e }))

  -- ---- and where it is viable, each required name is that of a key
  pub names_of_viable : (keys : List Key) → is_viable keys r ≡ true
      → (x : Name) → Any (IsRequiredOf x) (asked_by_walk is.emissions)
      → list_any (λ key. name_eq key.name x) keys ≡ true
  names_of_viable keys viable x a =
      let q = (are_required x).0 (asked_required x a) in
      let found = sym (finite.get-entries r.fields q.key) ∙ q.present in
      let es = finite.entries r.fields in
      let met : is_met keys q.field ≡ true =
      found_has (λ f. is_met keys f ≡ true) es q.key q.field
      (all_true (is_met keys) (map (λ e. e.1) es) viable) found in
      let flat_one : IsFlat q.field =
      found_has IsFlat es q.key q.field
      (recursion_from_All IsFlat (finite.values r.fields) flat) found in
      let test : Bool = list_any (λ key. matches key q.field) keys in
      ap (λ y. list_any (λ (key : Key). name_eq key.name y) keys) (sym q.same_name)
      ∙ ap (λ c. list_any (λ (key : Key). means key.dom key.name c q.field.name) keys)
      (sym flat_one)
      ∙ required_met q.field.is_required test q.is_required met
