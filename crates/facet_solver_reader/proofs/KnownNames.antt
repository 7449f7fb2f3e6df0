-- Which members of an object the branches of a selection know, by the names of their lists.
use Rattle.std.proofs.Common.{◌≡◌, ◌↔◌, ◌∙◌, sym, ap, subst, refl, ℕ}
use Rattle.std.proofs.Common.{List, Bool, true, false, not, ◌&&◌, ◌||◌, IsTrue, Option, Some, None}
use Rattle.std.proofs.Common.{[], ◌∷◌, cond, map}
use Rattle.std.proofs.Common.{bytes_eq, get_or, slice_get}
use Rattle.std.proofs.lemmas.List.Folds.{Any-from_list_any, list_any-from_Any, find_at}
use Rattle.std.proofs.lemmas.Option.{same_Some, slice_get-map}
use Rattle.std.proofs.lemmas.Slice.Eq.{bytes_eq-Decides}
use Rattle.std.specs.Borrow.{Bor}
use Rattle.std.specs.List.{All, find as found, list_any, position_or_len}
use Rattle.std.specs.Option.{IfSome, MatchOption, is_some, option_map}
use Rattle.facet_solver_shape.specs.Names.{Name}
use Rattle.facet_solver_shape.proofs.Lists.{list_any-map}
use Rattle.facet_solver_reader.specs.declared.document.Document.{Document}
use Rattle.facet_solver_reader.specs.declared.part.Selection as code_selection
use Rattle.facet_solver_reader.specs.declared.tables.List.{List as ListEntry}
use Rattle.facet_solver_reader.specs.declared.tables.Tables.{Tables}
use Rattle.facet_solver_reader.specs.Branches.{HasKnown, Misfits, MisfitsBy}
use Rattle.facet_solver_reader.specs.Documents.{Member, Tree}
use Rattle.facet_solver_reader.specs.Known.{Chooses, IsKnown, IsKnownIn, Key, named}
use Rattle.facet_solver_reader.specs.Objects.{HasNamed, Object, Touches, find, has_name}
use Rattle.facet_solver_reader.specs.Parts.{ListId, Selection}
use Rattle.facet_solver_reader.specs.declared.count.selection.Passed.{Passed}
use Rattle.facet_solver_reader.specs.Passed.{IsOther, IsPassed}
use Rattle.facet_solver_reader.specs.Reading.{IsListed, member_view}
use Rattle.facet_solver_reader.specs.Rules.{Rules}
use Rattle.facet_solver_reader.specs.SelectionNames.{HasBranchNames, KnowsMember, has_known}
use Rattle.facet_solver_reader.specs.Tables.{AreTables, knows, rules_at}
use Rattle.facet_solver_reader.specs.Views.{list_view, selection_view}
use Rattle.facet_solver_reader.proofs.CountingObjects.{both, itself, known_by_list, not_true}
use Rattle.facet_solver_reader.proofs.Named.{Has-at, Has-not_missing, has_named}
use Rattle.facet_solver_reader.proofs.Quantifiers.{any_at}

module _ (test : Name → Bool) (names : List (Bor Name)) where
  -- a name that passes a test, of a list some of whose names pass it
  named_of : IsTrue (list_any (λ (n : Bor Name). test n.now) names)
      → (x : Name) × IsTrue (test x) × IsTrue (list_any (λ (n : Bor Name). bytes_eq n.now x) names)
  named_of p =
      let a = Any-from_list_any (λ (n : Bor Name). test n.now) names p in (
        a.1.now,
        a.4,
        list_any-from_Any (λ (n : Bor Name). bytes_eq n.now a.1.now) names
            (a.0, a.1, a.2, a.3, (bytes_eq-Decides a.1.now a.1.now).1 refl),
      )

  -- and the other way round
  some_of : (x : Name) → IsTrue (test x)
      → IsTrue (list_any (λ (n : Bor Name). bytes_eq n.now x) names)
      → IsTrue (list_any (λ (n : Bor Name). test n.now) names)
  some_of x passes p =
      let a = Any-from_list_any (λ (n : Bor Name). bytes_eq n.now x) names p in
      let same : a.1.now ≡ x = (bytes_eq-Decides a.1.now x).0 a.4 in
      list_any-from_Any (λ (n : Bor Name). test n.now) names
      (a.0, a.1, a.2, a.3, subst (λ y. test y ≡ true) (sym same) passes)

-- what is found, if anything is, by what it is named
module _ {X : Type 0} (g : X → Name) (p : X → Bool) where
  -- it passes the test
  found_passes : (xs : List X) (x : X) → found p xs ≡ Some x → p x ≡ true
  found_passes [] x e = absurd (cc)
  found_passes (y ∷ ys) x e = by (p y) refl e (found_passes ys x)
    where
      by : (b : Bool) → p y ≡ b → cond b (Some y) (found p ys) ≡ Some x
          → (found p ys ≡ Some x → p x ≡ true) → p x ≡ true
      by true q f more = subst (λ z. p z ≡ true) (same_Some y x f) q
      by false q f more = more f

  -- where nothing is, none passes it
  none_found : (xs : List X) → found p xs ≡ None → list_any p xs ≡ false
  none_found [] e = refl
  none_found (y ∷ ys) e = by (p y) e (none_found ys)
    where
      by : (b : Bool) → cond b (Some y) (found p ys) ≡ None
          → (found p ys ≡ None → list_any p ys ≡ false) → (b || list_any p ys) ≡ false
      by true f more = absurd (cc)
      by false f more = more f

  -- what follows of nothing and of what is found follows of its name
  named_found : (xs : List X) (r : Option (Bor Name)) (No : Type 0) (Yes : Name → Type 0)
      → option_map (λ (n : Bor Name). n.now) r ≡ option_map g (found p xs)
      → (list_any p xs ≡ false → No)
      → ((i : ℕ) (x : X) → slice_get xs i ≡ Some x → p x ≡ true → Yes (g x))
      → MatchOption r No (λ n. Yes n.now)
  named_found xs r No Yes e otherwise here = go r (found p xs) refl e
    where
      go : (r : Option (Bor Name)) (f : Option X) → found p xs ≡ f
          → option_map (λ (n : Bor Name). n.now) r ≡ option_map g f
          → MatchOption r No (λ n. Yes n.now)
      go None None q e = otherwise (none_found xs q)
      go None (Some x) q e = absurd (cc)
      go (Some n) None q e = absurd (cc)
      go (Some n) (Some x) q e =
          subst Yes (sym (same_Some n.now (g x) e))
          (here (position_or_len p xs) x (sym (find_at p xs) ∙ q) (found_passes xs x q))

-- whether an object has a member of a name
has_name_iff : (ms : List Member) (x : Name) → IsTrue (has_name ms x) ↔ HasNamed ms x
has_name_iff ms x = go (find ms x) refl
  where
    go : (o : Option Tree) → find ms x ≡ o → IsTrue (has_name ms x) ↔ HasNamed ms x
    go (Some v) e = (λ p. record { value = v; found = e }, λ h. ap is_some e)
    go None e = (
      λ p. let q : has_name ms x ≡ false = ap is_some e in absurd (cc),
      λ h. absurd (Has-not_missing ms x e h),
    )

module _ (s : code_selection.Selection) (ms : List Member) where
  -- a selection knows a member where the object has one of its names
  pub knows_name : (b : Bool) → b ≡ list_any (λ (n : Bor Name). has_name ms n.now) s.names.items
      → IsTrue b ↔ KnowsMember s ms
  knows_name b e = (
    λ p.
        let w = named_of (has_name ms) s.names.items (sym e ∙ p) in
        record { name = w.0; has = (has_name_iff ms w.0).0 w.1; known = w.2 },
    λ k. e ∙ some_of (has_name ms) s.names.items k.name ((has_name_iff ms k.name).1 k.has) k.known,
  )

  -- and where it has the name of one of the object's members
  pub knows_some : (b : Bool) → b ≡ list_any (λ (m : Member). has_known s m.name) ms
      → IsTrue b ↔ KnowsMember s ms
  knows_some b e = (
    λ p.
        let a = Any-from_list_any test ms (sym e ∙ p) in
        record {
          name = a.1.name;
          has = (has_named ms a.1.name).1 (a.0, a.1, a.2, a.3, refl);
          known = a.4;
        },
    λ k.
        let a = (has_named ms k.name).0 k.has in
        e ∙ list_any-from_Any test ms (
          a.0,
          a.1,
          a.2,
          a.3,
          subst (λ x. has_known s x ≡ true) (sym a.4) k.known,
        ),
  )
    where
      test : Member → Bool
      test m = has_known s m.name

  module _ (l : ListEntry) where
    -- of a selection's names one of a member that a list lacks is found where there is one
    pub name_of_other : (r : Option (Bor Name))
        → option_map (λ (n : Bor Name). n.now) r
        ≡ option_map (λ (n : Bor Name). n.now) (found (λ (n : Bor Name).
        not (knows l (named n.now)) && has_name ms n.now) s.names.items)
        → MatchOption r ((x : Name) → IsOther s l ms x → ⊥) (λ n. IsOther s l ms n.now)
    name_of_other r e =
        named_found (λ (n : Bor Name). n.now) test s.names.items r
        ((x : Name) → IsOther s l ms x → ⊥) (IsOther s l ms) e none some
      where
        test : Bor Name → Bool
        test n = not (knows l (named n.now)) && has_name ms n.now

        none : list_any test s.names.items ≡ false → (x : Name) → IsOther s l ms x → ⊥
        none lacking x k =
            let yes : list_any test s.names.items ≡ true =
            some_of (λ y. not (knows l (named y)) && has_name ms y) s.names.items x
            ((both (not (knows l (named x))) (has_name ms x)).1
            (ap not k.2, (has_name_iff ms x).1 k.0)) k.1 in
            absurd (cc)

        some : (i : ℕ) (n : Bor Name) → slice_get s.names.items i ≡ Some n → test n ≡ true
            → IsOther s l ms n.now
        some i n at p =
            let x = n.now in
            let two = (both (not (knows l (named x))) (has_name ms x)).0 p in (
              (has_name_iff ms x).0 two.1,
              list_any-from_Any (λ (m : Bor Name). bytes_eq m.now x) s.names.items
                  (any_at (λ (m : Bor Name). bytes_eq m.now x ≡ true) s.names.items i n at
                  ((bytes_eq-Decides x x).1 refl)),
              not_true (knows l (named x)) two.0,
            )

    -- and so it is of the object's members
    pub member_of_other : (items : List (Bor Name × Document)) → map member_view items ≡ ms
        → (r : Option (Bor Name))
        → option_map (λ (n : Bor Name). n.now) r
        ≡ option_map (λ (m : Bor Name × Document). m.0.now)
        (found (λ (m : Bor Name × Document).
        not (knows l (named m.0.now)) && has_known s m.0.now) items)
        → MatchOption r ((x : Name) → IsOther s l ms x → ⊥) (λ n. IsOther s l ms n.now)
    member_of_other items same r e =
        named_found (λ (m : Bor Name × Document). m.0.now) here items r
        ((x : Name) → IsOther s l ms x → ⊥) (IsOther s l ms) e none some
      where
        test : Member → Bool
        test m = not (knows l (named m.name)) && has_known s m.name

        here : Bor Name × Document → Bool
        here m = not (knows l (named m.0.now)) && has_known s m.0.now

        none : list_any here items ≡ false → (x : Name) → IsOther s l ms x → ⊥
        none lacking x k =
            let a = (has_named ms x).0 k.0 in
            let yes : list_any test ms ≡ true =
            list_any-from_Any test ms (
              a.0,
              a.1,
              a.2,
              a.3,
              subst (λ y. (not (knows l (named y)) && has_known s y) ≡ true) (sym a.4)
                  ((both (not (knows l (named x))) (has_known s x)).1 (ap not k.2, k.1)),
            ) in
            let isnt : list_any test ms ≡ false =
            sym (ap (list_any test) same) ∙ (list_any-map test member_view items ∙ lacking) in
            absurd (cc)

        some : (i : ℕ) (m : Bor Name × Document) → slice_get items i ≡ Some m → here m ≡ true
            → IsOther s l ms m.0.now
        some i m at p =
            let x = m.0.now in
            let two = (both (not (knows l (named x))) (has_known s x)).0 p in
            let is : slice_get ms i ≡ Some (member_view m) =
            ap (λ ys. slice_get ys i) (sym same)
            ∙ (slice_get-map member_view items i ∙ ap (option_map member_view) at) in (
              (has_named ms x).1 (any_at (λ (q : Member). q.name ≡ x) ms i (member_view m) is refl),
              two.1,
              not_true (knows l (named x)) two.0,
            )

module _ (t : Tables) (tables : AreTables t) (s : code_selection.Selection)
    (names : HasBranchNames (rules_at t).lists s) where
  module _ (l : ListEntry) (listed : IsListed t l) where
    -- what a list of the tables knows
    known_iff : (x : Name) → IsTrue (knows l (named x))
        ↔ IsKnown (Chooses (rules_at t).lists (list_view l.id)) (named x)
    known_iff x =
        known_by_list t tables (list_view l.id) l (itself t tables l listed) (named x)
        (knows l (named x)) refl

    -- where a list lacks no member that a selection has, it knows each that the selection knows
    pub all_known_by : (ms : List Member) → ((x : Name) → IsOther s l ms x → ⊥)
        → All
        (λ (m : Member). IsKnownIn (rules_at t).lists (selection_view s) (named m.name)
        → IsKnown (Chooses (rules_at t).lists (list_view l.id)) (named m.name))
        ms
    all_known_by ms none k d within known = go (knows l (named x)) refl
      where
        x : Name
        x = (get_or ms k d).name

        go : (b : Bool) → knows l (named x) ≡ b
            → IsKnown (Chooses (rules_at t).lists (list_view l.id)) (named x)
        go true e = (known_iff x).0 e
        go false e = absurd (none x (Has-at ms k d within, (names.known x).1 known, e))

    -- a list that lacks a member which a selection has does not fit
    pub misfit_by : (object : Object) (x : Name) → IsOther s l object.members x
        → MisfitsBy (rules_at t) object (selection_view s) (list_view l.id) (named x)
    misfit_by object x k = (
      (k.0, (names.known x).0 k.1),
      λ n.
          let e : knows l (named x) ≡ true = (known_iff x).1 n in
          let f : knows l (named x) ≡ false = k.2 in
          absurd (cc),
    )

  -- an object with a member that a selection has touches it
  pub touched : (object : Object) → KnowsMember s object.members
      → Touches (rules_at t) object (selection_view s)
  touched object k = record { key = named k.name; has = k.has; known = (names.known k.name).0 k.known }

  -- where a selection has none, it knows none
  pub none_known : (ms : List Member) → (KnowsMember s ms → ⊥)
      → All (λ (m : Member). IsKnownIn (rules_at t).lists (selection_view s) (named m.name) → ⊥) ms
  none_known ms none k d within known =
      let x = (get_or ms k d).name in
      none (record { name = x; has = Has-at ms k d within; known = (names.known x).1 known })

-- a list that lacks a key misfits
pub misfits_of : (rules : Rules) (object : Object) (s : Selection) (id : ListId) (x : Key)
    → MisfitsBy rules object s id x → Misfits rules object s id
misfits_of rules object s id x m =
    record { key = x; has = m.0.0; known = m.0.1; unknown = m.1 }

-- before a branch refused an object, no member of it is kept
pub none_passed : (rules : Rules) (object : Object) (s : Selection) (p : Passed)
    → p.other ≡ None → IsPassed rules object s p
none_passed rules object s p e =
    subst (λ o. IfSome o (λ (name : Bor Name). HasKnown rules object s (named name.now))) (sym e) tt

-- where there is nothing, what is so then is so
pub where_none : {A : Type 0} (r : Option A) (N : Type 0) (Y : A → Type 0)
    → ((x : A) → r ≡ Some x → ⊥) → MatchOption r N Y → N
where_none None N Y none m = m
where_none (Some x) N Y none m = absurd (none x refl)
