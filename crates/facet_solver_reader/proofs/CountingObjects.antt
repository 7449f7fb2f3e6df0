-- What is found of objects in memory: their members, and the lists by which they are read.
use Rattle.std.proofs.Common.{◌≡◌, ◌⊎◌, ◌↔◌, ◌-◌, ◌&&◌, inl, inr, sym, ap, ◌∙◌, subst, ⊎_elim, refl}
use Rattle.std.proofs.Common.{ℕ, ◌<◌, ◌≤◌, ◌+◌, zero, suc, length, get_or, take, map, List, Some}
use Rattle.std.proofs.Common.{Bool, true, false, not, IsTrue, slice_get, Result, Ok, Err, nat_cmp}
use Rattle.std.proofs.Common.{arith, [], ◌∷◌, ◌++◌}
use Rattle.std.proofs.lemmas.List.{length-map, take_all}
use Rattle.std.proofs.lemmas.List.Folds.{Any-from_list_any, list_any-from_Any}
use Rattle.std.proofs.lemmas.List.Sorted.{searched}
use Rattle.std.proofs.lemmas.Option.{get_or_from_slice_get, slice_get-get_or, slice_get_read}
use Rattle.std.proofs.lemmas.Option.{slice_get_within}
use Rattle.std.specs.Prelude.{MatchOption, ⊤}
use Rattle.std.specs.List.{All, Any, list_any}
use Rattle.std.specs.List.Sorted.{IsBinarySearchResult, IsStrictlyIncreasing}
use Rattle.std.specs.Result.{MatchResult}
use Rattle.facet_solver_reader.specs.declared.count.Count.{Count}
use Rattle.facet_solver_reader.specs.declared.nodes.Nodes.{Nodes}
use Rattle.facet_solver_reader.specs.declared.tables.List.{List as ListEntry}
use Rattle.facet_solver_reader.specs.declared.tables.Tables.{Tables}
use Rattle.facet_solver_reader.specs.declared.count.object.Object as code
use Rattle.facet_solver_reader.specs.Branches.{Fits, Misfits}
use Rattle.facet_solver_reader.specs.Documents.{Member}
use Rattle.facet_solver_reader.specs.Known.{Chooses, HasChoice, IsKnown, IsKnownIn, Key, named}
use Rattle.facet_solver_reader.specs.Known.{rest}
use Rattle.facet_solver_reader.specs.Nodes.{members_in, value_of}
use Rattle.facet_solver_reader.specs.Objects.{HasRest, HasUnknown, Object, Touches}
use Rattle.facet_solver_reader.specs.Parts.{ListId, Selection}
use Rattle.facet_solver_reader.specs.Reading.{AreListCounts, IsListCount, IsListed, IsObject}
use Rattle.facet_solver_reader.specs.Reading.{object_view}
use Rattle.facet_solver_reader.specs.Slots.{index_of}
use Rattle.facet_solver_reader.specs.Tables.{AreTables, BranchIsBefore, IsListAt, IsListOf}
use Rattle.facet_solver_reader.specs.Tables.{ListIsServed, has_unknown, knows, rules_at}
use Rattle.facet_solver_reader.specs.Views.{list_view}
use Rattle.facet_solver_reader.proofs.Quantifiers.{all_at, all_upto_more, any_is_at}
use Rattle.facet_solver_reader.proofs.Seen.{seen_at}
use Rattle.facet_solver_reader.proofs.Touching.{fits_iff, misfits_iff, touches_iff, unknown_iff}

module _ {X Y : Type 0} (see : X → Y) (xs : List X) where
  -- what is read at an index, seen as another
  pub seen_read : (ys : List Y) (i : ℕ) (x : X) → map see xs ≡ ys → i < length xs
      → x ≡ get_or xs i x → slice_get ys i ≡ Some (see x)
  seen_read ys i x same within is =
      subst (λ zs. slice_get zs i ≡ Some (see x)) same
      (seen_at see xs i x (slice_get_read xs (length xs) i x refl within is))

  -- what each of the first ones has, and the next one, each of the first ones and it have
  pub all_seen_more : (P : Y → Type 0) (i : ℕ) (x : X) → i < length xs → x ≡ get_or xs i x
      → All P (take i (map see xs)) → P (see x) → All P (take (i + 1) (map see xs))
  all_seen_more P i x within is before here =
      let inside : i < length (map see xs) = omega (arith, length-map xs see) in
      let at = get_or_from_slice_get (map see xs) i (see x) (see x)
      (seen_read (map see xs) i x refl within is) in
      all_upto_more P (map see xs) i (see x) inside before (subst P (sym at) here)

  -- what each of the first ones has, and there are no more, each has
  pub all_seen : (P : Y → Type 0) (ys : List Y) (i : ℕ) → map see xs ≡ ys → length xs ≤ i
      → All P (take i (map see xs)) → All P ys
  all_seen P ys i same past all =
      let whole : take i (map see xs) ≡ map see xs =
      take_all i (map see xs) (omega (arith, length-map xs see)) in
      subst (All P) (whole ∙ same) all

-- what none of a list has, not some of it has
pub none_of_each : {A : Type 0} (P : A → Type 0) (xs : List A)
    → All (λ x. P x → ⊥) xs → Any P xs → ⊥
none_of_each P xs none a = all_at (λ x. P x → ⊥) xs a.0 a.1 none (any_is_at P xs a) a.4

-- in a list that rises, what stands later is greater
rises : (xs : List ℕ) → IsStrictlyIncreasing xs → (p n : ℕ) → p + suc n < length xs
    → get_or xs p 0 < get_or xs (p + suc n) 0
rises xs up p zero within =
    let next : p + 1 ≡ p + suc zero = omega arith in
    subst (λ q. get_or xs p 0 < get_or xs q 0) next (up p (omega arith))
rises xs up p (suc n) within =
    let next : p + suc n + 1 ≡ p + suc (suc n) = omega arith in
    let before : get_or xs p 0 < get_or xs (p + suc n) 0 = rises xs up p n (omega arith) in
    let last : get_or xs (p + suc n) 0 < get_or xs (p + suc (suc n)) 0 =
    subst (λ q. get_or xs (p + suc n) 0 < get_or xs q 0) next (up (p + suc n) (omega arith)) in
    omega (arith, before, last)

-- in a list that rises, halving finds a number where it stands
pub found_where_it_is : (xs : List ℕ) (x : ℕ) (r : Result ℕ ℕ) (q : ℕ) → IsStrictlyIncreasing xs
    → IsBinarySearchResult (λ y. nat_cmp y x) xs r → slice_get xs q ≡ Some x → r ≡ Ok q
found_where_it_is xs x r q up h e = go r (searched xs x r h flat)
  where
    within : q < length xs
    within = slice_get_within xs q x e

    here : get_or xs q 0 ≡ x
    here = get_or_from_slice_get xs q x 0 e

    later : (i j : ℕ) → i < j → j < length xs → get_or xs i 0 < get_or xs j 0
    later i j lt inside =
        let at : i + suc (j - suc i) ≡ j = omega arith in
        subst (λ k. get_or xs i 0 < get_or xs k 0) at (rises xs up i (j - suc i) (omega arith))

    flat : (i j : ℕ) → i ≤ j → j < length xs → get_or xs i 0 ≤ get_or xs j 0
    flat i j le inside =
        ⊎_elim (λ (p : i < j). let l = later i j p inside in omega (arith, l))
        (λ (p : i ≡ j). let s = ap (λ k. get_or xs k 0) p in omega (arith, s))
        (lt_or_eq le)
      where
        lt_or_eq : i ≤ j → (i < j) ⊎ (i ≡ j)
        lt_or_eq h = grind arith

    same_place : (i : ℕ) → (i < q → ⊥) → (q < i → ⊥) → i ≡ q
    same_place i less more =
        ⊎_elim (λ (p : i < q). absurd (less p))
        (λ (p : (i ≡ q) ⊎ (q < i)).
        ⊎_elim (λ (s : i ≡ q). s) (λ (s : q < i). absurd (more s)) p) (places i)
      where
        places : (i : ℕ) → (i < q) ⊎ ((i ≡ q) ⊎ (q < i))
        places i = grind arith

    go : (r : Result ℕ ℕ)
        → MatchResult r (λ i. (i < length xs) × (get_or xs i 0 ≡ x))
        (λ i. (i ≤ length xs) × ((k : ℕ) → k < i → get_or xs k 0 < x)
        × ((k : ℕ) → i ≤ k → k < length xs → x < get_or xs k 0))
        → r ≡ Ok q
    go (Ok i) m =
        let at : get_or xs i 0 ≡ x = m.1 in
        let inside : i < length xs = m.0 in
        let less : i < q → ⊥ = λ lt. let l = later i q lt within in omega (arith, l, at, here) in
        let more : q < i → ⊥ = λ lt. let l = later q i lt inside in omega (arith, l, at, here) in
        ap Ok (same_place i less more)
    go (Err i) m =
        absurd (⊎_elim (λ (p : q < i). let l = m.1 q p in omega (arith, l, here))
        (λ (p : i ≤ q). let l = m.2 q p within in omega (arith, l, here)) (sides i))
      where
        sides : (i : ℕ) → (q < i) ⊎ (i ≤ q)
        sides i = grind arith

-- what is so is not not so
pub not_both : (b : Bool) → not b ≡ true → b ≡ true → ⊥
not_both true p q = absurd (cc)
not_both false p q = absurd (cc)

-- what cannot be so is not so
pub other : (b : Bool) → (b ≡ true → ⊥) → not b ≡ true
other true f = absurd (f refl)
other false f = refl

-- what stands in a list with one more at its end stands before it, or is that
pub split_last : {A : Type 0} (xs : List A) (y z : A) (i : ℕ)
    → slice_get (xs ++ y ∷ []) i ≡ Some z
    → (slice_get xs i ≡ Some z) ⊎ ((i ≡ length xs) × (y ≡ z))
split_last [] y z zero e = inr (refl, cc)
split_last [] y z (suc i) e = let l : i < 0 = slice_get_within [] i z e in absurd (omega arith)
split_last (x ∷ xs) y z zero e = inl e
split_last {A} (x ∷ xs) y z (suc i) e =
    ⊎_elim (λ (h : slice_get xs i ≡ Some z). inl h)
    (λ (h : (i ≡ length xs) × (y ≡ z)).
    let at : i ≡ length xs = h.0 in
    let next : suc i ≡ length (x ∷ xs) = omega (arith, at) in inr (next, h.1))
    (split_last xs y z i e)

-- what is not so, and what is not not so
pub not_true : (b : Bool) → not b ≡ true → b ≡ false
not_true true p = absurd (cc)
not_true false p = refl

pub not_false : (b : Bool) → not b ≡ false → b ≡ true
not_false true p = refl
not_false false p = absurd (cc)

-- where there are both, there is one and the other
pub both : (a b : Bool) → IsTrue (a && b) ↔ (IsTrue a × IsTrue b)
both true b = (λ p. (refl, p), λ p. p.1)
both false b = (λ p. absurd (cc), λ p. p.0)

module _ (t : Tables) where
  -- a list that has its name in the tables is one of them
  pub list_at : (id : ListId) (index : ℕ) → Some index ≡ index_of t.slots id → ListIsServed t id
      → IsListAt t id index
  list_at id index e h =
      subst (λ o. MatchOption o (HasChoice (Chooses (rules_at t).lists id) → ⊥) (IsListAt t id))
      (sym e) h

  -- what is read at such an index is the list, and it has the name
  pub list_read : (id : ListId) (index : ℕ) (l : ListEntry) → IsListAt t id index
      → l ≡ get_or t.lists.items index l
      → (slice_get t.lists.items index ≡ Some l) × (list_view l.id ≡ id)
  list_read id index l h is =
      let within = slice_get_within t.lists.items index h.entry h.is_there in
      let at = slice_get_read t.lists.items (length t.lists.items) index l refl within is in
      let twice : Some h.entry ≡ Some l = sym h.is_there ∙ at in
      let one : h.entry ≡ l = cc in
      (at, subst (λ (e : ListEntry). list_view e.id ≡ id) one h.same)

  -- the index of a branch stands before a position
  pub before_at : (below : List ℕ) (position : ℕ) (id : ListId) (index : ℕ)
      → Some index ≡ index_of t.slots id → BranchIsBefore t below position id
      → (q : ℕ) × (q < position) × (slice_get below q ≡ Some index)
  before_at below position id index e h =
      subst
      (λ o. MatchOption o ⊤
      (λ i. (q : ℕ) × (q < position) × (slice_get below q ≡ Some i)))
      (sym e) h

  module _ (tables : AreTables t) where
    -- what the entry of a list says of a key
    pub known_by_list : (id : ListId) (l : ListEntry) → IsListOf t id l → (x : Key) (b : Bool)
        → b ≡ knows l x → IsTrue b ↔ IsKnown (Chooses (rules_at t).lists id) x
    known_by_list id l h x b e =
        let k = (tables.lists h.index l h.listed).known x in (
          λ p.
              subst (λ i. IsKnown (Chooses (rules_at t).lists i) x) h.same (k.0 (sym e ∙ p)),
          λ p.
              e ∙ k.1 (subst (λ i. IsKnown (Chooses (rules_at t).lists i) x) (sym h.same) p),
        )

    -- a list of the tables has its own name
    pub itself : (l : ListEntry) → IsListed t l → IsListOf t (list_view l.id) l
    itself l h = record { index = h.index; listed = h.listed; same = refl }

    -- whether an object has members of no known name, by the entry of its list
    pub unknown_by_list : (l : ListEntry) → IsListed t l → (o : Object) (b : Bool)
        → o.list ≡ list_view l.id → b ≡ has_unknown l o.members
        → IsTrue b ↔ HasUnknown (rules_at t) o
    unknown_by_list l h o b same e = (
      λ p. (unknown_iff (rules_at t) o).1 (some (sym e ∙ p)),
      λ u. e ∙ list_any-from_Any missing o.members (any ((unknown_iff (rules_at t) o).0 u)),
    )
      where
        missing : Member → Bool
        missing m = not (knows l (named m.name))

        at : (m : Member) → IsTrue (knows l (named m.name))
            ↔ IsKnown (Chooses (rules_at t).lists o.list) (named m.name)
        at m =
            known_by_list o.list l
            (record { index = h.index; listed = h.listed; same = sym same }) (named m.name)
            (knows l (named m.name)) refl

        some : list_any missing o.members ≡ true
            → Any (λ (m : Member). IsKnown (Chooses (rules_at t).lists o.list) (named m.name) → ⊥)
            o.members
        some p =
            let a = Any-from_list_any missing o.members p in
            (a.0, a.1, a.2, a.3, λ k. not_both (knows l (named a.1.name)) a.4 ((at a.1).1 k))

        any : Any (λ (m : Member). IsKnown (Chooses (rules_at t).lists o.list) (named m.name) → ⊥)
            o.members
            → Any (λ m. missing m ≡ true) o.members
        any a = (a.0, a.1, a.2, a.3, other (knows l (named a.1.name)) (λ p. a.4 ((at a.1).0 p)))

module _ (t : Tables) (nodes : Nodes) (o : code.Object) (h : IsObject t nodes o) where
  -- whether catch-alls take members of an object, as it says
  pub rest_by_object : IsTrue (o.takes && o.has_unknown)
      ↔ HasRest (rules_at t) (object_view nodes o)
  rest_by_object = (
    λ p.
        let b = (both o.takes o.has_unknown).0 p in
        record { takes = b.0; unknown = h.unknown.0 b.1 },
    λ r. (both o.takes o.has_unknown).1 (r.takes, h.unknown.1 r.unknown),
  )

  module _ (s : Selection) (b : Bool)
      (tells : IsTrue b
      ↔ (IsTrue (o.takes && o.has_unknown) × IsKnownIn (rules_at t).lists s rest)) where
    -- where a selection knows no name of an object, it touches it by the rest
    pub touches_by_rest :
        All (λ (m : Member). IsKnownIn (rules_at t).lists s (named m.name) → ⊥)
        (members_in (value_of nodes o.node))
        → IsTrue b ↔ Touches (rules_at t) (object_view nodes o) s
    touches_by_rest none = (
      λ p.
          let r = tells.0 p in
          (touches_iff (rules_at t) (object_view nodes o) s).1
          (inr (rest_by_object.0 r.0, r.1)),
      λ q.
          ⊎_elim
          (λ (a : Any (λ (m : Member). IsKnownIn (rules_at t).lists s (named m.name))
          (members_in (value_of nodes o.node))).
          absurd (none_of_each (λ (m : Member). IsKnownIn (rules_at t).lists s (named m.name))
          (members_in (value_of nodes o.node)) none a))
          (λ (r : HasRest (rules_at t) (object_view nodes o)
          × IsKnownIn (rules_at t).lists s rest).
          tells.1 (rest_by_object.1 r.0, r.1))
          ((touches_iff (rules_at t) (object_view nodes o) s).0 q),
    )

    -- a list that knows each name of an object that the selection knows fits, where it knows the
    -- rest or the selection has none of it
    pub fits_by_rest : (id : ListId)
        → All
        (λ (m : Member). IsKnownIn (rules_at t).lists s (named m.name)
        → IsKnown (Chooses (rules_at t).lists id) (named m.name))
        (members_in (value_of nodes o.node))
        → IsKnown (Chooses (rules_at t).lists id) rest ⊎ (b ≡ false)
        → Fits (rules_at t) (object_view nodes o) s id
    fits_by_rest id each r =
        (fits_iff (rules_at t) (object_view nodes o) s id).1 (
          each,
          λ has known.
              ⊎_elim (λ (k : IsKnown (Chooses (rules_at t).lists id) rest). k)
              (λ (f : b ≡ false).
              let p : b ≡ true = tells.1 (rest_by_object.1 has, known) in absurd (cc)) r,
        )

    -- and where it doesn't and the selection has some, it misfits
    pub misfits_by_rest : (id : ListId) → (IsKnown (Chooses (rules_at t).lists id) rest → ⊥)
        → IsTrue b → Misfits (rules_at t) (object_view nodes o) s id
    misfits_by_rest id unknown p =
        let r = tells.0 p in
        (misfits_iff (rules_at t) (object_view nodes o) s id).1
        (inr (rest_by_object.0 r.0, r.1, unknown))

  -- a list that the choices of the object's list go through is one of the tables
  pub listed_below : AreTables t → (position : ℕ) (xs : List ℕ) → xs ≡ o.list.now.below.items
      → position < length xs
      → (l : ListEntry) × (slice_get o.list.now.below.items position ≡ Some (get_or xs position 0))
      × (slice_get t.lists.items (get_or xs position 0) ≡ Some l)
  listed_below tables position xs same within =
      let at = subst (λ ys. slice_get ys position ≡ Some (get_or xs position 0)) same
      (slice_get-get_or xs position 0 within) in
      let in_order = (tables.lists h.index o.list.now h.listed).in_order in
      let a = in_order position (get_or xs position 0) at in
      (a.0, at, a.1)

  -- one list more has been counted
  pub counts_more : (counts : List Count) (count : Count) (index : ℕ) (l : ListEntry)
      → AreListCounts t nodes o counts
      → slice_get o.list.now.below.items (length counts) ≡ Some index
      → slice_get t.lists.items index ≡ Some l → IsListCount t nodes o l count
      → AreListCounts t nodes o (counts ++ count ∷ [])
  counts_more counts count index l before here listed counted = record { are = are }
    where
      are : (position i : ℕ) (n : Count) (e : ListEntry)
          → slice_get (counts ++ count ∷ []) position ≡ Some n
          → slice_get o.list.now.below.items position ≡ Some i
          → slice_get t.lists.items i ≡ Some e → IsListCount t nodes o e n
      are position i n e at below there =
          ⊎_elim
          (λ (p : slice_get counts position ≡ Some n). before.are position i n e p below there)
          (λ (p : (position ≡ length counts) × (count ≡ n)).
          let both : Some index ≡ Some i =
          sym here ∙ ap (slice_get o.list.now.below.items) (sym p.0) ∙ below in
          let same : index ≡ i = cc in
          let twice : Some l ≡ Some e =
          sym listed ∙ ap (slice_get t.lists.items) same ∙ there in
          let one : l ≡ e = cc in
          subst (λ (k : ListEntry). IsListCount t nodes o k n) one
          (subst (IsListCount t nodes o l) p.1 counted))
          (split_last counts count n position at)

  -- halving finds the index of a branch that stands before a position, where it stands
  pub halved_before : AreTables t → (n : ℕ) (id : ListId) (index : ℕ) (xs : List ℕ)
      (r : Result ℕ ℕ)
      → Some index ≡ index_of t.slots id
      → BranchIsBefore t o.list.now.below.items n id
      → xs ≡ o.list.now.below.items → IsBinarySearchResult (λ y. nat_cmp y index) xs r
      → (q : ℕ) × (q < n) × (slice_get o.list.now.below.items q ≡ Some index) × (r ≡ Ok q)
  halved_before tables n id index xs r e before same halved =
      let below = o.list.now.below.items in
      let b = before_at t below n id index e before in
      let rising = (tables.lists h.index o.list.now h.listed).rising in (
        b.0,
        b.1,
        b.2,
        found_where_it_is xs index r b.0 (subst IsStrictlyIncreasing (sym same) rising) halved
            (subst (λ ys. slice_get ys b.0 ≡ Some index) (sym same) b.2),
      )
