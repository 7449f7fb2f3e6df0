-- How two readings of one value as one target come about.
use Rattle.std.proofs.Common.{◌≡◌, ◌⊎◌, inl, inr, sym, ap, ◌∙◌, subst, ⊎_elim, ℕ, suc, ◌<◌, List}
use Rattle.std.proofs.Common.{[], ◌∷◌}
use Rattle.std.proofs.Common.{Any, Bool, true, false, IsTrue, Option, Some, None, map, option_map}
use Rattle.std.proofs.Common.{slice_get, zip, refl}
use Rattle.std.specs.Prelude.{⊤}
use Rattle.std.proofs.Math.Dec.{eqb}
use Rattle.std.proofs.lemmas.Bool.Decides.{eqb_tells}
use Rattle.std.proofs.lemmas.Option.{slice_get-map, slice_get_within}
use Rattle.facet_solver_reader.specs.declared.plan.PlannedEnd.{PlannedEnd}
use Rattle.facet_solver_reader.specs.declared.plan.PlannedEnd.TheVariants as planned
use Rattle.facet_solver_reader.specs.Asking.{Asks}
use Rattle.facet_solver_reader.specs.Branches.{ReadsList}
use Rattle.facet_solver_reader.specs.Choices.{Choice, Reading, a_value, each_of, an_object}
use Rattle.facet_solver_reader.specs.Choices.{a_variant}
use Rattle.facet_solver_reader.specs.Choices.{Readings, no_readings, reading}
use Rattle.facet_solver_checker.specs.Differing.{joined, variant}
use Rattle.facet_solver_reader.specs.Documents.{Tree, null, text, list, object}
use Rattle.facet_solver_reader.specs.Documents.{Member, items, member, members, no_members}
use Rattle.facet_solver_reader.specs.Known.{Chooses, HasChoice}
use Rattle.facet_solver_reader.specs.Objects.{Object, Reads, ReadsAll, ReadsIgnoring, ReadsObject}
use Rattle.facet_solver_reader.specs.Objects.{ignoring, taking}
use Rattle.facet_solver_reader.specs.Parts.{ListId, Target, of_content, of_shape, of_tag}
use Rattle.facet_solver_reader.specs.Plans.{IsNumberIfChosen, IsNumberOf, IsNumberOfList}
use Rattle.facet_solver_reader.specs.Plans.{AreNumbersOfShapes, IsPlannedAs}
use Rattle.facet_solver_reader.specs.Plans.{IsPlannedContent, IsPlannedEnd, IsPlannedName, Meaning}
use Rattle.facet_solver_checker.specs.Leading.{IsWithin}
use Rattle.facet_solver_reader.specs.Reached.{asked_by_content, asked_by_end, asked_by_kind}
use Rattle.facet_solver_reader.specs.Reached.{list_of, list_of_content, list_of_end, within_content}
use Rattle.facet_solver_reader.specs.Reached.{within_end}
use Rattle.facet_solver_reader.specs.Rules as types
use Rattle.facet_solver_reader.specs.Rules.{Alternative, AlternativeKind, Content, End}
use Rattle.facet_solver_reader.specs.Rules.{NamedVariant}
use Rattle.facet_solver_reader.specs.Rules.{Rules, a_character, a_fallback, a_list, a_map}
use Rattle.facet_solver_reader.specs.Rules.{a_named_variant, a_text, a_truth, a_tuple, an_option}
use Rattle.facet_solver_reader.specs.Rules.{an_untagged_variant, anything, as_object, as_shape}
use Rattle.facet_solver_reader.specs.Rules.{as_tuple, joins, no_content, other}
use Rattle.facet_solver_checker.specs.Sites.{HasSide}
use Rattle.facet_solver_reader.specs.Values.{Inner, ReadsAlone, ReadsByFallback, ReadsByKind}
use Rattle.facet_solver_reader.specs.Values.{ReadsByOne, ReadsContent, ReadsDirectly, ReadsEach}
use Rattle.facet_solver_reader.specs.Values.{ReadsEnd, ReadsEntry, ReadsFallback, ReadsInside}
use Rattle.facet_solver_reader.specs.Values.{ReadsJoined, ReadsLast, ReadsNamed, ReadsNamedVariant}
use Rattle.facet_solver_reader.specs.Values.{ReadsPlace, ReadsPlainContent, ReadsPlainEnd}
use Rattle.facet_solver_reader.specs.Values.{NamesUnit, ReadsScalar, ReadsTag, ReadsTarget}
use Rattle.facet_solver_reader.proofs.Asked.{any_first, asked_by_alternative, asked_by_option}
use Rattle.facet_solver_reader.proofs.Asked.{asked_by_shape_content}
use Rattle.facet_solver_reader.proofs.Pairs.{pair_of}
use Rattle.facet_solver_reader.proofs.Quantifiers.{any_at}

-- a target has a number
abbrev pub IsNumbered : Meaning → Target → Type 0
IsNumbered m t = (n : ℕ) × IsNumberOf m t n

-- targets and values, each of which has a number
abbrev pub AreNumbered : Meaning → List (Target × Tree) → Type 0
AreNumbered m [] = ⊤
AreNumbered m (p ∷ ps) = IsNumbered m p.0 × AreNumbered m ps

-- the values within one of a target are read as these
abbrev pub AreWithin : Rules → Target → List (Target × Tree) → Type 0
AreWithin rules t [] = ⊤
AreWithin rules t (p ∷ ps) = IsWithin rules t p.0 × AreWithin rules t ps

-- a value is read as its target
abbrev pub ReadsPair : Reads → Target × Tree → Reading → Type 0
ReadsPair reads p r = reads p.0 p.1 r

-- what a target asks of the same value has a lower number than a limit
abbrev pub AsksBelow : Meaning → ℕ → Target → Type 0
AsksBelow m n t = (u : Target) → Asks m.rules t u → (k : ℕ) × (k < n) × IsNumberOf m u k

-- two readings of a value as a target whose number is a limit: they are the same, they are so of
-- another target of the same value, they are of one variant, of two, or of one and of those that
-- are read together, they are of several values within, or of one object by one list
pub data Both (m : Meaning) (reads : Inner) (n : ℕ) (t : Target) (v : Tree) : Reading → Reading
    → Type 0
  where
    are_same : (r s : Reading) → r ≡ s → Both m reads n t v r s
    ask : (u : Target) → Asks m.rules t u → (k : ℕ) → k < n → IsNumberOf m u k → (r s : Reading)
        → reads.itself u v r → reads.itself u v s → Both m reads n t v r s
    of_one : (u : Target) → Asks m.rules t u → (k : ℕ) → k < n → IsNumberOf m u k
        → (i : ℕ) (r s : Reading)
        → reads.itself u v r → reads.itself u v s
        → Both m reads n t v (a_variant i r) (a_variant i s)
    of_member : (u : Target) → IsWithin m.rules t u → (k : ℕ) → IsNumberOf m u k → (w : Tree)
        → (i : ℕ) (r s : Reading)
        → reads.within u w r → reads.within u w s
        → Both m reads n t v (a_variant i r) (a_variant i s)
    of_two : (id : ℕ) → t ≡ of_shape id → (i j : ℕ) → HasSide (m.rules.end_of id) (variant i)
        → HasSide (m.rules.end_of id) (variant j) → (i ≡ j → ⊥) → (r s : Reading)
        → Both m reads n t v (a_variant i r) (a_variant j s)
    of_joined : (id : ℕ) → t ≡ of_shape id → (j : ℕ) → HasSide (m.rules.end_of id) joined
        → HasSide (m.rules.end_of id) (variant j) → (c : Choice) (s : Reading)
        → Both m reads n t v (an_object c) (a_variant j s)
    of_alone : (id : ℕ) → t ≡ of_shape id → (i : ℕ) → HasSide (m.rules.end_of id) (variant i)
        → HasSide (m.rules.end_of id) joined → (r : Reading) (e : Choice)
        → Both m reads n t v (a_variant i r) (an_object e)
    of_values : (ps : List (Target × Tree)) → AreNumbered m ps → AreWithin m.rules t ps
        → (rs ss : Readings)
        → ReadsEach (ReadsPair reads.within) ps rs → ReadsEach (ReadsPair reads.within) ps ss
        → Both m reads n t v (each_of rs) (each_of ss)
    of_objects : (id : ListId) → list_of m.rules t ≡ Some id → (k : ℕ) → IsNumberOfList m id k
        → (o : Object) (c e : Choice)
        → ReadsList m.rules reads.within o id c → ReadsList m.rules reads.within o id e
        → Both m reads n t v (an_object c) (an_object e)

never : IsTrue false → ⊥
never h = absurd (cc)

-- what is there is one thing
some_is : {A : Type 0} {x y : A} → Some x ≡ Some y → x ≡ y
some_is p = cc

-- what is read of several things is read of the values in them
each_as : {A : Type 0} (reads : Reads) (P : A → Reading → Type 0) (f : A → Target × Tree)
    → ((x : A) (r : Reading) → P x r → ReadsPair reads (f x) r) → (xs : List A) (rs : Readings)
    → ReadsEach P xs rs → ReadsEach (ReadsPair reads) (map f xs) rs
each_as reads P f g [] no_readings h = h
each_as reads P f g [] (reading r rs) h = absurd h
each_as reads P f g (x ∷ xs) no_readings h = absurd h
each_as reads P f g (x ∷ xs) (reading r rs) h = (g x r h.0, each_as reads P f g xs rs h.1)

-- values that are all read as one target that has a number
all_numbered : {A : Type 0} (m : Meaning) (f : A → Target × Tree)
    → ((x : A) → IsNumbered m (f x).0) → (xs : List A) → AreNumbered m (map f xs)
all_numbered m f g [] = tt
all_numbered m f g (x ∷ xs) = (g x, all_numbered m f g xs)

-- values that are all read as one target
all_within : {A : Type 0} (rules : Rules) (t : Target) (f : A → Target × Tree)
    → ((x : A) → IsWithin rules t (f x).0) → (xs : List A) → AreWithin rules t (map f xs)
all_within rules t f g [] = tt
all_within rules t f g (x ∷ xs) = (g x, all_within rules t f g xs)

-- a value with its target
abbrev item_of : Target → Tree → Target × Tree
item_of t v = (t, v)

-- the value of a member with its target
abbrev entry_of : Target → Member → Target × Tree
entry_of t w = (t, w.value)

-- the target and the value of a place
abbrev of_place : ℕ × Tree → Target × Tree
of_place p = (of_shape p.0, p.1)

-- the values of a tuple, each by a target that has a number
tuple_numbered : (m : Meaning) (ss ns : List ℕ) (vs : List Tree) → AreNumbersOfShapes m ss ns
    → AreNumbered m (map of_place (zip ss vs))
tuple_numbered m [] ns vs h = tt
tuple_numbered m (s ∷ ss) ns [] h = tt
tuple_numbered m (s ∷ ss) [] (v ∷ vs) h = absurd h
tuple_numbered m (s ∷ ss) (n ∷ ns) (v ∷ vs) h = ((n, h.0), tuple_numbered m ss ns vs h.1)

-- each shape of a tuple is within a target
abbrev ShapesWithin : Rules → Target → List ℕ → Type 0
ShapesWithin rules t ss =
    (k s : ℕ) → slice_get ss k ≡ Some s → IsWithin rules t (of_shape s)

tuple_within : (rules : Rules) (t : Target) (ss : List ℕ) (vs : List Tree)
    → ShapesWithin rules t ss → AreWithin rules t (map of_place (zip ss vs))
tuple_within rules t [] vs h = tt
tuple_within rules t (s ∷ ss) [] h = tt
tuple_within rules t (s ∷ ss) (v ∷ vs) h =
    (h 0 s refl, tuple_within rules t ss vs (λ k x e. h (suc k) x e))

-- what stands in a list stands, as it is seen, among what is seen of all
seen_in : {A : Type 0} (f : A → Target) (xs : List A) (k : ℕ) (x : A) → slice_get xs k ≡ Some x
    → Any (λ u. u ≡ f x) (map f xs)
seen_in f xs k x e =
    any_at (λ u. u ≡ f x) (map f xs) k (f x) (slice_get-map f xs k ∙ ap (option_map f) e) refl

-- an alternative reads null alone, or as the content that it asks
by_kind : (kind : AlternativeKind) (content : Target) (whole : Bool) (v : Tree) (r : Reading)
    (X : Type 0) → ReadsByKind kind whole v r X
    → ((kind ≡ types.null_alone) × (r ≡ a_value))
    ⊎ ((asked_by_kind kind content ≡ content ∷ []) × X)
by_kind joins content whole v r X h = absurd h
by_kind types.null_alone content whole null r X h = inl (refl, h)
by_kind types.null_alone content whole v r X h = absurd h
by_kind (types.a_whole range) content whole v r X h = inr (refl, h)
by_kind types.a_float content whole v r X h = inr (refl, h.1)
by_kind a_fallback content whole v r X h = absurd h
by_kind other content whole v r X h = inr (refl, h)

-- what asks nothing of the same value does not ask its content
null_asks_none : (kind : AlternativeKind) (content : Target) → kind ≡ types.null_alone
    → asked_by_kind kind content ≡ content ∷ [] → ⊥
null_asks_none kind content is asks =
    let none : [] ≡ content ∷ [] =
    subst (λ k. asked_by_kind k content ≡ content ∷ []) is asks in
    absurd (cc)

module _ (m : Meaning) where
  -- what a planned end says of the targets that it names
  list_number : (s : ℕ) (p : PlannedEnd) → IsPlannedEnd m (a_list s) p → IsNumbered m (of_shape s)
  list_number s (planned.List k) h = (k, h)
  list_number s p h = absurd h

  tuple_numbers : (ss : List ℕ) (p : PlannedEnd) → IsPlannedEnd m (a_tuple ss) p
      → (ns : List ℕ) × AreNumbersOfShapes m ss ns
  tuple_numbers ss (planned.Tuple ns) h = (ns.items, h)
  tuple_numbers ss p h = absurd h

  map_number : (key value : ℕ) (p : PlannedEnd) → IsPlannedEnd m (a_map key value) p
      → IsNumbered m (of_shape value)
  map_number key value (planned.Map k n) h = (n, h.1)
  map_number key value p h = absurd h

  object_number : (id : ListId) (p : PlannedEnd) → IsPlannedEnd m (types.an_object id) p
      → (o : Option ℕ) × IsNumberIfChosen m id o
  object_number id (planned.Object o) h = (o, h)
  object_number id p h = absurd h

  named_numbers : (vs : List NamedVariant) (p : PlannedEnd) → IsPlannedEnd m (a_named_variant vs) p
      → (k : ℕ) (a : NamedVariant) → slice_get vs k ≡ Some a → IsNumbered m a.content
  named_numbers vs (planned.Named ps) h k a at =
      let pair = pair_of (IsPlannedName m) vs ps.items k a h at in
      (pair.0.content, pair.2.content)
  named_numbers vs p h k a at = absurd h

  joined_number : (id : ListId) (alone : List Alternative) (p : PlannedEnd)
      → IsPlannedEnd m (an_untagged_variant id alone) p → (o : Option ℕ) × IsNumberIfChosen m id o
  joined_number id alone (planned.Untagged o ps) h = (o, h.0)
  joined_number id alone p h = absurd h

  -- a list that some choice has has a number
  chosen_number : (id : ListId) (o : Option ℕ) → IsNumberIfChosen m id o
      → HasChoice (Chooses m.rules.lists id) → (k : ℕ) × IsNumberOfList m id k
  chosen_number id None h c = absurd (h c)
  chosen_number id (Some k) h c = (k, h)

-- a reading of an untagged enum is by the variants that join, or by one
data ByVariants (rules : Rules) (reads : Inner) (parts : ListId) (alone : List Alternative)
    (v : Tree) : Reading → Type 0
  where
    by_joined : (c : Choice) → ReadsJoined rules reads.within parts v (an_object c)
        → ByVariants rules reads parts alone v (an_object c)
    by_one : (i : ℕ) (a : Alternative) → slice_get alone i ≡ Some a → (r : Reading)
        → ((a.kind ≡ types.null_alone) × (r ≡ a_value))
        ⊎ ((asked_by_kind a.kind a.content ≡ a.content ∷ []) × reads.itself a.content v r)
        → ByVariants rules reads parts alone v (a_variant i r)

module _ (rules : Rules) (reads : Inner) (parts : ListId) (alone : List Alternative)
    (v : Tree) where
  of_joined_ones : (r : Reading) → ReadsJoined rules reads.within parts v r
      → ByVariants rules reads parts alone v r
  of_joined_ones r h = go v r h by_joined
    where
      go : (w : Tree) (q : Reading) → ReadsJoined rules reads.within parts w q
          → ((c : Choice) → ReadsJoined rules reads.within parts w (an_object c)
          → ByVariants rules reads parts alone v (an_object c))
          → ByVariants rules reads parts alone v q
      go (object ms) (an_object c) g f = f c g
      go w q g f = absurd g

  of_one_alone : (r : Reading) → ReadsAlone reads.itself alone v r
      → ByVariants rules reads parts alone v r
  of_one_alone a_value h = absurd h
  of_one_alone (each_of rs) h = absurd h
  of_one_alone (an_object c) h = absurd h
  of_one_alone (a_variant i q) h = go (slice_get alone i) refl h
    where
      go : (o : Option Alternative) → slice_get alone i ≡ o
          → ReadsByOne reads.itself alone o v q
          → ByVariants rules reads parts alone v (a_variant i q)
      go None at g = absurd g
      go (Some a) at g =
          by_one i a at q (by_kind a.kind a.content _ v q (reads.itself a.content v q) g)

  of_fallback : (r : Reading) → ReadsFallback reads.itself alone v r
      → ByVariants rules reads parts alone v r
  of_fallback a_value h = absurd h
  of_fallback (each_of rs) h = absurd h
  of_fallback (an_object c) h = absurd h
  of_fallback (a_variant i q) h = go (slice_get alone i) refl h
    where
      asks : (k : AlternativeKind) (u : Target) → k ≡ a_fallback → asked_by_kind k u ≡ u ∷ []
      asks k u e = rw e refl

      go : (o : Option Alternative) → slice_get alone i ≡ o
          → ReadsByFallback reads.itself o v q
          → ByVariants rules reads parts alone v (a_variant i q)
      go None at g = absurd g
      go (Some a) at g = by_one i a at q (inr (asks a.kind a.content g.0, g.1))

  -- a reading of an untagged enum is so
  by_variants_of : (r : Reading) → ReadsEnd rules reads (an_untagged_variant parts alone) v r
      → ByVariants rules reads parts alone v r
  by_variants_of r h =
      ⊎_elim
      (λ (d : ReadsDirectly rules reads (an_untagged_variant parts alone) v r).
      ⊎_elim (λ (j : ReadsJoined rules reads.within parts v r). of_joined_ones r j)
      (λ (a : ReadsAlone reads.itself alone v r). of_one_alone r a) d)
      (λ (l : ReadsLast rules reads (an_untagged_variant parts alone) v r). of_fallback r l.1) h

module _ (m : Meaning) (reads : Inner) (n : ℕ) (t : Target) where
  -- two readings of an object by one list
  one_object : (v : Tree) (id : ListId) → list_of m.rules t ≡ Some id → (o : Option ℕ)
      → IsNumberIfChosen m id o
      → (ms : List Member) (c e : Choice)
      → ReadsObject m.rules reads.within id ms c → ReadsObject m.rules reads.within id ms e
      → Both m reads n t v (an_object c) (an_object e)
  one_object v id list_is o numbered ms c e h k =
      ⊎_elim
      (λ (a : ReadsAll m.rules reads.within ms id c).
      ⊎_elim
      (λ (b : ReadsAll m.rules reads.within ms id e). same (taking ms id) a.reading b.reading)
      (λ (b : ReadsIgnoring m.rules reads.within ms id e). absurd (b.none_reads_all c a)) k)
      (λ (a : ReadsIgnoring m.rules reads.within ms id c).
      ⊎_elim
      (λ (b : ReadsAll m.rules reads.within ms id e). absurd (a.none_reads_all e b))
      (λ (b : ReadsIgnoring m.rules reads.within ms id e).
      same (ignoring ms id) a.reading b.reading) k) h
    where
      same : (x : Object) → ReadsList m.rules reads.within x id c
          → ReadsList m.rules reads.within x id e
          → Both m reads n t v (an_object c) (an_object e)
      same x a b =
          let number = chosen_number m id o numbered
          (record { choice = c; items = a.items; chooses = a.chooses }) in
          of_objects id list_is number.0 number.1 x c e a b

  -- two readings of a list
  lists : (s : ℕ) → IsNumbered m (of_shape s) → IsWithin m.rules t (of_shape s)
      → (v : Tree) (r q : Reading)
      → ReadsPlainEnd m.rules reads.within (a_list s) v r
      → ReadsPlainEnd m.rules reads.within (a_list s) v q → Both m reads n t v r q
  lists s number inside (list vs) (each_of rs) (each_of qs) h k =
      let paired = item_of (of_shape s) in
      of_values (map paired (items vs)) (all_numbered m paired (λ w. number) (items vs))
      (all_within m.rules t paired (λ w. inside) (items vs)) rs qs
      (each_as reads.within (reads.within (of_shape s)) paired (λ w r p. p) (items vs) rs h)
      (each_as reads.within (reads.within (of_shape s)) paired (λ w r p. p) (items vs) qs k)
  lists s number inside (list vs) (each_of rs) q h k = absurd (never k.0)
  lists s number inside v r q h k = absurd (never h.0)

  -- of the values of a tuple
  places : (ss ns : List ℕ) (v : Tree) (vs : List Tree) (rs qs : Readings)
      → AreNumbersOfShapes m ss ns → ShapesWithin m.rules t ss
      → ReadsEach (ReadsPlace reads.within) (zip ss vs) rs
      → ReadsEach (ReadsPlace reads.within) (zip ss vs) qs
      → Both m reads n t v (each_of rs) (each_of qs)
  places ss ns v vs rs qs numbers inside h k =
      of_values (map of_place (zip ss vs)) (tuple_numbered m ss ns vs numbers)
      (tuple_within m.rules t ss vs inside) rs qs
      (each_as reads.within (ReadsPlace reads.within) of_place (λ w r p. p) (zip ss vs) rs h)
      (each_as reads.within (ReadsPlace reads.within) of_place (λ w r p. p) (zip ss vs) qs k)

  -- of a tuple
  tuples : (ss ns : List ℕ) → AreNumbersOfShapes m ss ns → ShapesWithin m.rules t ss
      → (v : Tree) (r q : Reading)
      → ReadsPlainEnd m.rules reads.within (a_tuple ss) v r
      → ReadsPlainEnd m.rules reads.within (a_tuple ss) v q → Both m reads n t v r q
  tuples ss ns numbers inside (list vs) (each_of rs) (each_of qs) h k =
      places ss ns (list vs) (items vs) rs qs numbers inside h.1 k.1
  tuples ss ns numbers inside (list vs) (each_of rs) q h k = absurd (never k.0)
  tuples ss ns numbers inside v r q h k = absurd (never h.0)

  -- of a map
  maps : (key value : ℕ) → IsNumbered m (of_shape value) → IsWithin m.rules t (of_shape value)
      → (v : Tree) (r q : Reading)
      → ReadsPlainEnd m.rules reads.within (a_map key value) v r
      → ReadsPlainEnd m.rules reads.within (a_map key value) v q → Both m reads n t v r q
  maps key value number inside (object ms) (each_of rs) (each_of qs) h k =
      let paired = entry_of (of_shape value) in
      let entry = ReadsEntry (m.rules.is_key key) reads.within (of_shape value) in
      of_values (map paired (members ms)) (all_numbered m paired (λ w. number) (members ms))
      (all_within m.rules t paired (λ w. inside) (members ms)) rs qs
      (each_as reads.within entry paired (λ w r p. p.1) (members ms) rs h)
      (each_as reads.within entry paired (λ w r p. p.1) (members ms) qs k)
  maps key value number inside (object ms) (each_of rs) q h k = absurd (never k.0)
  maps key value number inside v r q h k = absurd (never h.0)

  -- of an object
  objects : (id : ListId) → list_of m.rules t ≡ Some id → (o : Option ℕ)
      → IsNumberIfChosen m id o → (v : Tree) (r q : Reading)
      → ReadsPlainEnd m.rules reads.within (types.an_object id) v r
      → ReadsPlainEnd m.rules reads.within (types.an_object id) v q → Both m reads n t v r q
  objects id list_is o numbered (object ms) (an_object c) (an_object e) h k =
      one_object (object ms) id list_is o numbered (members ms) c e h k
  objects id list_is o numbered (object ms) (an_object c) q h k = absurd (never k.0)
  objects id list_is o numbered v r q h k = absurd (never h.0)

  -- of a value that is read as it is
  scalars : (e : End) (v : Tree) (r q : Reading) → ReadsScalar e v r → ReadsScalar e v q
      → Both m reads n t v r q
  scalars e v r q h k = are_same r q (h.1 ∙ sym k.1)

  -- of what is inside an option
  options : (s : ℕ) → Asks m.rules t (of_shape s) → (k : ℕ) → k < n → IsNumberOf m (of_shape s) k
      → (v : Tree) (r q : Reading)
      → ReadsInside reads.itself s v r → ReadsInside reads.itself s v q → Both m reads n t v r q
  options s asks k less number null r q h g = are_same r q (h ∙ sym g)
  options s asks k less number v r q h g = ask (of_shape s) asks k less number r q h g

  module _ (id : ℕ) (is : t ≡ of_shape id) where
    -- of one variant or two
    one_or_two : (v : Tree) (i j : ℕ) (r q : Reading)
        → HasSide (m.rules.end_of id) (variant i) → HasSide (m.rules.end_of id) (variant j)
        → (i ≡ j → Both m reads n t v (a_variant i r) (a_variant i q))
        → Both m reads n t v (a_variant i r) (a_variant j q)
    one_or_two v i j r q has_i has_j one =
        ⊎_elim
        (λ (p : (eqb i j ≡ true) × (i ≡ j)).
        subst (λ z. Both m reads n t v (a_variant i r) (a_variant z q)) p.1 (one p.1))
        (λ (p : (eqb i j ≡ false) × (i ≡ j → ⊥)). of_two id is i j has_i has_j p.1 r q)
        (eqb_tells i j)

    module _ (vs : List NamedVariant) (end : m.rules.end_of id ≡ a_named_variant vs)
        (numbers : (k : ℕ) (a : NamedVariant) → slice_get vs k ≡ Some a → IsNumbered m a.content)
        (inside : (k : ℕ) (a : NamedVariant) → slice_get vs k ≡ Some a
        → IsWithin m.rules t a.content)
      where
        has_named : (i : ℕ) (a : NamedVariant) → slice_get vs i ≡ Some a
            → HasSide (m.rules.end_of id) (variant i)
        has_named i a at =
            subst (λ e. HasSide e (variant i)) (sym end) (slice_get_within vs i a at)

        names_unit : (i : ℕ) (x : List ℕ) (o : Option NamedVariant) → slice_get vs i ≡ o
            → NamesUnit o x → HasSide (m.rules.end_of id) (variant i)
        names_unit i x None at h = absurd h
        names_unit i x (Some a) at h = has_named i a at

        names_one : (i : ℕ) (w : Member) (r : Reading) (o : Option NamedVariant)
            → slice_get vs i ≡ o
            → ReadsNamed reads.within o w r → HasSide (m.rules.end_of id) (variant i)
        names_one i w r None at h = absurd h
        names_one i w r (Some a) at h = has_named i a at

        named_content : (v : Tree) (w : Member) (i : ℕ) (r q : Reading) (o : Option NamedVariant)
            → slice_get vs i ≡ o → ReadsNamed reads.within o w r → ReadsNamed reads.within o w q
            → Both m reads n t v (a_variant i r) (a_variant i q)
        named_content v w i r q None at h k = absurd h
        named_content v w i r q (Some a) at h k =
            let number = numbers i a at in
            of_member a.content (inside i a at) number.0 number.1 w.value i r q h.1 k.1

        -- of a variant that is named
        named : (v : Tree) (r q : Reading) → ReadsNamedVariant reads.within vs v r
            → ReadsNamedVariant reads.within vs v q → Both m reads n t v r q
        named (text x) (a_variant i a_value) (a_variant j a_value) h k =
            one_or_two (text x) i j a_value a_value (names_unit i x (slice_get vs i) refl h)
            (names_unit j x (slice_get vs j) refl k)
            (λ e. are_same (a_variant i a_value) (a_variant i a_value) refl)
        named (text x) (a_variant i a_value) q h k = absurd k
        named (object (member x w no_members)) (a_variant i r) (a_variant j q) h k =
            let one : Member = record { name = x; value = w } in
            one_or_two (object (member x w no_members)) i j r q
            (names_one i one r (slice_get vs i) refl h) (names_one j one q (slice_get vs j) refl k)
            (λ e. named_content (object (member x w no_members)) one i r q (slice_get vs i) refl h
            (subst (λ z. ReadsNamed reads.within (slice_get vs z) one q) (sym e) k))
        named (object (member x w no_members)) (a_variant i r) q h k = absurd k
        named v r q h k = absurd h

    module _ (parts : ListId) (alone : List Alternative)
        (end : m.rules.end_of id ≡ an_untagged_variant parts alone) (below : AsksBelow m n t)
        (o : Option ℕ) (numbered : IsNumberIfChosen m parts o)
        (list_is : list_of m.rules t ≡ Some parts) where
      has_alone : (i : ℕ) (a : Alternative) → slice_get alone i ≡ Some a
          → HasSide (m.rules.end_of id) (variant i)
      has_alone i a at =
          subst (λ e. HasSide e (variant i)) (sym end) (slice_get_within alone i a at)

      has_joined : HasSide (m.rules.end_of id) joined
      has_joined = subst (λ e. HasSide e joined) (sym end) tt

      -- two readings by one variant
      alone_same : (v : Tree) (i : ℕ) (a b : Alternative) → slice_get alone i ≡ Some a
          → slice_get alone i ≡ Some b → (r q : Reading)
          → ((a.kind ≡ types.null_alone) × (r ≡ a_value))
          ⊎ ((asked_by_kind a.kind a.content ≡ a.content ∷ []) × reads.itself a.content v r)
          → ((b.kind ≡ types.null_alone) × (q ≡ a_value))
          ⊎ ((asked_by_kind b.kind b.content ≡ b.content ∷ []) × reads.itself b.content v q)
          → Both m reads n t v (a_variant i r) (a_variant i q)
      alone_same v i a b at_a at_b r q h k = go (subst By (some_is (sym at_b ∙ at_a)) k)
        where
          By : Alternative → Type 0
          By c =
              ((c.kind ≡ types.null_alone) × (q ≡ a_value))
              ⊎ ((asked_by_kind c.kind c.content ≡ c.content ∷ []) × reads.itself c.content v q)

          asked_there : asked_by_kind a.kind a.content ≡ a.content ∷ []
              → Asks m.rules t a.content
          asked_there e =
              subst (λ x. Asks m.rules x a.content) (sym is)
              (subst (λ x. Any (λ u. u ≡ a.content) (asked_by_end x)) (sym end)
              (asked_by_alternative parts alone i a at_a e))

          asks : asked_by_kind a.kind a.content ≡ a.content ∷ []
              → (k : ℕ) × (k < n) × IsNumberOf m a.content k
          asks e = below a.content (asked_there e)

          go : By a → Both m reads n t v (a_variant i r) (a_variant i q)
          go g =
              ⊎_elim
              (λ (x : (a.kind ≡ types.null_alone) × (r ≡ a_value)).
              ⊎_elim
              (λ (y : (a.kind ≡ types.null_alone) × (q ≡ a_value)).
              are_same (a_variant i r) (a_variant i q)
              (ap (λ z. a_variant i z) (x.1 ∙ sym y.1)))
              (λ (y : (asked_by_kind a.kind a.content ≡ a.content ∷ [])
              × reads.itself a.content v q).
              absurd (null_asks_none a.kind a.content x.0 y.0)) g)
              (λ (x : (asked_by_kind a.kind a.content ≡ a.content ∷ [])
              × reads.itself a.content v r).
              ⊎_elim
              (λ (y : (a.kind ≡ types.null_alone) × (q ≡ a_value)).
              absurd (null_asks_none a.kind a.content y.0 x.0))
              (λ (y : (asked_by_kind a.kind a.content ≡ a.content ∷ [])
              × reads.itself a.content v q).
              let number = asks x.0 in
              of_one a.content (asked_there x.0) number.0 number.1 number.2 i r q x.1 y.1) g) h

      -- two readings by variants that join
      joined_objects : (v : Tree) (c e : Choice)
          → ReadsJoined m.rules reads.within parts v (an_object c)
          → ReadsJoined m.rules reads.within parts v (an_object e)
          → Both m reads n t v (an_object c) (an_object e)
      joined_objects (object ms) c e h k =
          one_object (object ms) parts list_is o numbered (members ms) c e h k
      joined_objects v c e h k = absurd h

      by_both : (v : Tree) (r q : Reading) → ByVariants m.rules reads parts alone v r
          → ByVariants m.rules reads parts alone v q → Both m reads n t v r q
      by_both v _ _ (by_joined c h) (by_joined e k) = joined_objects v c e h k
      by_both v _ _ (by_joined c h) (by_one j b at_b q k) =
          of_joined id is j has_joined (has_alone j b at_b) c q
      by_both v _ _ (by_one i a at_a r h) (by_joined e k) =
          of_alone id is i (has_alone i a at_a) has_joined r e
      by_both v _ _ (by_one i a at_a r h) (by_one j b at_b q k) =
          one_or_two v i j r q (has_alone i a at_a) (has_alone j b at_b)
          (λ e. alone_same v i a b at_a
          (subst (λ z. slice_get alone z ≡ Some b) (sym e) at_b) r q h k)

      -- of an untagged enum
      untagged : (v : Tree) (r q : Reading)
          → ReadsEnd m.rules reads (an_untagged_variant parts alone) v r
          → ReadsEnd m.rules reads (an_untagged_variant parts alone) v q → Both m reads n t v r q
      untagged v r q h k =
          by_both v r q (by_variants_of m.rules reads parts alone v r h)
          (by_variants_of m.rules reads parts alone v q k)

    -- what its end says of a shape
    inside_end : (e : End) → m.rules.end_of id ≡ e → (u : Target)
        → Any (λ a. a ≡ u) (within_end e) → IsWithin m.rules t u
    inside_end e end u h =
        subst (λ x. IsWithin m.rules x u) (sym is)
        (subst (λ x. Any (λ a. a ≡ u) (within_end x)) (sym end) h)

    list_at : (e : End) → m.rules.end_of id ≡ e → list_of m.rules t ≡ list_of_end e
    list_at e end =
        subst (λ x. list_of m.rules x ≡ list_of_end e) (sym is) (ap list_of_end end)

    -- of a shape by its end
    ends : (e : End) → m.rules.end_of id ≡ e → (p : PlannedEnd) → IsPlannedEnd m e p
        → AsksBelow m n t → (v : Tree) (r q : Reading) → ReadsEnd m.rules reads e v r
        → ReadsEnd m.rules reads e v q → Both m reads n t v r q
    ends (an_option s) end p h below v r q x y =
        let asks : Asks m.rules t (of_shape s) =
        subst (λ u. Asks m.rules u (of_shape s)) (sym is)
        (subst (λ e. Any (λ u. u ≡ of_shape s) (asked_by_end e)) (sym end) (asked_by_option s)) in
        let number = below (of_shape s) asks in
        options s asks number.0 number.1 number.2 v r q x y
    ends (a_list s) end p h below v r q x y =
        lists s (list_number m s p h)
        (inside_end (a_list s) end (of_shape s)
        (any_first (λ a. a ≡ of_shape s) (of_shape s) [] refl)) v r q x y
    ends (a_tuple ss) end p h below v r q x y =
        let numbers = tuple_numbers m ss p h in
        tuples ss numbers.0 numbers.1
        (λ k s e. inside_end (a_tuple ss) end (of_shape s) (seen_in of_shape ss k s e)) v r q x y
    ends (a_map key value) end p h below v r q x y =
        maps key value (map_number m key value p h)
        (inside_end (a_map key value) end (of_shape value)
        (any_first (λ a. a ≡ of_shape value) (of_shape value) [] refl)) v r q x y
    ends (types.an_object parts) end p h below v r q x y =
        let number = object_number m parts p h in
        objects parts (list_at (types.an_object parts) end) number.0 number.1 v r q x y
    ends (a_named_variant vs) end p h below v r q x y =
        named vs end (named_numbers m vs p h)
        (λ k a e. inside_end (a_named_variant vs) end a.content
        (seen_in (λ (b : NamedVariant). b.content) vs k a e)) v r q x y
    ends (an_untagged_variant parts alone) end p h below v r q x y =
        let number = joined_number m parts alone p h in
        untagged parts alone end below number.0 number.1
        (list_at (an_untagged_variant parts alone) end) v r q x y
    ends types.null_alone end p h below v r q x y = scalars types.null_alone v r q x y
    ends a_truth end p h below v r q x y = scalars a_truth v r q x y
    ends (types.a_whole range) end p h below v r q x y = scalars (types.a_whole range) v r q x y
    ends types.a_float end p h below v r q x y = scalars types.a_float v r q x y
    ends a_text end p h below v r q x y = scalars a_text v r q x y
    ends a_character end p h below v r q x y = scalars a_character v r q x y
    ends anything end p h below v r q x y = scalars anything v r q x y

  -- of the content of a variant
  content_tuples : (ss : List ℕ) (p : PlannedEnd) → IsPlannedContent m (as_tuple ss) p
      → ShapesWithin m.rules t ss → (v : Tree) (r q : Reading)
      → ReadsPlainContent m.rules reads.within (as_tuple ss) v r
      → ReadsPlainContent m.rules reads.within (as_tuple ss) v q → Both m reads n t v r q
  content_tuples ss (planned.Tuple ns) numbers inside (list vs) (each_of rs) (each_of qs) h k =
      places ss ns.items (list vs) (items vs) rs qs numbers inside h.1 k.1
  content_tuples ss (planned.Tuple ns) numbers inside (list vs) (each_of rs) q h k = absurd k
  content_tuples ss (planned.Tuple ns) numbers inside v r q h k = absurd h
  content_tuples ss p numbers inside v r q h k = absurd numbers

  content_objects : (id : ListId) (p : PlannedEnd) → IsPlannedContent m (as_object id) p
      → list_of m.rules t ≡ Some id → (v : Tree) (r q : Reading)
      → ReadsPlainContent m.rules reads.within (as_object id) v r
      → ReadsPlainContent m.rules reads.within (as_object id) v q → Both m reads n t v r q
  content_objects id (planned.Object o) numbered list_is (object ms) (an_object c)
      (an_object e) h k =
      one_object (object ms) id list_is o numbered (members ms) c e h k
  content_objects id (planned.Object o) numbered list_is (object ms) (an_object c) q h k = absurd k
  content_objects id (planned.Object o) numbered list_is v r q h k = absurd h
  content_objects id p numbered list_is v r q h k = absurd numbered

  contents : (c : Content) → ((u : Target) → Any (λ a. a ≡ u) (asked_by_content c)
      → Asks m.rules t u)
      → ((u : Target) → Any (λ a. a ≡ u) (within_content c) → IsWithin m.rules t u)
      → list_of m.rules t ≡ list_of_content c → AsksBelow m n t → (p : PlannedEnd)
      → IsPlannedContent m c p → (v : Tree) (r q : Reading) → ReadsContent m.rules reads c v r
      → ReadsContent m.rules reads c v q → Both m reads n t v r q
  contents no_content asks inside list_is below p h v r q x y = are_same r q (x.1 ∙ sym y.1)
  contents (as_shape s) asks inside list_is below p h v r q x y =
      let asked_there = asks (of_shape s) (asked_by_shape_content s) in
      let number = below (of_shape s) asked_there in
      ask (of_shape s) asked_there number.0 number.1 number.2 r q x y
  contents (as_tuple ss) asks inside list_is below p h v r q x y =
      content_tuples ss p h
      (λ k s e. inside (of_shape s) (seen_in of_shape ss k s e)) v r q x y
  contents (as_object id) asks inside list_is below p h v r q x y =
      content_objects id p h list_is v r q x y

  -- of the text of a tag
  tags : (x : List ℕ) (v : Tree) (r q : Reading) → ReadsTag x v r → ReadsTag x v q
      → Both m reads n t v r q
  tags x (text y) a_value a_value h k = are_same a_value a_value refl
  tags x (text y) a_value q h k = absurd k
  tags x v r q h k = absurd h

-- two readings of a value as a target that has a number
pub both_readings : (m : Meaning) (reads : Inner) (n : ℕ) (t : Target) (p : PlannedEnd)
    → IsPlannedAs m t p → AsksBelow m n t → (v : Tree) (r q : Reading)
    → ReadsTarget m.rules reads t v r → ReadsTarget m.rules reads t v q → Both m reads n t v r q
both_readings m reads n (of_shape id) p h below v r q x y =
    ends m reads n (of_shape id) id refl (m.rules.end_of id) refl p h below v r q x y
both_readings m reads n (of_content id k) p h below v r q x y =
    contents m reads n (of_content id k) (m.rules.content_of id k) (λ u a. a)
    (λ u a. a) refl below p h
    v r q x y
both_readings m reads n (of_tag name) p h below v r q x y =
    tags m reads n (of_tag name) name v r q x y
