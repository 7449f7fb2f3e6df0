-- What a value is read by, by what a target comes to in a plan.
use Rattle.std.proofs.Common.{◌≡◌, ◌∙◌, sym, ap, subst, refl, ℕ, zero, suc, List, [], ◌∷◌, All, Any}
use Rattle.std.proofs.Common.{IsTrue, true, false, length, Option, Some, None, slice_get, zip, inl}
use Rattle.std.proofs.Common.{inr, ⊎_elim}
use Rattle.std.specs.Prelude.{MatchOption}
use Rattle.facet_solver_shape.specs.Names.{Name}
use Rattle.facet_solver_reader.specs.declared.plan.PlannedEnd.{PlannedEnd}
use Rattle.facet_solver_reader.specs.declared.plan.PlannedEnd.TheVariants as planned
use Rattle.facet_solver_reader.specs.declared.plan.PlannedName.{PlannedName}
use Rattle.facet_solver_checker.specs.Atoms.{NamesContent, NamesUnit, NamesVariant, ReadsAs}
use Rattle.facet_solver_checker.specs.Atoms.{ReadsByList, ReadsNumber, ReadsValueOf}
use Rattle.facet_solver_reader.specs.Choices.{Choice, Reading, a_value, each_of, an_object}
use Rattle.facet_solver_reader.specs.Choices.{a_variant, Readings, no_readings, reading}
use Rattle.facet_solver_reader.specs.Documents.{Tree, null, truth, number, text, list, object}
use Rattle.facet_solver_reader.specs.Documents.{Member, Members, member, no_members, items, members}
use Rattle.facet_solver_reader.specs.Known.{Chooses, HasChoice}
use Rattle.facet_solver_checker.specs.ListsMeet.{MayRead}
use Rattle.facet_solver_reader.specs.Objects.{IsReading, Object, Reads, ReadsAll, ReadsIgnoring}
use Rattle.facet_solver_reader.specs.Objects.{ReadsObject}
use Rattle.facet_solver_reader.specs.Parts.{ListId, Target, of_shape, of_content, of_tag}
use Rattle.facet_solver_reader.specs.Plans.{AreInPairs, AreNumbersOfShapes, IsNumberIfChosen}
use Rattle.facet_solver_reader.specs.Plans.{IsNumberOf, IsPlannedContent, IsPlannedEnd}
use Rattle.facet_solver_reader.specs.Plans.{IsPlannedName, IsPlannedTag, Meaning}
use Rattle.facet_solver_reader.specs.Rules as types
use Rattle.facet_solver_reader.specs.Rules.{Rules, End, Content, NamedVariant, no_content, as_shape}
use Rattle.facet_solver_reader.specs.Rules.{as_tuple, as_object, an_option, a_truth, a_text}
use Rattle.facet_solver_reader.specs.Rules.{a_character, a_list, a_tuple, a_map, a_named_variant}
use Rattle.facet_solver_reader.specs.Rules.{an_untagged_variant, anything}
use Rattle.facet_solver_reader.specs.Values as values
use Rattle.facet_solver_reader.specs.Values.{is_in, ReadsEach, ReadsEntry, ReadsNamed}
use Rattle.facet_solver_reader.specs.Values.{ReadsNamedVariant, ReadsPlace, ReadsPlainContent}
use Rattle.facet_solver_reader.specs.Values.{ReadsPlainEnd, ReadsTag, ReadsTuple}
use Rattle.facet_solver_reader.proofs.Pairs.{pair_of}
use Rattle.facet_solver_reader.proofs.Quantifiers.{all_of_more, all_of_none, any_at}

-- what the test refuses is not read
unread : {X : Type 0} → IsTrue false × X → ⊥
unread h = let no : false ≡ true = h.0 in absurd (cc)

-- what each of several things has that is read
pub all_read : {A : Type 0} (P : A → Reading → Type 0) (Q : A → Type 0)
    → ((x : A) (r : Reading) → P x r → Q x) → (xs : List A) (rs : Readings)
    → ReadsEach P xs rs → All Q xs
all_read P Q f [] rs h = all_of_none Q
all_read P Q f (x ∷ xs) no_readings h = absurd h
all_read P Q f (x ∷ xs) (reading r rs) h =
    (all_of_more Q x xs).1 (f x r h.0, all_read P Q f xs rs h.1)

-- a reading of an object asks some choice
pub choice_of_object : (rules : Rules) (reads : Reads) (id : ListId) (ms : List Member) (c : Choice)
    → ReadsObject rules reads id ms c → HasChoice (Chooses rules.lists id)
choice_of_object rules reads id ms c h =
    ⊎_elim
    (λ (a : ReadsAll rules reads ms id c).
    record { choice = c; items = a.reading.items; chooses = a.reading.chooses })
    (λ (i : ReadsIgnoring rules reads ms id c).
    record { choice = c; items = i.reading.items; chooses = i.reading.chooses }) h

-- an object that is read may be read
pub may_read : (rules : Rules) (reads : Reads) (id : ListId) (ms : List Member) (c : Choice)
    → ReadsObject rules reads id ms c → MayRead rules reads id ms c
may_read rules reads id ms c h =
    ⊎_elim (λ (a : ReadsAll rules reads ms id c). inl a)
    (λ (i : ReadsIgnoring rules reads ms id c). inr (i.lenient, i.reading)) h

module _ (m : Meaning) (reads : Reads) where
  -- what is read as a target is read as its number
  pub by_number : (t : Target) (n : ℕ) → IsNumberOf m t n → (v : Tree) (r : Reading)
      → reads t v r → ReadsNumber m reads n v
  by_number t n is v r h = record { target = t; reading = r; number_is = is; is_read = h }

  -- the values of a tuple
  tuple_read : (ss ns : List ℕ) (vs : List Tree) (rs : Readings) → AreNumbersOfShapes m ss ns
      → length ss ≡ length vs → ReadsEach (ReadsPlace reads) (zip ss vs) rs
      → AreInPairs (ReadsNumber m reads) ns vs
  tuple_read [] [] [] rs are same h = tt
  tuple_read [] [] (v ∷ vs) rs are same h = absurd (cc)
  tuple_read [] (n ∷ ns) vs rs are same h = absurd are
  tuple_read (s ∷ ss) [] vs rs are same h = absurd are
  tuple_read (s ∷ ss) (n ∷ ns) [] rs are same h = absurd (cc)
  tuple_read (s ∷ ss) (n ∷ ns) (v ∷ vs) no_readings are same h = absurd h
  tuple_read (s ∷ ss) (n ∷ ns) (v ∷ vs) (reading r rs) are same h = (
    by_number (of_shape s) n are.0 v r h.0,
    tuple_read ss ns vs rs are.1 (cc) h.1,
  )

  -- an object is read by the number of its list
  pub by_list : (id : ListId) (n : Option ℕ) → IsNumberIfChosen m id n → (ms : Members) (c : Choice)
      → ReadsObject m.rules reads id (members ms) c → ReadsAs m reads (planned.Object n) (object ms)
  by_list id None is ms c h = absurd (is (choice_of_object m.rules reads id (members ms) c h))
  by_list id (Some n) is ms c h =
      record {
        list = id;
        choice = c;
        number_is = is;
        is_read = may_read m.rules reads id (members ms) c h;
      }

  -- a value that names a variant
  named_read : (vs : List NamedVariant) (ps : List PlannedName)
      → AreInPairs (IsPlannedName m) vs ps → (k : ℕ) (o : Option NamedVariant)
      → slice_get vs k ≡ o → (x : Name) (v : Tree) (r : Reading)
      → ReadsNamed reads o (record { name = x; value = v }) r
      → Any (NamesContent m reads x v) ps
  named_read vs ps are k None at x v r h = absurd h
  named_read vs ps are k (Some a) at x v r h =
      let p = pair_of (IsPlannedName m) vs ps k a are at in
      any_at (NamesContent m reads x v) ps k p.0 p.1
      (p.2.text ∙ h.0, by_number a.content p.0.content p.2.content v r h.1)

  -- a text that names a unit
  unit_read : (vs : List NamedVariant) (ps : List PlannedName)
      → AreInPairs (IsPlannedName m) vs ps → (k : ℕ) (o : Option NamedVariant)
      → slice_get vs k ≡ o → (x : Name) → values.NamesUnit o x → Any (NamesUnit x) ps
  unit_read vs ps are k None at x h = absurd h
  unit_read vs ps are k (Some a) at x h =
      let p = pair_of (IsPlannedName m) vs ps k a are at in
      any_at (NamesUnit x) ps k p.0 p.1 (p.2.is_unit ∙ h.0, p.2.text ∙ h.1)

  -- a value is read by what a shape comes to, if that asks nothing else of the value itself
  pub end_read : (e : End) (p : PlannedEnd) (v : Tree) (r : Reading) → IsPlannedEnd m e p
      → ReadsPlainEnd m.rules reads e v r → ReadsAs m reads p v
  end_read (an_option s) p v r is h = absurd (unread h)
  end_read (an_untagged_variant joined alone) p v r is h = absurd (unread h)
  end_read types.null_alone planned.Null null r is h = tt
  end_read types.null_alone planned.Null v r is h = absurd (unread h)
  end_read a_truth planned.Truth (truth b) r is h = tt
  end_read a_truth planned.Truth v r is h = absurd (unread h)
  end_read (types.a_whole range) (planned.Whole w) (number n) r is h =
      subst (λ x. IsTrue (is_in x n)) (sym is) h.0
  end_read (types.a_whole range) (planned.Whole w) v r is h = absurd (unread h)
  end_read types.a_float planned.Float (number n) r is h = tt
  end_read types.a_float planned.Float v r is h = absurd (unread h)
  end_read a_text planned.Text (text x) r is h = tt
  end_read a_text planned.Text v r is h = absurd (unread h)
  end_read a_character planned.Character (text x) r is h = h.0
  end_read a_character planned.Character v r is h = absurd (unread h)
  end_read (a_list s) (planned.List n) (list vs) (each_of rs) is h =
      all_read (reads (of_shape s)) (ReadsNumber m reads n) (by_number (of_shape s) n is)
      (items vs) rs h
  end_read (a_list s) (planned.List n) v r is h = absurd (unread h)
  end_read (a_tuple ss) (planned.Tuple ns) (list vs) (each_of rs) is h =
      tuple_read ss ns.items (items vs) rs is h.0 h.1
  end_read (a_tuple ss) (planned.Tuple ns) v r is h = absurd (unread h)
  end_read (a_map key value) (planned.Map k n) (object ms) (each_of rs) is h =
      all_read (ReadsEntry (m.rules.is_key key) reads (of_shape value)) (ReadsValueOf m reads k n)
      (λ x q g. (
        subst (λ i. IsTrue (m.rules.is_key i x.name)) (sym is.0) g.0,
        by_number (of_shape value) n is.1 x.value q g.1,
      )) (members ms) rs h
  end_read (a_map key value) (planned.Map k n) v r is h = absurd (unread h)
  end_read (types.an_object id) (planned.Object n) (object ms) (an_object c) is h =
      by_list id n is ms c h
  end_read (types.an_object id) (planned.Object n) v r is h = absurd (unread h)
  end_read (a_named_variant vs) (planned.Named ps) v r is h = variant_read vs ps.items is v r h
    where
      variant_read : (vs : List NamedVariant) (ps : List PlannedName)
          → AreInPairs (IsPlannedName m) vs ps → (v : Tree) (r : Reading)
          → ReadsNamedVariant reads vs v r → NamesVariant m reads ps v
      variant_read vs ps are (text x) (a_variant k a_value) h =
          unit_read vs ps are k (slice_get vs k) refl x h
      variant_read vs ps are (object (member x v no_members)) (a_variant k r) h =
          named_read vs ps are k (slice_get vs k) refl x v r h
      variant_read vs ps are v r h = absurd h
  end_read anything planned.Anything v r is h = tt
  end_read e p v r is h = absurd is

  -- a value is read as content that asks nothing else of the value itself
  pub content_read : (c : Content) (p : PlannedEnd) (v : Tree) (r : Reading)
      → IsPlannedContent m c p → ReadsPlainContent m.rules reads c v r → ReadsAs m reads p v
  content_read no_content planned.Nothing null r is h = tt
  content_read no_content planned.Nothing (object no_members) r is h = tt
  content_read no_content planned.Nothing v r is h = absurd (unread h)
  content_read (as_shape s) p v r is h = absurd h
  content_read (as_tuple ss) (planned.Tuple ns) (list vs) (each_of rs) is h =
      tuple_read ss ns.items (items vs) rs is h.0 h.1
  content_read (as_tuple ss) (planned.Tuple ns) v r is h = absurd h
  content_read (as_object id) (planned.Object n) (object ms) (an_object c) is h =
      by_list id n is ms c h
  content_read (as_object id) (planned.Object n) v r is h = absurd h
  content_read c p v r is h = absurd is

  -- a value is the text of a tag
  pub tag_read : (x : Name) (p : PlannedEnd) (v : Tree) (r : Reading) → IsPlannedTag x p
      → ReadsTag x v r → ReadsAs m reads p v
  tag_read x (planned.Tag name) (text y) a_value is h = h ∙ sym is
  tag_read x (planned.Tag name) v r is h = absurd h
  tag_read x p v r is h = absurd is
