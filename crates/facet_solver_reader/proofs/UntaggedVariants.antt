-- The counts of values that are read by variants without a name.
use Rattle.std.proofs.Common.{◌≡◌, ◌≢◌, inl, inr, ⊎_elim, sym, subst, refl, ℕ, ◌+◌, ◌≤◌, List}
use Rattle.std.proofs.Common.{false, Option, Some, slice_get, length, arith}
use Rattle.std.proofs.lemmas.Option.{slice_get_past}
use Rattle.std.specs.List.{list_any}
use Rattle.facet_solver_reader.specs.declared.count.Count.{Count}
use Rattle.facet_solver_reader.specs.declared.count.Count.TheVariants.{None as NoCount, One}
use Rattle.facet_solver_reader.specs.declared.count.Count.TheVariants.{Several}
use Rattle.facet_solver_reader.specs.Counted.{Counted, plus}
use Rattle.facet_solver_reader.specs.Documents.{Tree, null, object, Members, members}
use Rattle.facet_solver_reader.specs.Kinds.{is_null, is_object}
use Rattle.facet_solver_reader.specs.Parts.{ListId}
use Rattle.facet_solver_reader.specs.Choices.{Reading, a_value, each_of, an_object, a_variant}
use Rattle.facet_solver_reader.specs.Objects.{Reads, ReadsObject}
use Rattle.facet_solver_reader.specs.Rules as types
use Rattle.facet_solver_reader.specs.Rules.{Rules, Alternative, AlternativeKind}
use Rattle.facet_solver_reader.specs.Rules.{an_untagged_variant, a_fallback}
use Rattle.facet_solver_reader.specs.Values.{Inner, is_whole_of, ReadsByKind, ReadsByItself}
use Rattle.facet_solver_reader.specs.Values.{ReadsByOne, ReadsByFallback, ReadsJoined, ReadsAlone}
use Rattle.facet_solver_reader.specs.Values.{ReadsFallback, ReadsDirectly, ReadsLast, ReadsEnd}
use Rattle.facet_solver_reader.proofs.Counting.{counted_same, counted_plus}
use Rattle.facet_solver_reader.proofs.Forms.{count_as_no_value, count_as_object, OfVariantBelow}
use Rattle.facet_solver_reader.proofs.Forms.{count_below_more, count_below_same}
use Rattle.facet_solver_reader.proofs.Forms.{count_below_all}

-- the readings by an alternative are those by its kind
by_kind : (reads : Reads) (others : List Alternative) (a : Alternative) (v : Tree)
    (k : AlternativeKind) (n : Count) → a.kind ≡ k
    → Counted (λ r. ReadsByKind k (list_any (is_whole_of v) others) v r (reads a.content v r)) n
    → Counted (ReadsByItself reads others a v) n
by_kind reads others a v k n e h =
    subst (λ j. Counted
    (λ r. ReadsByKind j (list_any (is_whole_of v) others) v r (reads a.content v r)) n) (sym e) h

-- one that reads null alone reads null
pub count_of_null_alone : (reads : Reads) (others : List Alternative) (a : Alternative)
    → a.kind ≡ types.null_alone → Counted (ReadsByItself reads others a null) One
count_of_null_alone reads others a e =
    by_kind reads others a null types.null_alone One e
    (record { value = a_value; has = refl; only = λ r h. h })

-- and nothing else
pub count_of_not_null_alone : (reads : Reads) (others : List Alternative) (a : Alternative)
    (v : Tree) → a.kind ≡ types.null_alone → is_null v ≡ false
    → Counted (ReadsByItself reads others a v) NoCount
count_of_not_null_alone reads others a v e f =
    by_kind reads others a v types.null_alone NoCount e (none v f)
  where
    none : (w : Tree) → is_null w ≡ false
        → Counted (λ r. ReadsByKind types.null_alone (list_any (is_whole_of v) others) w r
        (reads a.content v r)) NoCount
    none null f = absurd (cc)
    none w f = λ r h. h

-- a reading by an alternative before the i-th by itself
abbrev pub ReadsAloneBelow : Reads → List Alternative → Tree → ℕ → Reading → Type 0
ReadsAloneBelow reads alone v i r =
    OfVariantBelow (λ k q. ReadsByOne reads alone (slice_get alone k) v q) i r

-- one alternative more is the sum
pub count_alone_more : (reads : Reads) (alone : List Alternative) (v : Tree) (i : ℕ)
    (a : Alternative) (m n : Count) → slice_get alone i ≡ Some a
    → Counted (ReadsAloneBelow reads alone v i) m → Counted (ReadsByItself reads alone a v) n
    → Counted (ReadsAloneBelow reads alone v (i + 1)) (plus m n)
count_alone_more reads alone v i a m n there h g =
    count_below_more (λ k q. ReadsByOne reads alone (slice_get alone k) v q) i m n h
    (subst (λ (o : Option Alternative). Counted (ReadsByOne reads alone o v) n) (sym there) g)

-- those before the end are all
pub count_alone_all : (reads : Reads) (alone : List Alternative) (v : Tree) (i : ℕ) (n : Count)
    → length alone ≤ i → Counted (ReadsAloneBelow reads alone v i) n
    → Counted (ReadsAlone reads alone v) n
count_alone_all reads alone v i n all h =
    count_below_all (λ k q. ReadsByOne reads alone (slice_get alone k) v q) i n
    (λ k q past p. subst (λ (o : Option Alternative). ReadsByOne reads alone o v q)
    (slice_get_past alone k (omega arith)) p) h

-- a reading by a fallback before the i-th alternative
abbrev pub ReadsFallbackBelow : Reads → List Alternative → Tree → ℕ → Reading → Type 0
ReadsFallbackBelow reads alone v i r =
    OfVariantBelow (λ k q. ReadsByFallback reads (slice_get alone k) v q) i r

-- one fallback more is the sum
pub count_fallback_more : (reads : Reads) (alone : List Alternative) (v : Tree) (i : ℕ)
    (a : Alternative) (m n : Count) → slice_get alone i ≡ Some a → a.kind ≡ a_fallback
    → Counted (ReadsFallbackBelow reads alone v i) m → Counted (reads a.content v) n
    → Counted (ReadsFallbackBelow reads alone v (i + 1)) (plus m n)
count_fallback_more reads alone v i a m n there last h g =
    count_below_more (λ k q. ReadsByFallback reads (slice_get alone k) v q) i m n h
    (subst (λ (o : Option Alternative). Counted (ReadsByFallback reads o v) n) (sym there)
    (counted_same (reads a.content v) (ReadsByFallback reads (Some a) v) n
    (λ r p. (last, p)) (λ r p. p.1) g))

-- an alternative that is no fallback adds nothing
pub count_fallback_same : (reads : Reads) (alone : List Alternative) (v : Tree) (i : ℕ)
    (a : Alternative) (m : Count) → slice_get alone i ≡ Some a → a.kind ≢ a_fallback
    → Counted (ReadsFallbackBelow reads alone v i) m
    → Counted (ReadsFallbackBelow reads alone v (i + 1)) m
count_fallback_same reads alone v i a m there no_fallback h =
    count_below_same (λ k q. ReadsByFallback reads (slice_get alone k) v q) i m h
    (λ r p. no_fallback
    (subst (λ (o : Option Alternative). ReadsByFallback reads o v r) there p).0)

-- nor does one that does not read the value by itself
pub count_alone_same : (reads : Reads) (alone : List Alternative) (v : Tree) (i : ℕ)
    (a : Alternative) (m : Count) → slice_get alone i ≡ Some a
    → Counted (ReadsByItself reads alone a v) NoCount
    → Counted (ReadsAloneBelow reads alone v i) m
    → Counted (ReadsAloneBelow reads alone v (i + 1)) m
count_alone_same reads alone v i a m there none h =
    count_below_same (λ k q. ReadsByOne reads alone (slice_get alone k) v q) i m h
    (λ r p. none r (subst (λ (o : Option Alternative). ReadsByOne reads alone o v r) there p))

-- those before the end are all
pub count_fallback_all : (reads : Reads) (alone : List Alternative) (v : Tree) (i : ℕ)
    (n : Count) → length alone ≤ i → Counted (ReadsFallbackBelow reads alone v i) n
    → Counted (ReadsFallback reads alone v) n
count_fallback_all reads alone v i n all h =
    count_below_all (λ k q. ReadsByFallback reads (slice_get alone k) v q) i n
    (λ k q past p. subst (λ (o : Option Alternative). ReadsByFallback reads o v q)
    (slice_get_past alone k (omega arith)) p) h

-- an object is read by the variants that join as by their list
pub count_of_joined : (rules : Rules) (reads : Reads) (joined : ListId) (ms : Members) (n : Count)
    → Counted (ReadsObject rules reads joined (members ms)) n
    → Counted (ReadsJoined rules reads joined (object ms)) n
count_of_joined rules reads joined ms n h =
    count_as_object (λ r. ReadsJoined rules reads joined (object ms) r) n
    (λ h. h) (λ rs h. h) (λ k r h. h) h

-- nothing but an object is read by the variants that join
pub count_of_none_joined : (rules : Rules) (reads : Reads) (joined : ListId) (v : Tree)
    → is_object v ≡ false → Counted (ReadsJoined rules reads joined v) NoCount
count_of_none_joined rules reads joined (object ms) e = absurd (cc)
count_of_none_joined rules reads joined v e =
    count_as_no_value (λ r. ReadsJoined rules reads joined v r)
    (λ h. h) (λ rs h. h) (λ c h. h) (λ k r h. h)

-- by the variants that join or by one by itself is the sum
pub count_directly : (rules : Rules) (reads : Inner) (joined : ListId) (alone : List Alternative)
    (v : Tree) (m n : Count) → Counted (ReadsJoined rules reads.within joined v) m
    → Counted (ReadsAlone reads.itself alone v) n
    → Counted (ReadsDirectly rules reads (an_untagged_variant joined alone) v) (plus m n)
count_directly rules reads joined alone v m n h g =
    counted_plus (ReadsJoined rules reads.within joined v) (ReadsAlone reads.itself alone v)
    (ReadsDirectly rules reads (an_untagged_variant joined alone) v) m n
    (record {
      into_first = λ z p. inl p;
      into_second = λ z p. inr p;
      out = λ z w. w;
      apart = λ z p q. apart z v p q;
    }) h g
  where
    apart : (z : Reading) (w : Tree) → ReadsJoined rules reads.within joined w z
        → ReadsAlone reads.itself alone v z → ⊥
    apart a_value w p q = q
    apart (each_of rs) w p q = q
    apart (an_object c) w p q = q
    apart (a_variant k r) (object ms) p q = p
    apart (a_variant k r) w p q = p

-- what is read by no fallback is read in no other way
pub count_of_direct : (rules : Rules) (reads : Inner) (joined : ListId) (alone : List Alternative)
    (v : Tree) (n : Count) → n ≢ NoCount
    → Counted (ReadsDirectly rules reads (an_untagged_variant joined alone) v) n
    → Counted (ReadsEnd rules reads (an_untagged_variant joined alone) v) n
count_of_direct rules reads joined alone v n some h =
    counted_same Direct (ReadsEnd rules reads (an_untagged_variant joined alone) v) n
    (λ r d. inl d)
    (λ r w. ⊎_elim (λ (d : Direct r). d)
    (λ (l : ReadsLast rules reads (an_untagged_variant joined alone) v r).
    absurd (one n some h l.0)) w) h
  where
    Direct : Reading → Type 0
    Direct r = ReadsDirectly rules reads (an_untagged_variant joined alone) v r

    one : (m : Count) → m ≢ NoCount → Counted Direct m → ((q : Reading) → Direct q → ⊥) → ⊥
    one NoCount f g k = f refl
    one One f g k = k g.value g.has
    one Several f g k = k g.first g.has_first

-- what no variant reads but a fallback is read by the fallbacks
pub count_of_last : (rules : Rules) (reads : Inner) (joined : ListId) (alone : List Alternative)
    (v : Tree) (m n : Count) → m ≡ NoCount
    → Counted (ReadsDirectly rules reads (an_untagged_variant joined alone) v) m
    → Counted (ReadsFallback reads.itself alone v) n
    → Counted (ReadsEnd rules reads (an_untagged_variant joined alone) v) n
count_of_last rules reads joined alone v m n e h g =
    let none : (q : Reading) → Direct q → ⊥ = subst (λ k. Counted Direct k) e h in
    counted_same (ReadsFallback reads.itself alone v)
    (ReadsEnd rules reads (an_untagged_variant joined alone) v) n
    (λ r p. inr (none, p))
    (λ r w. ⊎_elim (λ (d : Direct r). absurd (none r d))
    (λ (l : ReadsLast rules reads (an_untagged_variant joined alone) v r). l.1) w) g
  where
    Direct : Reading → Type 0
    Direct r = ReadsDirectly rules reads (an_untagged_variant joined alone) v r
