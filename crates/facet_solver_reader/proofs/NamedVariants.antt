-- The counts of values that name a variant.
use Rattle.std.proofs.Common.{◌+◌, ◌≤◌, arith, ◌≡◌, ◌≢◌, sym, ap, subst, refl, ℕ, List, []}
use Rattle.std.proofs.Common.{◌∷◌, true, Option, Some, slice_get, length}
use Rattle.facet_solver_shape.specs.Names.{Name}
use Rattle.facet_solver_reader.specs.declared.count.Count.{Count}
use Rattle.facet_solver_reader.specs.declared.count.Count.TheVariants.{None as NoCount, One}
use Rattle.facet_solver_reader.specs.Counted.{Counted, plus}
use Rattle.facet_solver_reader.specs.Documents.{text, object, Members, no_members, member}
use Rattle.facet_solver_reader.specs.Documents.{Member, members}
use Rattle.facet_solver_reader.specs.Choices.{Reading, a_value, each_of, an_object, a_variant}
use Rattle.facet_solver_reader.specs.Objects.{Reads}
use Rattle.facet_solver_reader.specs.Rules.{NamedVariant}
use Rattle.facet_solver_reader.specs.Values.{OfVariant, NamesUnit, ReadsNamed, ReadsNamedVariant}
use Rattle.facet_solver_reader.proofs.Counting.{counted_same}
use Rattle.facet_solver_reader.proofs.Forms.{count_as_no_value}
use Rattle.facet_solver_reader.proofs.Forms.{OfVariantBelow, count_below_more}
use Rattle.facet_solver_reader.proofs.Forms.{count_below_same, count_below_all}
use Rattle.std.proofs.lemmas.Option.{slice_get_past}

-- a text is read as a variant as it is if it names a unit
abbrev pub AsUnit : List NamedVariant → Name → ℕ → Reading → Type 0
AsUnit vs x k r = NamesUnit (slice_get vs k) x × (r ≡ a_value)

-- the readings of a text
text_readings : (reads : Reads) (vs : List NamedVariant) (x : Name) (n : Count)
    → Counted (OfVariant (AsUnit vs x)) n → Counted (ReadsNamedVariant reads vs (text x)) n
text_readings reads vs x n h =
    counted_same (OfVariant (AsUnit vs x)) (ReadsNamedVariant reads vs (text x)) n into out h
  where
    into : (z : Reading) → OfVariant (AsUnit vs x) z → ReadsNamedVariant reads vs (text x) z
    into a_value w = w
    into (each_of rs) w = w
    into (an_object c) w = w
    into (a_variant k a_value) w = w.0
    into (a_variant k (each_of rs)) w = absurd (let e = w.1 in cc)
    into (a_variant k (an_object c)) w = absurd (let e = w.1 in cc)
    into (a_variant k (a_variant j r)) w = absurd (let e = w.1 in cc)

    out : (z : Reading) → ReadsNamedVariant reads vs (text x) z → OfVariant (AsUnit vs x) z
    out a_value w = w
    out (each_of rs) w = w
    out (an_object c) w = w
    out (a_variant k a_value) w = (w, refl)
    out (a_variant k (each_of rs)) w = absurd w
    out (a_variant k (an_object c)) w = absurd w
    out (a_variant k (a_variant j r)) w = absurd w

-- an object of one member is read as the members by the variant at an index
abbrev pub AsNamed : Reads → List NamedVariant → Member → ℕ → Reading → Type 0
AsNamed reads vs m k r = ReadsNamed reads (slice_get vs k) m r

-- the readings of an object of one member
member_readings : (reads : Reads) (vs : List NamedVariant) (m : Member) (n : Count)
    → Counted (OfVariant (AsNamed reads vs m)) n
    → Counted (ReadsNamedVariant reads vs (object (member m.name m.value no_members))) n
member_readings reads vs m n h =
    counted_same (OfVariant (AsNamed reads vs m)) Read n into out h
  where
    Read : Reading → Type 0
    Read r = ReadsNamedVariant reads vs (object (member m.name m.value no_members)) r

    into : (z : Reading) → OfVariant (AsNamed reads vs m) z → Read z
    into a_value w = w
    into (each_of rs) w = w
    into (an_object c) w = w
    into (a_variant k r) w = w

    out : (z : Reading) → Read z → OfVariant (AsNamed reads vs m) z
    out a_value w = w
    out (each_of rs) w = w
    out (an_object c) w = w
    out (a_variant k r) w = w

-- an object of one member is the object of that member
one_member : (ms : Members) (m : Member) → members ms ≡ m ∷ []
    → member m.name m.value no_members ≡ ms
one_member no_members m e = absurd (cc)
one_member (member n v no_members) m e =
    let is : record { name = n; value = v } ≡ m = cc in
    ap (λ (x : Member). member x.name x.value no_members) (sym is)
one_member (member n v (member n2 v2 ms)) m e = absurd (cc)

-- an object of no member, or of several, is not read
pub count_of_other_members : (reads : Reads) (vs : List NamedVariant) (ms : Members)
    → length (members ms) ≢ 1 → Counted (ReadsNamedVariant reads vs (object ms)) NoCount
count_of_other_members reads vs no_members e =
    count_as_no_value (λ r. ReadsNamedVariant reads vs (object no_members) r)
    (λ h. h) (λ rs h. h) (λ c h. h) (λ k r h. h)
count_of_other_members reads vs (member n v no_members) e = absurd (e refl)
count_of_other_members reads vs (member n v (member n2 v2 ms)) e =
    count_as_no_value (λ r. ReadsNamedVariant reads vs (object (member n v (member n2 v2 ms))) r)
    (λ h. h) (λ rs h. h) (λ c h. h) (λ k r h. h)

-- one unit of the name more
pub count_units_more : (vs : List NamedVariant) (x : Name) (i : ℕ) (a : NamedVariant) (m : Count)
    → slice_get vs i ≡ Some a → a.is_unit ≡ true → a.name ≡ x
    → Counted (OfVariantBelow (AsUnit vs x) i) m
    → Counted (OfVariantBelow (AsUnit vs x) (i + 1)) (plus m One)
count_units_more vs x i a m at_i unit named h =
    count_below_more (AsUnit vs x) i m One h
    (record { value = a_value; has = (here, refl); only = λ r p. p.1 })
  where
    here : NamesUnit (slice_get vs i) x
    here = subst (λ o. NamesUnit o x) (sym at_i) (unit, named)

-- another variant adds nothing
pub count_units_same : (vs : List NamedVariant) (x : Name) (i : ℕ) (a : NamedVariant) (m : Count)
    → slice_get vs i ≡ Some a → (a.is_unit ≡ true → a.name ≡ x → ⊥)
    → Counted (OfVariantBelow (AsUnit vs x) i) m
    → Counted (OfVariantBelow (AsUnit vs x) (i + 1)) m
count_units_same vs x i a m at_i other h =
    count_below_same (AsUnit vs x) i m h
    (λ r p. let there = subst (λ o. NamesUnit o x) at_i p.0 in other there.0 there.1)

-- the units of the name before the end are all
pub count_units_all : (reads : Reads) (vs : List NamedVariant) (x : Name) (i : ℕ) (n : Count)
    → length vs ≤ i → Counted (OfVariantBelow (AsUnit vs x) i) n
    → Counted (ReadsNamedVariant reads vs (text x)) n
count_units_all reads vs x i n all h =
    text_readings reads vs x n
    (count_below_all (AsUnit vs x) i n
    (λ k r past p. subst (λ o. NamesUnit o x) (slice_get_past vs k (omega arith)) p.0) h)

-- one variant of the member's name more
pub count_named_more : (reads : Reads) (vs : List NamedVariant) (x : Member) (i : ℕ)
    (a : NamedVariant) (m n : Count) → slice_get vs i ≡ Some a → a.name ≡ x.name
    → Counted (OfVariantBelow (AsNamed reads vs x) i) m → Counted (reads a.content x.value) n
    → Counted (OfVariantBelow (AsNamed reads vs x) (i + 1)) (plus m n)
count_named_more reads vs x i a m n at_i named h g =
    count_below_more (AsNamed reads vs x) i m n h
    (subst (λ (o : Option NamedVariant). Counted (ReadsNamed reads o x) n) (sym at_i)
    (counted_same (reads a.content x.value) (ReadsNamed reads (Some a) x) n
    (λ r p. (named, p)) (λ r p. p.1) g))

-- another variant adds nothing
pub count_named_same : (reads : Reads) (vs : List NamedVariant) (x : Member) (i : ℕ)
    (a : NamedVariant) (m : Count) → slice_get vs i ≡ Some a → a.name ≢ x.name
    → Counted (OfVariantBelow (AsNamed reads vs x) i) m
    → Counted (OfVariantBelow (AsNamed reads vs x) (i + 1)) m
count_named_same reads vs x i a m at_i other h =
    count_below_same (AsNamed reads vs x) i m h
    (λ r p. other (subst (λ (o : Option NamedVariant). ReadsNamed reads o x r) at_i p).0)

-- the variants of the member's name before the end are all
pub count_named_all : (reads : Reads) (vs : List NamedVariant) (ms : Members) (x : Member) (i : ℕ)
    (n : Count) → members ms ≡ x ∷ [] → length vs ≤ i
    → Counted (OfVariantBelow (AsNamed reads vs x) i) n
    → Counted (ReadsNamedVariant reads vs (object ms)) n
count_named_all reads vs ms x i n single all h =
    subst (λ (os : Members). Counted (ReadsNamedVariant reads vs (object os)) n)
    (one_member ms x single)
    (member_readings reads vs x n
    (count_below_all (AsNamed reads vs x) i n
    (λ k r past p. subst (λ (o : Option NamedVariant). ReadsNamed reads o x r)
    (slice_get_past vs k (omega arith)) p) h))
