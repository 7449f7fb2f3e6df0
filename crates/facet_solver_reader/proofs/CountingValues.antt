-- The counts of values that are found one after another, or by a test.
use Rattle.std.proofs.Common.{◌≡◌, ◌≢◌, sym, subst, refl, ⊎_elim, ℕ, ◌+◌, take, zip, Bool}
use Rattle.std.proofs.Common.{true, false, List, [], ◌∷◌, length, Some, slice_get, arith}
use Rattle.std.specs.Borrow.{Bor}
use Rattle.facet_solver_shape.specs.Names.{Name}
use Rattle.facet_solver_reader.specs.declared.count.Count.{Count}
use Rattle.facet_solver_reader.specs.declared.count.Count.TheVariants as counts
use Rattle.facet_solver_reader.specs.declared.document.Document.{Document}
use Rattle.facet_solver_reader.specs.declared.nodes.Nodes.{Nodes}
use Rattle.facet_solver_reader.specs.declared.count.memo.MemoEntry.{MemoEntry}
use Rattle.facet_solver_reader.specs.declared.tables.Tables.{Tables}
use Rattle.facet_solver_reader.specs.Choices.{Reading, a_value}
use Rattle.facet_solver_reader.specs.Counted.{Counted, once, plus, times}
use Rattle.facet_solver_reader.specs.Documents.{Tree, null, truth, number, text, list, object}
use Rattle.facet_solver_reader.specs.Documents.{items, members_view}
use Rattle.facet_solver_reader.specs.Kinds.{is_list, is_null, is_object}
use Rattle.facet_solver_reader.specs.Memo.{IsEntryAdded, IsNoted}
use Rattle.facet_solver_reader.specs.Nodes.{children, members_in}
use Rattle.facet_solver_reader.specs.Objects.{Reads, ReadsObject}
use Rattle.facet_solver_reader.specs.Parts.{ListId, Target, of_shape}
use Rattle.facet_solver_reader.specs.Reading.{AreSound, IsCount, reads_content}
use Rattle.facet_solver_reader.specs.Rules as types
use Rattle.facet_solver_reader.specs.Rules.{Alternative, AlternativeKind, Rules}
use Rattle.facet_solver_reader.specs.Rules.{an_untagged_variant, joins, a_fallback, other, End}
use Rattle.facet_solver_reader.specs.Rules.{NamedVariant, a_list, a_tuple, a_map}
use Rattle.facet_solver_reader.specs.Values.{Inner, ReadsByItself, ReadsByKind, ReadsEach, ReadsEnd}
use Rattle.facet_solver_reader.specs.Values.{ReadsEntries, ReadsItems, ReadsJoined, ReadsPlace}
use Rattle.facet_solver_reader.specs.Values.{ReadsNoContent, ReadsScalar, is_scalar_end}
use Rattle.facet_solver_reader.proofs.ByEnd.{count_of_list, count_of_map, count_of_tuple_end}
use Rattle.facet_solver_reader.proofs.Counting.{counted_same}
use Rattle.facet_solver_reader.proofs.Each.{count_up_to_at, none_beyond}
use Rattle.facet_solver_reader.proofs.Forms.{OfVariantBelow}
use Rattle.facet_solver_reader.proofs.NamedVariants.{AsUnit, count_units_more, count_units_same}
use Rattle.facet_solver_reader.proofs.Tuples.{count_of_other_length, count_of_tuple}
use Rattle.facet_solver_reader.proofs.Tuples.{count_up_to_place_at}
use Rattle.facet_solver_reader.proofs.UntaggedVariants.{count_of_joined, count_of_not_null_alone}
use Rattle.facet_solver_reader.proofs.UntaggedVariants.{count_of_null_alone}

-- one more count that is right
pub sound_added : (t : Tables) (nodes : Nodes) (old new : List MemoEntry) (node : ℕ)
    (target : Target) (count : Count) → AreSound t nodes old → IsEntryAdded node target count old new
    → IsCount t nodes node target count → AreSound t nodes new
sound_added t nodes old new node target count sound added is = record {
  tables = sound.tables;
  numbering = sound.numbering;
  counts = λ n s c noted.
      ⊎_elim (λ (h : IsNoted old n s c). sound.counts n s c h)
      (λ (e : (n ≡ node) × (s ≡ target) × (c ≡ count)).
      subst (λ m. IsCount t nodes m s c) (sym e.0)
      (subst (λ m. IsCount t nodes node m c) (sym e.1)
      (subst (λ m. IsCount t nodes node target m) (sym e.2) is)))
      (added.kept n s c noted);
}

-- nothing times anything is nothing
pub times_none : (m n : Count) → n ≡ counts.None → times m n ≡ counts.None
times_none counts.None n e = refl
times_none counts.One n e = e
times_none counts.Several n e = subst (λ k. times counts.Several k ≡ counts.None) (sym e) refl

-- and nothing more is as many
pub plus_none : (m : Count) → m ≡ plus m counts.None
plus_none counts.None = refl
plus_none counts.One = refl
plus_none counts.Several = refl

-- a variant more whose name a text is, if a test says so
pub count_units_next : (vs : List NamedVariant) (x : Name) (i : ℕ) (a : NamedVariant) (m : Count)
    (b : Bool) → slice_get vs i ≡ Some a → (b ≡ true → (a.is_unit ≡ true) × (a.name ≡ x))
    → (b ≡ false → a.is_unit ≡ true → a.name ≡ x → ⊥)
    → Counted (OfVariantBelow (AsUnit vs x) i) m
    → Counted (OfVariantBelow (AsUnit vs x) (i + 1)) (plus m (once b))
count_units_next vs x i a m true there fits fails h =
    let both : (a.is_unit ≡ true) × (a.name ≡ x) = fits refl in
    count_units_more vs x i a m there both.0 both.1 h
count_units_next vs x i a m false there fits fails h =
    subst (λ k. Counted (OfVariantBelow (AsUnit vs x) (i + 1)) k) (plus_none m)
    (count_units_same vs x i a m there (fails refl) h)

-- where one is not read, not all are
pub none_at : {A : Type 0} (P : A → Reading → Type 0) (xs : List A) (i : ℕ) (x : A) (m n : Count)
    → slice_get xs i ≡ Some x → n ≡ counts.None → Counted (ReadsEach P (take i xs)) m
    → Counted (P x) n → Counted (ReadsEach P xs) counts.None
none_at {A} P xs i x m n there none h g =
    none_beyond P xs (i + 1)
    (subst (λ k. Counted (ReadsEach P (take (i + 1) xs)) k) (times_none m n none)
    (count_up_to_at P xs i x m n there h g))

-- where the value at one place is not read, a tuple is not
pub none_at_place : (reads : Reads) (ss : List ℕ) (vs : List Tree) (i s : ℕ) (v : Tree)
    (m n : Count) → slice_get ss i ≡ Some s → slice_get vs i ≡ Some v → n ≡ counts.None
    → Counted (ReadsEach (ReadsPlace reads) (take i (zip ss vs))) m
    → Counted (reads (of_shape s) v) n
    → Counted (ReadsEach (ReadsPlace reads) (zip ss vs)) counts.None
none_at_place reads ss vs i s v m n at_s at_v none h g =
    none_beyond (ReadsPlace reads) (zip ss vs) (i + 1)
    (subst (λ k. Counted (ReadsEach (ReadsPlace reads) (take (i + 1) (zip ss vs))) k)
    (times_none m n none) (count_up_to_place_at reads ss vs i s v m n at_s at_v h g))

-- a list is read as its items are up to its end
pub list_end : (rules : Rules) (reads : Inner) (s : ℕ) (v : Tree) (n : Count) → is_list v ≡ true
    → Counted (ReadsItems reads.within (of_shape s) (children v)) n
    → Counted (ReadsEnd rules reads (a_list s) v) n
list_end rules reads s (list vs) n is h = count_of_list rules reads s vs n h
list_end rules reads s null n is h = absurd (cc)
list_end rules reads s (truth b) n is h = absurd (cc)
list_end rules reads s (number k) n is h = absurd (cc)
list_end rules reads s (text x) n is h = absurd (cc)
list_end rules reads s (object ms) n is h = absurd (cc)

-- so is a tuple
pub tuple_end : (rules : Rules) (reads : Inner) (ss : List ℕ) (v : Tree) (n : Count)
    → is_list v ≡ true → length ss ≡ length (children v)
    → Counted (ReadsEach (ReadsPlace reads.within) (zip ss (children v))) n
    → Counted (ReadsEnd rules reads (a_tuple ss) v) n
tuple_end rules reads ss (list vs) n is same h =
    count_of_tuple_end rules reads ss vs n (count_of_tuple reads.within ss (items vs) n same h)
tuple_end rules reads ss null n is same h = absurd (cc)
tuple_end rules reads ss (truth b) n is same h = absurd (cc)
tuple_end rules reads ss (number k) n is same h = absurd (cc)
tuple_end rules reads ss (text x) n is same h = absurd (cc)
tuple_end rules reads ss (object ms) n is same h = absurd (cc)

-- a list of another length is not read as a tuple
pub no_tuple : (rules : Rules) (reads : Inner) (ss : List ℕ) (v : Tree) → is_list v ≡ true
    → length ss ≢ length (children v)
    → Counted (ReadsEnd rules reads (a_tuple ss) v) counts.None
no_tuple rules reads ss (list vs) is differ =
    count_of_tuple_end rules reads ss vs counts.None
    (count_of_other_length reads.within ss (items vs) differ)
no_tuple rules reads ss null is differ = absurd (cc)
no_tuple rules reads ss (truth b) is differ = absurd (cc)
no_tuple rules reads ss (number k) is differ = absurd (cc)
no_tuple rules reads ss (text x) is differ = absurd (cc)
no_tuple rules reads ss (object ms) is differ = absurd (cc)

-- an object is read as a map as its entries are
pub map_end : (rules : Rules) (reads : Inner) (key value : ℕ) (v : Tree) (n : Count)
    → is_object v ≡ true
    → Counted (ReadsEntries (rules.is_key key) reads.within (of_shape value) (members_in v)) n
    → Counted (ReadsEnd rules reads (a_map key value) v) n
map_end rules reads key value (object ms) n is h = count_of_map rules reads key value ms n h
map_end rules reads key value null n is h = absurd (cc)
map_end rules reads key value (truth b) n is h = absurd (cc)
map_end rules reads key value (number k) n is h = absurd (cc)
map_end rules reads key value (text x) n is h = absurd (cc)
map_end rules reads key value (list vs) n is h = absurd (cc)

-- an end that reads values as they are reads no others
pub scalar_count : (rules : Rules) (reads : Inner) (e : End) (v : Tree) (n : Count)
    → is_scalar_end e ≡ true → Counted (ReadsScalar e v) n → Counted (ReadsEnd rules reads e v) n
scalar_count rules reads types.null_alone v n is h = h
scalar_count rules reads types.a_truth v n is h = h
scalar_count rules reads (types.a_whole range) v n is h = h
scalar_count rules reads types.a_float v n is h = h
scalar_count rules reads types.a_text v n is h = h
scalar_count rules reads types.a_character v n is h = h
scalar_count rules reads types.anything v n is h = h
scalar_count rules reads (types.an_option s) v n is h = absurd (cc)
scalar_count rules reads (a_list s) v n is h = absurd (cc)
scalar_count rules reads (a_tuple ss) v n is h = absurd (cc)
scalar_count rules reads (a_map k s) v n is h = absurd (cc)
scalar_count rules reads (types.an_object id) v n is h = absurd (cc)
scalar_count rules reads (types.a_named_variant vs) v n is h = absurd (cc)
scalar_count rules reads (an_untagged_variant id vs) v n is h = absurd (cc)

-- the readings of an object by variants that join are those by their list
pub joined_object : (rules : Rules) (reads : Reads) (joined : ListId) (v : Tree) (n : Count)
    → is_object v ≡ true → Counted (ReadsObject rules reads joined (members_in v)) n
    → Counted (ReadsJoined rules reads joined v) n
joined_object rules reads joined (object ms) n is h = count_of_joined rules reads joined ms n h
joined_object rules reads joined null n is h = absurd (cc)
joined_object rules reads joined (truth b) n is h = absurd (cc)
joined_object rules reads joined (number k) n is h = absurd (cc)
joined_object rules reads joined (text x) n is h = absurd (cc)
joined_object rules reads joined (list vs) n is h = absurd (cc)

-- what reads null alone reads a value once, where a test says that it is null
pub null_read : (reads : Reads) (others : List Alternative) (a : Alternative) (v : Tree) (b : Bool)
    → a.kind ≡ types.null_alone → b ≡ is_null v
    → Counted (ReadsByItself reads others a v) (once b)
null_read reads others a v false kind is =
    count_of_not_null_alone reads others a v kind (sym is)
null_read reads others a null true kind is = count_of_null_alone reads others a kind
null_read reads others a (truth x) true kind is = absurd (cc)
null_read reads others a (number x) true kind is = absurd (cc)
null_read reads others a (text x) true kind is = absurd (cc)
null_read reads others a (list x) true kind is = absurd (cc)
null_read reads others a (object x) true kind is = absurd (cc)

-- what reads no content by itself reads null or nothing
pub no_content_read : (reads : Reads) (kind : AlternativeKind) (whole : Bool) (content : Target)
    (v : Tree) → reads_content kind whole ≡ false → kind ≢ types.null_alone
    → Counted (λ r. ReadsByKind kind whole v r (reads content v r)) counts.None
no_content_read reads joins whole content v e f = λ r h. h
no_content_read reads types.null_alone whole content v e f = absurd (f refl)
no_content_read reads (types.a_whole range) whole content v e f = absurd (cc)
no_content_read reads types.a_float true content v e f = λ r h.
    let is_not : true ≡ false = h.0 in absurd (cc)
no_content_read reads types.a_float false content v e f = absurd (cc)
no_content_read reads a_fallback whole content v e f = λ r h. h
no_content_read reads other whole content v e f = absurd (cc)

-- what reads content by itself reads a value as that
pub content_read : (reads : Reads) (kind : AlternativeKind) (whole : Bool) (content : Target)
    (v : Tree) (n : Count) → reads_content kind whole ≡ true → Counted (reads content v) n
    → Counted (λ r. ReadsByKind kind whole v r (reads content v r)) n
content_read reads joins whole content v n e h = absurd (cc)
content_read reads types.null_alone whole content v n e h = absurd (cc)
content_read reads (types.a_whole range) whole content v n e h = h
content_read reads types.a_float true content v n e h = absurd (cc)
content_read reads types.a_float false content v n e h =
    counted_same (reads content v) (λ r. (false ≡ false) × reads content v r) n
    (λ r p. (refl, p)) (λ r p. p.1) h
content_read reads a_fallback whole content v n e h = absurd (cc)
content_read reads other whole content v n e h = h

-- an object is read as no content once, where a test says that it has no members
pub count_of_empty : (ms : List (Bor Name × Document)) (b : Bool) → (b ≡ true → length ms ≡ 0)
    → (b ≡ false → length ms ≢ 0)
    → Counted (ReadsNoContent (object (members_view ms))) (once b)
count_of_empty [] true empty some =
    record { value = a_value; has = (refl, refl); only = λ r p. p.1 }
count_of_empty [] false empty some = absurd (some refl refl)
count_of_empty (m ∷ ms) true empty some =
    let none : length (m ∷ ms) ≡ 0 = empty refl in absurd (omega arith)
count_of_empty (m ∷ ms) false empty some = λ r p. let no : false ≡ true = p.0 in absurd (cc)
