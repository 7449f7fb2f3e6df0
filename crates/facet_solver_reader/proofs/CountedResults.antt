-- Counts that are found where memory suffices.
use Rattle.std.proofs.Common.{◌≡◌, ◌↔◌, ◌∙◌, sym, ℕ, IfOk, Ok, Err, IsTrue, Result, true}
use Rattle.std.proofs.Common.{false, List}
use Rattle.std.specs.List.{list_any}
use Rattle.facet_solver_reader.specs.declared.count.Count.{Count}
use Rattle.facet_solver_reader.specs.declared.count.Count.TheVariants as counts
use Rattle.facet_solver_reader.specs.declared.end.End as code_end
use Rattle.facet_solver_reader.specs.declared.nodes.Nodes.{Nodes}
use Rattle.facet_solver_reader.specs.declared.tables.Tables.{Tables}
use Rattle.facet_solver_reader.specs.Choices.{Reading, a_value, each_of, an_object, a_variant}
use Rattle.facet_solver_reader.specs.Counted.{Counted}
use Rattle.facet_solver_reader.specs.Documents.{Tree, null, truth, number, text, list, object}
use Rattle.facet_solver_reader.specs.Kinds.{is_null, is_object}
use Rattle.facet_solver_reader.specs.Nodes.{members_in, value_of}
use Rattle.facet_solver_reader.specs.Objects.{Reads, ReadsObject}
use Rattle.facet_solver_reader.specs.Parts.{ListId, of_shape, of_content}
use Rattle.facet_solver_reader.specs.Reached.{IsRanked}
use Rattle.facet_solver_reader.specs.Reading.{IsCount, reads_content}
use Rattle.facet_solver_reader.specs.Readings.{inner}
use Rattle.facet_solver_reader.specs.Rules as types
use Rattle.facet_solver_reader.specs.Rules.{Alternative, Rules, an_untagged_variant, Content, End}
use Rattle.facet_solver_reader.specs.Rules.{a_tuple, as_object, as_tuple}
use Rattle.facet_solver_reader.specs.Tables.{IsEnd, rules_at}
use Rattle.facet_solver_reader.specs.Values.{Inner, ReadsByItself, ReadsContent, ReadsDirectly}
use Rattle.facet_solver_reader.specs.Values.{ReadsEnd, ReadsFallback, is_whole_of}
use Rattle.facet_solver_reader.specs.Views.{end_view}
use Rattle.facet_solver_reader.proofs.ByEnd.{count_of_object_end, count_of_present}
use Rattle.facet_solver_reader.proofs.Contents.{count_of_object_content}
use Rattle.facet_solver_reader.proofs.Counting.{counted_same}
use Rattle.facet_solver_reader.proofs.CountingValues.{content_read}
use Rattle.facet_solver_reader.proofs.Readings.{count_of_content, count_of_shape}
use Rattle.facet_solver_reader.proofs.UntaggedVariants.{count_of_last}

-- a count by what a shape comes to is a count by the shape
pub if_end : {E : Type 0} (t : Tables) (nodes : Nodes) (node s : ℕ) (end : code_end.End) (e : End)
    (steps : ℕ)
    (r : Result Count E) → IsRanked steps (rules_at t) (of_shape s) → IsEnd t s end
    → end_view end ≡ e
    → IfOk r (Counted (ReadsEnd (rules_at t) (inner (rules_at t)) e (value_of nodes node)))
    → IfOk r (IsCount t nodes node (of_shape s))
if_end t nodes node s end e steps (Err x) ranked is same h = tt
if_end t nodes node s end e steps (Ok n) ranked is same h =
    count_of_shape (rules_at t) steps s e (value_of nodes node) n ranked (sym is.same ∙ same) h

-- a count by content is a count by the content of the variant
pub if_content : {E : Type 0} (t : Tables) (nodes : Nodes) (node s k : ℕ) (x : Content) (steps : ℕ)
    (r : Result Count E) → IsRanked steps (rules_at t) (of_content s k)
    → (rules_at t).content_of s k ≡ x
    → IfOk r (Counted (ReadsContent (rules_at t) (inner (rules_at t)) x (value_of nodes node)))
    → IfOk r (IsCount t nodes node (of_content s k))
if_content t nodes node s k x steps (Err e) ranked is h = tt
if_content t nodes node s k x steps (Ok n) ranked is h =
    count_of_content (rules_at t) steps s k x (value_of nodes node) n ranked is h

-- an object is read by a list of parts as its members are
pub if_object_end : {E : Type 0} (rules : Rules) (reads : Inner) (id : ListId) (v : Tree)
    (r : Result Count E) → is_object v ≡ true
    → IfOk r (Counted (ReadsObject rules reads.within id (members_in v)))
    → IfOk r (Counted (ReadsEnd rules reads (types.an_object id) v))
if_object_end rules reads id (object ms) (Ok n) is h = count_of_object_end rules reads id ms n h
if_object_end rules reads id (object ms) (Err x) is h = tt
if_object_end rules reads id null r is h = absurd (cc)
if_object_end rules reads id (truth b) r is h = absurd (cc)
if_object_end rules reads id (number n) r is h = absurd (cc)
if_object_end rules reads id (text x) r is h = absurd (cc)
if_object_end rules reads id (list vs) r is h = absurd (cc)

-- the same as content
pub if_object_content : {E : Type 0} (rules : Rules) (reads : Inner) (id : ListId) (v : Tree)
    (r : Result Count E) → is_object v ≡ true
    → IfOk r (Counted (ReadsObject rules reads.within id (members_in v)))
    → IfOk r (Counted (ReadsContent rules reads (as_object id) v))
if_object_content rules reads id (object ms) (Ok n) is h =
    count_of_object_content rules reads id ms n h
if_object_content rules reads id (object ms) (Err x) is h = tt
if_object_content rules reads id null r is h = absurd (cc)
if_object_content rules reads id (truth b) r is h = absurd (cc)
if_object_content rules reads id (number n) r is h = absurd (cc)
if_object_content rules reads id (text x) r is h = absurd (cc)
if_object_content rules reads id (list vs) r is h = absurd (cc)

-- so it is read once by both
pub object_end_one : (rules : Rules) (reads : Inner) (id : ListId) (v : Tree) → is_object v ≡ true
    → Counted (ReadsObject rules reads.within id (members_in v)) counts.One
    → Counted (ReadsEnd rules reads (types.an_object id) v) counts.One
object_end_one rules reads id (object ms) is h =
    count_of_object_end rules reads id ms counts.One h
object_end_one rules reads id null is h = absurd (cc)
object_end_one rules reads id (truth b) is h = absurd (cc)
object_end_one rules reads id (number n) is h = absurd (cc)
object_end_one rules reads id (text x) is h = absurd (cc)
object_end_one rules reads id (list vs) is h = absurd (cc)

-- the same as content
pub object_content_one : (rules : Rules) (reads : Inner) (id : ListId) (v : Tree)
    → is_object v ≡ true → Counted (ReadsObject rules reads.within id (members_in v)) counts.One
    → Counted (ReadsContent rules reads (as_object id) v) counts.One
object_content_one rules reads id (object ms) is h =
    count_of_object_content rules reads id ms counts.One h
object_content_one rules reads id null is h = absurd (cc)
object_content_one rules reads id (truth b) is h = absurd (cc)
object_content_one rules reads id (number n) is h = absurd (cc)
object_content_one rules reads id (text x) is h = absurd (cc)
object_content_one rules reads id (list vs) is h = absurd (cc)

-- what the test refuses is not read
unread : {X : Type 0} → IsTrue false × X → ⊥
unread h = let no : false ≡ true = h.0 in absurd (cc)

-- a tuple as content is read as a tuple at the end of a shape
pub tuple_content : (rules : Rules) (reads : Inner) (ss : List ℕ) (v : Tree) (r : Reading)
    → ReadsEnd rules reads (a_tuple ss) v r ↔ ReadsContent rules reads (as_tuple ss) v r
tuple_content rules reads ss (list vs) (each_of rs) = (λ h. h, λ h. h)
tuple_content rules reads ss (list vs) a_value = (λ h. absurd (unread h), λ h. absurd h)
tuple_content rules reads ss (list vs) (an_object c) = (λ h. absurd (unread h), λ h. absurd h)
tuple_content rules reads ss (list vs) (a_variant k q) = (λ h. absurd (unread h), λ h. absurd h)
tuple_content rules reads ss null r = (λ h. absurd (unread h), λ h. absurd h)
tuple_content rules reads ss (truth b) r = (λ h. absurd (unread h), λ h. absurd h)
tuple_content rules reads ss (number n) r = (λ h. absurd (unread h), λ h. absurd h)
tuple_content rules reads ss (text x) r = (λ h. absurd (unread h), λ h. absurd h)
tuple_content rules reads ss (object ms) r = (λ h. absurd (unread h), λ h. absurd h)

-- so it has the same count
pub if_tuple_content : {E : Type 0} (rules : Rules) (reads : Inner) (ss : List ℕ) (v : Tree)
    (r : Result Count E) → IfOk r (Counted (ReadsEnd rules reads (a_tuple ss) v))
    → IfOk r (Counted (ReadsContent rules reads (as_tuple ss) v))
if_tuple_content rules reads ss v (Err x) h = tt
if_tuple_content rules reads ss v (Ok n) h =
    counted_same (ReadsEnd rules reads (a_tuple ss) v) (ReadsContent rules reads (as_tuple ss) v) n
    (λ r. (tuple_content rules reads ss v r).0) (λ r. (tuple_content rules reads ss v r).1) h

-- another value than null is read as an option as what is inside
pub if_present : {E : Type 0} (rules : Rules) (reads : Inner) (s : ℕ) (v : Tree)
    (r : Result Count E) → is_null v ≡ false → IfOk r (Counted (reads.itself (of_shape s) v))
    → IfOk r (Counted (ReadsEnd rules reads (types.an_option s) v))
if_present rules reads s v (Err x) some h = tt
if_present rules reads s v (Ok n) some h = count_of_present rules reads s v n some h

-- a value that some variant reads directly is read by no fallback
pub if_last : {E : Type 0} (rules : Rules) (reads : Inner) (joined : ListId)
    (alone : List Alternative)
    (v : Tree) (m : Count) (r : Result Count E) → m ≡ counts.None
    → Counted (ReadsDirectly rules reads (an_untagged_variant joined alone) v) m
    → IfOk r (Counted (ReadsFallback reads.itself alone v))
    → IfOk r (Counted (ReadsEnd rules reads (an_untagged_variant joined alone) v))
if_last rules reads joined alone v m (Err x) none h g = tt
if_last rules reads joined alone v m (Ok n) none h g =
    count_of_last rules reads joined alone v m n none h g

-- an alternative that reads content by itself reads a value as often as its content
pub if_content_read : {E : Type 0} (reads : Reads) (others : List Alternative) (a : Alternative)
    (v : Tree) (r : Result Count E)
    → reads_content a.kind (list_any (is_whole_of v) others) ≡ true
    → IfOk r (Counted (reads a.content v)) → IfOk r (Counted (ReadsByItself reads others a v))
if_content_read reads others a v (Err x) passes h = tt
if_content_read reads others a v (Ok n) passes h =
    content_read reads a.kind (list_any (is_whole_of v) others) a.content v n passes h
