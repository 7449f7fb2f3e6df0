-- The counts of values by what a shape comes to.
use Rattle.std.proofs.Common.{IsTrue, ◌≡◌, refl, ℕ, List, true, false}
use Rattle.facet_solver_reader.specs.declared.count.Count.{Count}
use Rattle.facet_solver_reader.specs.declared.count.Count.TheVariants.{None as NoCount, One}
use Rattle.facet_solver_reader.specs.Counted.{Counted}
use Rattle.facet_solver_reader.specs.Documents.{Tree, null, list, object, Items, Members, items}
use Rattle.facet_solver_reader.specs.Documents.{members}
use Rattle.facet_solver_reader.specs.Kinds.{is_null, is_object}
use Rattle.facet_solver_reader.specs.Parts.{ListId, of_shape}
use Rattle.facet_solver_reader.specs.Choices.{a_value}
use Rattle.facet_solver_reader.specs.Objects.{ReadsObject}
use Rattle.facet_solver_reader.specs.Rules as types
use Rattle.facet_solver_reader.specs.Rules.{Rules, an_option}
use Rattle.facet_solver_reader.specs.Rules.{a_list, a_tuple, a_map}
use Rattle.facet_solver_reader.specs.Values.{Inner}
use Rattle.facet_solver_reader.specs.Values.{ReadsItems, ReadsTuple, ReadsEntries}
use Rattle.facet_solver_reader.specs.Values.{ReadsEnd}
use Rattle.facet_solver_reader.proofs.Forms.{count_as_no_value, count_as_each, count_as_object}

-- what the test refuses is not read
unread : {X : Type 0} → IsTrue false × X → ⊥
unread h = let no : false ≡ true = h.0 in absurd (cc)

-- a list is read as its items are
pub count_of_list : (rules : Rules) (reads : Inner) (s : ℕ) (vs : Items) (n : Count)
    → Counted (ReadsItems reads.within (of_shape s) (items vs)) n
    → Counted (ReadsEnd rules reads (a_list s) (list vs)) n
count_of_list rules reads s vs n h =
    count_as_each (λ r. ReadsEnd rules reads (a_list s) (list vs) r) n
    unread (λ c. unread) (λ k r. unread) h

-- a list is read as a tuple as its items are
pub count_of_tuple_end : (rules : Rules) (reads : Inner) (ss : List ℕ) (vs : Items) (n : Count)
    → Counted (ReadsTuple reads.within ss (items vs)) n
    → Counted (ReadsEnd rules reads (a_tuple ss) (list vs)) n
count_of_tuple_end rules reads ss vs n h =
    count_as_each (λ r. ReadsEnd rules reads (a_tuple ss) (list vs) r) n
    unread (λ c. unread) (λ k r. unread) h

-- an object is read as a map as its entries are
pub count_of_map : (rules : Rules) (reads : Inner) (key value : ℕ) (ms : Members) (n : Count)
    → Counted (ReadsEntries (rules.is_key key) reads.within (of_shape value) (members ms)) n
    → Counted (ReadsEnd rules reads (a_map key value) (object ms)) n
count_of_map rules reads key value ms n h =
    count_as_each (λ r. ReadsEnd rules reads (a_map key value) (object ms) r) n
    unread (λ c. unread) (λ k r. unread) h

-- an object is read by a list of parts
pub count_of_object_end : (rules : Rules) (reads : Inner) (id : ListId) (ms : Members) (n : Count)
    → Counted (ReadsObject rules reads.within id (members ms)) n
    → Counted (ReadsEnd rules reads (types.an_object id) (object ms)) n
count_of_object_end rules reads id ms n h =
    count_as_object (λ r. ReadsEnd rules reads (types.an_object id) (object ms) r) n
    unread (λ rs. unread) (λ k r. unread) h

-- nothing but an object is
pub count_of_no_object : (rules : Rules) (reads : Inner) (id : ListId) (v : Tree)
    → is_object v ≡ false
    → Counted (ReadsEnd rules reads (types.an_object id) v) NoCount
count_of_no_object rules reads id (object ms) e = absurd (cc)
count_of_no_object rules reads id v e =
    count_as_no_value (λ r. ReadsEnd rules reads (types.an_object id) v r)
    unread (λ rs. unread) (λ c. unread) (λ k r. unread)

-- null is read as an option that is absent
pub count_of_absent : (rules : Rules) (reads : Inner) (s : ℕ)
    → Counted (ReadsEnd rules reads (an_option s) null) One
count_of_absent rules reads s = record { value = a_value; has = refl; only = λ r h. h }

-- another value is read as an option as it is read as what is inside
pub count_of_present : (rules : Rules) (reads : Inner) (s : ℕ) (v : Tree) (n : Count)
    → is_null v ≡ false → Counted (reads.itself (of_shape s) v) n
    → Counted (ReadsEnd rules reads (an_option s) v) n
count_of_present rules reads s null n e h = absurd (cc)
count_of_present rules reads s v n e h = h
