-- Where a value has one reading, so has what it is read by, and what is told of that is told of it.
use Rattle.std.proofs.Common.{◌≡◌, sym, subst, refl, ℕ, List, zip, true, false}
use Rattle.std.proofs.Common.{length, IsTrue}
use Rattle.std.specs.Prelude.{◌↔◌, Result}
use Rattle.facet_solver_reader.specs.declared.count.Count.TheVariants.{One}
use Rattle.facet_solver_reader.specs.declared.nodes.Nodes.{Nodes}
use Rattle.facet_solver_reader.specs.declared.read.not_one.NotOne.{NotOne}
use Rattle.facet_solver_reader.specs.declared.reading.Reading as code
use Rattle.facet_solver_reader.specs.declared.tables.Tables.{Tables}
use Rattle.facet_solver_reader.specs.Choices.{Reading, a_value, each_of, an_object}
use Rattle.facet_solver_reader.specs.Choices.{a_variant}
use Rattle.facet_solver_reader.specs.Counted.{Counted}
use Rattle.facet_solver_reader.specs.Documents.{Tree, null, truth, number, text, list, object}
use Rattle.facet_solver_reader.specs.Documents.{items, members}
use Rattle.facet_solver_reader.specs.Kinds.{is_list, is_null}
use Rattle.facet_solver_reader.specs.Nodes.{children, members_in, value_of}
use Rattle.facet_solver_reader.specs.Parts.{of_shape, of_content}
use Rattle.facet_solver_reader.specs.Reached.{IsRanked}
use Rattle.facet_solver_reader.specs.Reading.{IsCount}
use Rattle.facet_solver_reader.specs.Readings.{ReadsValue, inner}
use Rattle.facet_solver_reader.specs.Rules.{Content, End, Rules, a_list, a_map, a_tuple}
use Rattle.facet_solver_reader.specs.Rules.{an_option}
use Rattle.facet_solver_reader.specs.Tables.{rules_at}
use Rattle.facet_solver_reader.specs.Told.{TellsAs, end_of_content}
use Rattle.facet_solver_reader.specs.ToldAt.{IsRead, IsToldAs, IsToldAt}
use Rattle.facet_solver_reader.specs.Values.{Inner, ReadsContent, ReadsEach, ReadsEnd, ReadsEntries}
use Rattle.facet_solver_reader.specs.Values.{ReadsItems, ReadsPlace}
use Rattle.facet_solver_reader.proofs.OneEach.{one_into}
use Rattle.facet_solver_reader.proofs.ReadOnce.{read_as, same_one}
use Rattle.facet_solver_reader.proofs.Readings.{value_by_parts}

-- a reading as a shape is one by its end
pub by_end : (rules : Rules) (n s : ℕ) (e : End) (v : Tree) → IsRanked n rules (of_shape s)
    → rules.end_of s ≡ e → (r : Reading)
    → ReadsValue rules (of_shape s) v r ↔ ReadsEnd rules (inner rules) e v r
by_end rules n s e v ranked is r =
    subst (λ x. ReadsValue rules (of_shape s) v r ↔ ReadsEnd rules (inner rules) x v r) is
    (value_by_parts rules n (of_shape s) v ranked r)

-- a reading as content is one by what the content is
pub by_content : (rules : Rules) (n s k : ℕ) (x : Content) (v : Tree)
    → IsRanked n rules (of_content s k) → rules.content_of s k ≡ x → (r : Reading)
    → ReadsValue rules (of_content s k) v r ↔ ReadsContent rules (inner rules) x v r
by_content rules n s k x v ranked is r =
    subst (λ y. ReadsValue rules (of_content s k) v r ↔ ReadsContent rules (inner rules) y v r) is
    (value_by_parts rules n (of_content s k) v ranked r)

-- a reading by the end of a shape is told as one of the shape
pub told_end : (t : Tables) (nodes : Nodes) (node n s : ℕ) (e : End) (w : code.Reading)
    → IsRanked n (rules_at t) (of_shape s) → (rules_at t).end_of s ≡ e
    → IsToldAs t nodes node e w → IsToldAt t nodes node (of_shape s) w
told_end t nodes node n s e w ranked is h =
    let rules = rules_at t in
    let v = value_of nodes node in
    record {
      reading = h.reading;
      reads = (value_by_parts rules n (of_shape s) v ranked h.reading).1
          (subst (λ x. ReadsEnd rules (inner rules) x v h.reading) (sym is) h.reads);
      tells = subst (λ x. TellsAs rules t.shapes.now x v h.reading w.variants.items w.kind) (sym is)
          h.tells;
    }

-- a reading by what content is is told as one of the content
pub told_content : (t : Tables) (nodes : Nodes) (node n s k : ℕ) (x : Content) (r : Reading)
    (w : code.Reading) → IsRanked n (rules_at t) (of_content s k)
    → (rules_at t).content_of s k ≡ x
    → ReadsContent (rules_at t) (inner (rules_at t)) x (value_of nodes node) r
    → TellsAs (rules_at t) t.shapes.now (end_of_content x) (value_of nodes node) r w.variants.items
    w.kind
    → IsToldAt t nodes node (of_content s k) w
told_content t nodes node n s k x r w ranked is reads tells =
    let rules = rules_at t in
    let v = value_of nodes node in
    record {
      reading = r;
      reads = (value_by_parts rules n (of_content s k) v ranked r).1
          (subst (λ y. ReadsContent rules (inner rules) y v r) (sym is) reads);
      tells = subst (λ y. TellsAs rules t.shapes.now (end_of_content y) v r w.variants.items w.kind)
          (sym is) tells;
    }

-- what is told by its end is told of a shape
pub read_by_end : (t : Tables) (nodes : Nodes) (node n s : ℕ) (e : End)
    (r : Result code.Reading NotOne) → IsRanked n (rules_at t) (of_shape s)
    → (rules_at t).end_of s ≡ e
    → IsRead (IsToldAs t nodes node e)
    (Counted (ReadsEnd (rules_at t) (inner (rules_at t)) e (value_of nodes node)) One) r
    → IsRead (IsToldAt t nodes node (of_shape s)) (IsCount t nodes node (of_shape s) One) r
read_by_end t nodes node n s e r ranked is h =
    let rules = rules_at t in
    let v = value_of nodes node in
    let same = same_one (ReadsValue rules (of_shape s) v) (ReadsEnd rules (inner rules) e v)
    (by_end rules n s e v ranked is) in
    read_as (IsToldAs t nodes node e) (IsToldAt t nodes node (of_shape s))
    (Counted (ReadsEnd rules (inner rules) e v) One) (IsCount t nodes node (of_shape s) One) r
    (λ w one told. told_end t nodes node n s e w ranked is told) same.1 same.0 h

-- what is told by what it is is told of content
pub read_by_content : (t : Tables) (nodes : Nodes) (node n s k : ℕ) (x : Content)
    (P : code.Reading → Type 0) (C : Type 0) (r : Result code.Reading NotOne)
    → IsRanked n (rules_at t) (of_content s k) → (rules_at t).content_of s k ≡ x
    → ((w : code.Reading) → C → P w → IsToldAt t nodes node (of_content s k) w)
    → (C → Counted (ReadsContent (rules_at t) (inner (rules_at t)) x (value_of nodes node)) One)
    → (Counted (ReadsContent (rules_at t) (inner (rules_at t)) x (value_of nodes node)) One → C)
    → IsRead P C r
    → IsRead (IsToldAt t nodes node (of_content s k)) (IsCount t nodes node (of_content s k) One) r
read_by_content t nodes node n s k x P C r ranked is told into back h =
    let rules = rules_at t in
    let v = value_of nodes node in
    let same = same_one (ReadsValue rules (of_content s k) v)
    (ReadsContent rules (inner rules) x v) (by_content rules n s k x v ranked is) in
    read_as P (IsToldAt t nodes node (of_content s k)) C (IsCount t nodes node (of_content s k) One)
    r told (λ one. same.1 (into one)) (λ one. back (same.0 one)) h

-- what the test refuses is not read
pub unread : {X : Type 0} → IsTrue false × X → ⊥
unread h = let no : false ≡ true = h.0 in absurd (cc)

module _ (rules : Rules) (reads : Inner) where
  -- another value than null has one reading as what an option has inside
  pub one_inside : (s : ℕ) (v : Tree) → is_null v ≡ false
      → Counted (ReadsEnd rules reads (an_option s) v) One
      → Counted (reads.itself (of_shape s) v) One
  one_inside s null some h = absurd (cc)
  one_inside s (truth b) some h = h
  one_inside s (number n) some h = h
  one_inside s (text x) some h = h
  one_inside s (list vs) some h = h
  one_inside s (object ms) some h = h

  -- what is read inside is read as the option
  pub option_reads : (s : ℕ) (v : Tree) (r : Reading) → is_null v ≡ false
      → reads.itself (of_shape s) v r → ReadsEnd rules reads (an_option s) v r
  option_reads s null r some h = absurd (cc)
  option_reads s (truth b) r some h = h
  option_reads s (number n) r some h = h
  option_reads s (text x) r some h = h
  option_reads s (list vs) r some h = h
  option_reads s (object ms) r some h = h

  -- only a list has a reading as items
  pub items_is_list : (s : ℕ) (v : Tree) → Counted (ReadsEnd rules reads (a_list s) v) One
      → is_list v ≡ true
  items_is_list s (list vs) h = refl
  items_is_list s null h = absurd (unread h.has)
  items_is_list s (truth b) h = absurd (unread h.has)
  items_is_list s (number n) h = absurd (unread h.has)
  items_is_list s (text x) h = absurd (unread h.has)
  items_is_list s (object ms) h = absurd (unread h.has)

  -- whose items have one
  pub one_items : (s : ℕ) (v : Tree) → is_list v ≡ true
      → Counted (ReadsEnd rules reads (a_list s) v) One
      → Counted (ReadsItems reads.within (of_shape s) (children v)) One
  one_items s (list vs) is h = go h.value h.has
    where
      go : (r : Reading) → ReadsEnd rules reads (a_list s) (list vs) r
          → Counted (ReadsItems reads.within (of_shape s) (items vs)) One
      go a_value p = absurd (unread p)
      go (an_object c) p = absurd (unread p)
      go (a_variant k q) p = absurd (unread p)
      go (each_of rs) p =
          one_into (ReadsItems reads.within (of_shape s) (items vs))
          (ReadsEnd rules reads (a_list s) (list vs)) each_of (λ qs q. q) (λ x y e. cc) h rs p
  one_items s null is h = absurd (cc)
  one_items s (truth b) is h = absurd (cc)
  one_items s (number n) is h = absurd (cc)
  one_items s (text x) is h = absurd (cc)
  one_items s (object ms) is h = absurd (cc)

  -- a reading as a tuple is one of as many values as there are shapes
  pub one_places : (ss : List ℕ) (v : Tree) → Counted (ReadsEnd rules reads (a_tuple ss) v) One
      → (length ss ≡ length (children v))
      × Counted (ReadsEach (ReadsPlace reads.within) (zip ss (children v))) One
  one_places ss (list vs) h = go h.value h.has
    where
      go : (r : Reading) → ReadsEnd rules reads (a_tuple ss) (list vs) r
          → (length ss ≡ length (items vs))
          × Counted (ReadsEach (ReadsPlace reads.within) (zip ss (items vs))) One
      go a_value p = absurd (unread p)
      go (an_object c) p = absurd (unread p)
      go (a_variant k q) p = absurd (unread p)
      go (each_of rs) p = (
        p.0,
        one_into (ReadsEach (ReadsPlace reads.within) (zip ss (items vs)))
            (ReadsEnd rules reads (a_tuple ss) (list vs)) each_of (λ qs q. (p.0, q))
            (λ x y e. cc) h rs p.1,
      )
  one_places ss null h = absurd (unread h.has)
  one_places ss (truth b) h = absurd (unread h.has)
  one_places ss (number n) h = absurd (unread h.has)
  one_places ss (text x) h = absurd (unread h.has)
  one_places ss (object ms) h = absurd (unread h.has)

  -- a reading as a map is one of its entries
  pub one_entries : (key s : ℕ) (v : Tree)
      → Counted (ReadsEnd rules reads (a_map key s) v) One
      → Counted (ReadsEntries (rules.is_key key) reads.within (of_shape s) (members_in v)) One
  one_entries key s (object ms) h = go h.value h.has
    where
      go : (r : Reading) → ReadsEnd rules reads (a_map key s) (object ms) r
          → Counted
          (ReadsEntries (rules.is_key key) reads.within (of_shape s) (members ms)) One
      go a_value p = absurd (unread p)
      go (an_object c) p = absurd (unread p)
      go (a_variant k q) p = absurd (unread p)
      go (each_of rs) p =
          one_into (ReadsEntries (rules.is_key key) reads.within (of_shape s) (members ms))
          (ReadsEnd rules reads (a_map key s) (object ms)) each_of (λ qs q. q) (λ x y e. cc) h rs p
  one_entries key s null h = absurd (unread h.has)
  one_entries key s (truth b) h = absurd (unread h.has)
  one_entries key s (number n) h = absurd (unread h.has)
  one_entries key s (text x) h = absurd (unread h.has)
  one_entries key s (list vs) h = absurd (unread h.has)
