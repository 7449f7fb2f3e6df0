-- What is told of values as they are, and of objects.
use Rattle.std.proofs.Common.{◌≡◌, sym, subst, refl, ℕ, List, [], true, Vec}
use Rattle.std.proofs.Common.{Global, inl}
use Rattle.std.specs.Borrow.{Bor}
use Rattle.std.specs.Prelude.{◌↔◌, Result}
use Rattle.facet_solver_shape.specs.Catalogues.{Catalogue}
use Rattle.facet_solver_shape.specs.Names.{Name}
use Rattle.facet_solver_reader.specs.declared.count.Count.{Count}
use Rattle.facet_solver_reader.specs.declared.count.Count.TheVariants.{One}
use Rattle.facet_solver_reader.specs.declared.document.Document.{Document}
use Rattle.facet_solver_reader.specs.declared.nodes.Nodes.{Nodes}
use Rattle.facet_solver_reader.specs.declared.read.not_one.NotOne.{NotOne}
use Rattle.facet_solver_reader.specs.declared.reading.ObjectReading.{ObjectReading}
use Rattle.facet_solver_reader.specs.declared.reading.Reading as code
use Rattle.facet_solver_reader.specs.declared.reading.ReadingKind.{ReadingKind}
use Rattle.facet_solver_reader.specs.declared.reading.ReadingKind.TheVariants as kinds
use Rattle.facet_solver_reader.specs.declared.reading.VariantName.{VariantName}
use Rattle.facet_solver_reader.specs.declared.tables.Tables.{Tables}
use Rattle.facet_solver_reader.specs.Choices.{Choice, Reading, a_value, each_of, an_object}
use Rattle.facet_solver_reader.specs.Choices.{a_variant}
use Rattle.facet_solver_reader.specs.Counted.{Counted}
use Rattle.facet_solver_reader.specs.Documents.{Tree, null, truth, number, text, list, object}
use Rattle.facet_solver_reader.specs.Documents.{members, view}
use Rattle.facet_solver_reader.specs.Kinds.{is_object}
use Rattle.facet_solver_reader.specs.Nodes.{members_in, value_of}
use Rattle.facet_solver_reader.specs.Objects.{ReadsObject}
use Rattle.facet_solver_reader.specs.Parts.{ListId, Target}
use Rattle.facet_solver_reader.specs.Reading.{IsCount}
use Rattle.facet_solver_reader.specs.Readings.{ReadsValue}
use Rattle.facet_solver_reader.specs.Rules as types
use Rattle.facet_solver_reader.specs.Rules.{Alternative, End, Rules, a_character, a_text, a_truth}
use Rattle.facet_solver_reader.specs.Rules.{an_untagged_variant, anything, as_object}
use Rattle.facet_solver_reader.specs.Tables.{rules_at}
use Rattle.facet_solver_reader.specs.Told.{TellsAs, TellsObject, as_it_is, by_joined}
use Rattle.facet_solver_reader.specs.Told.{by_parts, end_of_target}
use Rattle.facet_solver_reader.specs.ToldAt.{IsAsItIs, IsRead, IsToldAt}
use Rattle.facet_solver_reader.specs.Values.{Inner, ReadsContent, ReadsEnd, ReadsTag, is_scalar_end}
use Rattle.facet_solver_reader.proofs.OneEach.{one_into}
use Rattle.facet_solver_reader.proofs.OneEnds.{unread}
use Rattle.facet_solver_reader.proofs.ReadOnce.{is_one, read_as, same_one}

-- a value that is read as it is is told so
pub tells_as_it_is : (rules : Rules) (shapes : Catalogue) (e : End) (v : Tree) (r : Reading)
    (ns : List VariantName) (k : ReadingKind) (d : Bor Document) → view d.now ≡ v → r ≡ a_value
    → ns ≡ [] → k ≡ kinds.Value d → TellsAs rules shapes e v r ns k
tells_as_it_is rules shapes e v r ns k d seen plain none is =
    subst (λ u. TellsAs rules shapes e u r ns k) seen
    (subst (λ q. TellsAs rules shapes e (view d.now) q ns k) (sym plain)
    (subst (λ ms. TellsAs rules shapes e (view d.now) a_value ms k) (sym none)
    (subst (λ j. TellsAs rules shapes e (view d.now) a_value [] j) (sym is) (as_it_is e d))))

-- the same of a target
pub told_as_it_is : (t : Tables) (nodes : Nodes) (node : ℕ) (target : Target) (w : code.Reading)
    (d : Bor Document) (r : Reading) → view d.now ≡ value_of nodes node
    → ReadsValue (rules_at t) target (value_of nodes node) r → r ≡ a_value
    → w.variants.items ≡ [] → w.kind ≡ kinds.Value d → IsToldAt t nodes node target w
told_as_it_is t nodes node target w d r seen reads plain none is =
    record {
      reading = r;
      reads = reads;
      tells = tells_as_it_is (rules_at t) t.shapes.now (end_of_target (rules_at t) target)
          (value_of nodes node) r w.variants.items w.kind d seen plain none is;
    }

-- a value that is read as it is, as often as is counted
pub read_counted : (t : Tables) (nodes : Nodes) (node : ℕ) (target : Target)
    (P : Reading → Type 0) (n : Count) (d : Bor Document) (r : Result code.Reading NotOne)
    → view d.now ≡ value_of nodes node
    → ((q : Reading) → ReadsValue (rules_at t) target (value_of nodes node) q ↔ P q)
    → ((q : Reading) → P q → q ≡ a_value) → Counted P n
    → IsRead (IsAsItIs d) (n ≡ One) r
    → IsRead (IsToldAt t nodes node target) (IsCount t nodes node target One) r
read_counted t nodes node target P n d r seen same plain counted h =
    let R = ReadsValue (rules_at t) target (value_of nodes node) in
    read_as (IsAsItIs d) (IsToldAt t nodes node target) (n ≡ One) (IsCount t nodes node target One) r
    (λ w is plainly.
    let one : Counted P One = subst (Counted P) is counted in
    told_as_it_is t nodes node target w d one.value seen ((same one.value).1 one.has)
    (plain one.value one.has) plainly.0 plainly.1)
    (λ is. (same_one R P same).1 (subst (Counted P) is counted))
    (λ one. is_one P n counted ((same_one R P same).0 one)) h

-- an end that reads values as they are reads them as they are
pub scalar_value : (rules : Rules) (reads : Inner) (e : End) (v : Tree) (r : Reading)
    → is_scalar_end e ≡ true → ReadsEnd rules reads e v r → r ≡ a_value
scalar_value rules reads types.null_alone v r scalar h = h.1
scalar_value rules reads a_truth v r scalar h = h.1
scalar_value rules reads (types.a_whole range) v r scalar h = h.1
scalar_value rules reads types.a_float v r scalar h = h.1
scalar_value rules reads a_text v r scalar h = h.1
scalar_value rules reads a_character v r scalar h = h.1
scalar_value rules reads anything v r scalar h = h.1
scalar_value rules reads e v r scalar h = absurd (cc)

-- so does the text of a tag
pub tag_text : (name : Name) (v : Tree) (r : Reading) → ReadsTag name v r → r ≡ a_value
tag_text name (text x) a_value h = refl
tag_text name (text x) (each_of rs) h = absurd h
tag_text name (text x) (an_object c) h = absurd h
tag_text name (text x) (a_variant k q) h = absurd h
tag_text name null r h = absurd h
tag_text name (truth b) r h = absurd h
tag_text name (number n) r h = absurd h
tag_text name (list vs) r h = absurd h
tag_text name (object ms) r h = absurd h

module _ (rules : Rules) (reads : Inner) (id : ListId) where
  -- only an object has a reading by a list of parts
  pub object_has_one : (v : Tree) → Counted (ReadsEnd rules reads (types.an_object id) v) One
      → (is_object v ≡ true) × Counted (ReadsObject rules reads.within id (members_in v)) One
  object_has_one (object ms) h = go h.value h.has
    where
      go : (r : Reading) → ReadsEnd rules reads (types.an_object id) (object ms) r
          → (is_object (object ms) ≡ true)
          × Counted (ReadsObject rules reads.within id (members ms)) One
      go a_value p = absurd (unread p)
      go (each_of rs) p = absurd (unread p)
      go (a_variant k q) p = absurd (unread p)
      go (an_object c) p = (
        refl,
        one_into (ReadsObject rules reads.within id (members ms))
            (ReadsEnd rules reads (types.an_object id) (object ms)) an_object (λ d q. q)
            (λ x y e. cc) h c p,
      )
  object_has_one null h = absurd (unread h.has)
  object_has_one (truth b) h = absurd (unread h.has)
  object_has_one (number n) h = absurd (unread h.has)
  object_has_one (text x) h = absurd (unread h.has)
  object_has_one (list vs) h = absurd (unread h.has)

  -- the same as content
  pub content_has_one : (v : Tree) → Counted (ReadsContent rules reads (as_object id) v) One
      → (is_object v ≡ true) × Counted (ReadsObject rules reads.within id (members_in v)) One
  content_has_one (object ms) h = go h.value h.has
    where
      go : (r : Reading) → ReadsContent rules reads (as_object id) (object ms) r
          → (is_object (object ms) ≡ true)
          × Counted (ReadsObject rules reads.within id (members ms)) One
      go a_value p = absurd p
      go (each_of rs) p = absurd p
      go (a_variant k q) p = absurd p
      go (an_object c) p = (
        refl,
        one_into (ReadsObject rules reads.within id (members ms))
            (ReadsContent rules reads (as_object id) (object ms)) an_object (λ d q. q)
            (λ x y e. cc) h c p,
      )
  content_has_one null h = absurd h.has
  content_has_one (truth b) h = absurd h.has
  content_has_one (number n) h = absurd h.has
  content_has_one (text x) h = absurd h.has
  content_has_one (list vs) h = absurd h.has

  -- an object is read by its parts
  pub object_reads : (v : Tree) (c : Choice) → is_object v ≡ true
      → ReadsObject rules reads.within id (members_in v) c
      → ReadsEnd rules reads (types.an_object id) v (an_object c)
  object_reads (object ms) c is h = h
  object_reads null c is h = absurd (cc)
  object_reads (truth b) c is h = absurd (cc)
  object_reads (number n) c is h = absurd (cc)
  object_reads (text x) c is h = absurd (cc)
  object_reads (list vs) c is h = absurd (cc)

  -- the same as content
  pub content_reads : (v : Tree) (c : Choice) → is_object v ≡ true
      → ReadsObject rules reads.within id (members_in v) c
      → ReadsContent rules reads (as_object id) v (an_object c)
  content_reads (object ms) c is h = h
  content_reads null c is h = absurd (cc)
  content_reads (truth b) c is h = absurd (cc)
  content_reads (number n) c is h = absurd (cc)
  content_reads (text x) c is h = absurd (cc)
  content_reads (list vs) c is h = absurd (cc)

  -- the same by the variants of an untagged enum that join
  pub joined_reads : (alone : List Alternative) (v : Tree) (c : Choice) → is_object v ≡ true
      → ReadsObject rules reads.within id (members_in v) c
      → ReadsEnd rules reads (an_untagged_variant id alone) v (an_object c)
  joined_reads alone (object ms) c is h = inl (inl h)
  joined_reads alone null c is h = absurd (cc)
  joined_reads alone (truth b) c is h = absurd (cc)
  joined_reads alone (number n) c is h = absurd (cc)
  joined_reads alone (text x) c is h = absurd (cc)
  joined_reads alone (list vs) c is h = absurd (cc)

module _ (rules : Rules) (shapes : Catalogue) (id : ListId) (o : ObjectReading)
    (values rest : Vec code.Reading Global) where
  -- what is told of an object by its parts is told of it
  pub tells_object : (v : Tree) (c : Choice) (ns : List VariantName) (k : ReadingKind)
      → is_object v ≡ true → ns ≡ [] → k ≡ kinds.Object o values rest
      → TellsObject rules shapes id (members_in v) c o values.items rest.items
      → TellsAs rules shapes (types.an_object id) v (an_object c) ns k
  tells_object (object ms) c ns k is none same h =
      subst (λ ms'. TellsAs rules shapes (types.an_object id) (object ms) (an_object c) ms' k)
      (sym none)
      (subst (λ j. TellsAs rules shapes (types.an_object id) (object ms) (an_object c) [] j)
      (sym same) (by_parts id ms c o values rest h))
  tells_object null c ns k is none same h = absurd (cc)
  tells_object (truth b) c ns k is none same h = absurd (cc)
  tells_object (number n) c ns k is none same h = absurd (cc)
  tells_object (text x) c ns k is none same h = absurd (cc)
  tells_object (list vs) c ns k is none same h = absurd (cc)

  -- the same by the variants of an untagged enum that join
  pub tells_joined : (alone : List Alternative) (v : Tree) (c : Choice) (ns : List VariantName)
      (k : ReadingKind) → is_object v ≡ true → ns ≡ [] → k ≡ kinds.Object o values rest
      → TellsObject rules shapes id (members_in v) c o values.items rest.items
      → TellsAs rules shapes (an_untagged_variant id alone) v (an_object c) ns k
  tells_joined alone (object ms) c ns k is none same h =
      subst (λ ms'. TellsAs rules shapes (an_untagged_variant id alone) (object ms) (an_object c) ms' k)
      (sym none)
      (subst (λ j. TellsAs rules shapes (an_untagged_variant id alone) (object ms) (an_object c) [] j)
      (sym same) (by_joined id alone ms c o values rest h))
  tells_joined alone null c ns k is none same h = absurd (cc)
  tells_joined alone (truth b) c ns k is none same h = absurd (cc)
  tells_joined alone (number n) c ns k is none same h = absurd (cc)
  tells_joined alone (text x) c ns k is none same h = absurd (cc)
  tells_joined alone (list vs) c ns k is none same h = absurd (cc)
