-- Where an object has one reading, whatever becomes of its members of no known name, it has one by
-- the list of its parts.
use Rattle.std.proofs.Common.{◌≡◌, ◌↔◌, inl, subst, ⊎_elim, List, [], ◌∷◌, Bool, true, false, not, IsTrue}
use Rattle.std.proofs.Common.{refl}
use Rattle.facet_solver_reader.specs.declared.count.Count.{Count}
use Rattle.facet_solver_reader.specs.declared.count.Count.TheVariants.{One, None as NoReading}
use Rattle.facet_solver_reader.specs.declared.count.Count.TheVariants.{Several}
use Rattle.facet_solver_reader.specs.Branches.{IsReadByList, ReadsList}
use Rattle.facet_solver_reader.specs.Choices.{Choice, Item, catch_all_of, member_of, presence_of}
use Rattle.facet_solver_reader.specs.Counted.{Counted}
use Rattle.facet_solver_reader.specs.Documents.{Member}
use Rattle.facet_solver_reader.specs.Known.{Chooses, HasKey, IsKnown, Key, named, rest}
use Rattle.facet_solver_reader.specs.Objects.{Agrees, Has, HasUnknown, Object, Reads, ReadsAll}
use Rattle.facet_solver_reader.specs.Objects.{ReadsIgnoring, ReadsObject, ignoring, taking}
use Rattle.facet_solver_reader.specs.Parts.{ListId}
use Rattle.facet_solver_reader.specs.Rules.{Rules}
use Rattle.facet_solver_reader.proofs.Counting.{counted_same}
use Rattle.facet_solver_reader.proofs.Objects.{all_is_read, all_reads, ignoring_reads}

module _ (rules : Rules) (reads : Reads) (members : List Member) (list : ListId) where
  -- where all is read, and there are unknown members, some choice takes them
  known_rest : (d : Choice) → ReadsAll rules reads members list d
      → HasUnknown rules (taking members list) → IsKnown (Chooses rules.lists list) rest
  known_rest d a u =
      record {
        choice = d;
        items = a.reading.items;
        chooses = a.reading.chooses;
        has = a.all u;
      }

  -- where all is read, the readings are those by the list
  pub taking_reads : (d : Choice) → ReadsAll rules reads members list d → (c : Choice)
      → ReadsList rules reads (taking members list) list c
      ↔ ReadsObject rules reads list members c
  taking_reads d a c =
      let all = all_is_read rules reads members list (known_rest d a) c in
      let object = all_reads rules reads members list d a c in
      (λ r. object.0 (all.0 r), λ w. all.1 (object.1 w))

  -- an object, which takes its unknown members where it can be read with them
  abbrev pub taken_unless : Bool → Object
  taken_unless none = record { members = members; list = list; takes = not none }

  -- its readings by the list are all that there are
  pub reads_by_list : (n : Count) (none : Bool) → IsTrue none ↔ (n ≡ NoReading)
      → Counted (ReadsAll rules reads members list) n
      → (none ≡ true → rules.strict ≡ false)
      → (c : Choice)
      → ReadsList rules reads (taken_unless none) list c
      ↔ ReadsObject rules reads list members c
  reads_by_list n true iff h lenient c =
      let no = subst (λ k. Counted (ReadsAll rules reads members list) k) (iff.0 refl) h in
      ignoring_reads rules reads members list (lenient refl) no c
  reads_by_list NoReading false iff h lenient c =
      let is : false ≡ true = iff.1 refl in absurd (cc)
  reads_by_list One false iff h lenient c = taking_reads h.value h.has c
  reads_by_list Several false iff h lenient c = taking_reads h.first h.has_first c

  -- a strict reader reads none of which it does not read all
  pub none_strictly : Counted (ReadsAll rules reads members list) NoReading
      → rules.strict ≡ true → Counted (ReadsObject rules reads list members) One → ⊥
  none_strictly none strict one =
      ⊎_elim (λ (a : ReadsAll rules reads members list one.value). none one.value a)
      (λ (i : ReadsIgnoring rules reads members list one.value).
      let lenient : rules.strict ≡ false = i.lenient in absurd (cc))
      one.has

-- where each name of an object is known
module _ (rules : Rules) (reads : Reads) (members : List Member) (list : ListId)
    (none : HasUnknown rules (taking members list) → ⊥) where
  -- what it has without what catch-alls take it has with that
  has_whole : (key : Key) → Has rules (ignoring members list) key
      → Has rules (taking members list) key
  has_whole (named x) h = h
  has_whole rest h = let no : false ≡ true = h.takes in absurd (cc)

  -- so a choice agrees with it
  agrees_whole : (items : List Item) → Agrees rules reads (ignoring members list) items
      → Agrees rules reads (taking members list) items
  agrees_whole [] h = h
  agrees_whole (member_of m r ∷ items) h = (h.0, agrees_whole items h.1)
  agrees_whole (catch_all_of k t ∷ items) h = let no : false ≡ true = h.0.0 in absurd (cc)
  agrees_whole (presence_of s ∷ items) h = (
    record { key = h.0.key; has = has_whole h.0.key h.0.has; known = h.0.known },
    agrees_whole items h.1,
  )

  -- each key that it has, and that is known, is one of a choice
  known_whole : (c : Choice) (i : ReadsIgnoring rules reads members list c) (key : Key)
      → Has rules (taking members list) key → IsKnown (Chooses rules.lists list) key
      → HasKey i.reading.items key
  known_whole c i (named x) h k = i.reading.known (named x) h k
  known_whole c i rest h k = absurd (none h.unknown)

  -- a reading that ignores those of no known name ignores nothing
  reads_whole : (c : Choice) → ReadsIgnoring rules reads members list c
      → ReadsAll rules reads members list c
  reads_whole c i =
      record {
        reading = record {
          items = i.reading.items;
          chooses = i.reading.chooses;
          known = known_whole c i;
          agrees = agrees_whole i.reading.items i.reading.agrees;
        };
        all = λ u. absurd (none u);
      }

  -- its readings by the list are all that there are
  pub whole_by_list : IsReadByList rules reads (taking members list)
  whole_by_list c =
      let all = all_is_read rules reads members list (λ u. absurd (none u)) c in (
        λ r. inl (all.0 r),
        λ w.
            all.1
            (⊎_elim (λ (a : ReadsAll rules reads members list c). a)
            (λ (i : ReadsIgnoring rules reads members list c). reads_whole c i) w),
      )

-- an object that is read by a list, with its members of no known name or without
abbrev pub object_by : List Member → ListId → Bool → Object
object_by members list takes = record { members = members; list = list; takes = takes }

-- where an object has one reading, it has one by a list that tells all of them
pub one_by_list : (rules : Rules) (reads : Reads) (object : Object)
    → IsReadByList rules reads object
    → Counted (ReadsObject rules reads object.list object.members) One
    → Counted (ReadsList rules reads object object.list) One
one_by_list rules reads object by one =
    counted_same (ReadsObject rules reads object.list object.members)
    (ReadsList rules reads object object.list) One (λ c w. (by c).1 w) (λ c r. (by c).0 r) one
