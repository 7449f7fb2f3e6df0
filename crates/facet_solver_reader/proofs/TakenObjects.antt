-- The readings of an object by its own list, with its members of no known name and without them.
use Rattle.std.proofs.Common.{◌≡◌, ◌⊎◌, ◌||◌, ◌<◌, ◌+◌, ◌-◌, inl, inr, sym, ap, ◌∙◌, subst, ⊎_elim}
use Rattle.std.proofs.Common.{List, Bool, true, false, not, get_or, length, slice_get, arith, refl}
use Rattle.std.proofs.lemmas.Option.{slice_get-get_or}
use Rattle.std.specs.Option.{unwrap_or}
use Rattle.facet_solver_reader.specs.declared.count.Count.{Count}
use Rattle.facet_solver_reader.specs.declared.count.Count.TheVariants.{None as NoCount}
use Rattle.facet_solver_reader.specs.declared.count.object.Object as code
use Rattle.facet_solver_reader.specs.declared.nodes.Nodes.{Nodes}
use Rattle.facet_solver_reader.specs.declared.tables.Tables.{Tables}
use Rattle.facet_solver_reader.specs.Blaming.{IsTakenList}
use Rattle.facet_solver_reader.specs.Branches.{IsReadByList, ReadsList}
use Rattle.facet_solver_reader.specs.Counted.{Counted}
use Rattle.facet_solver_reader.specs.Documents.{Member}
use Rattle.facet_solver_reader.specs.Kinds.{is_object}
use Rattle.facet_solver_reader.specs.Known.{Chooses, IsKnown, rest}
use Rattle.facet_solver_reader.specs.Nodes.{members_in, value_of}
use Rattle.facet_solver_reader.specs.Objects.{HasUnknown, Object, ReadsAll, ignoring, taking}
use Rattle.facet_solver_reader.specs.Parts.{ListId}
use Rattle.facet_solver_reader.specs.Reading.{AreListCounts, IsListCount, IsObject, object_view}
use Rattle.facet_solver_reader.specs.Readings.{ReadsValue}
use Rattle.facet_solver_reader.specs.Rules.{Rules}
use Rattle.facet_solver_reader.specs.Tables.{AreTables, rules_at}
use Rattle.facet_solver_reader.specs.Views.{list_view}
use Rattle.facet_solver_reader.proofs.ChosenBranch.{some_counted}
use Rattle.facet_solver_reader.proofs.Objects.{all_is_read, count_of_takes, count_of_untaken}
use Rattle.facet_solver_reader.proofs.Objects.{ignoring_reads}
use Rattle.facet_solver_reader.proofs.OneObject.{taking_reads}
use Rattle.facet_solver_reader.proofs.TakenLists.{own_taken}

-- one of two is so, or the other is not
one_or_not : (a b : Bool) → (a || not b) ≡ true → (a ≡ true) ⊎ (b ≡ false)
one_or_not true b e = inl refl
one_or_not false true e = absurd (cc)
one_or_not false false e = inr refl

-- none is so, and the other is
not_one_and : (a b : Bool) → (a || not b) ≡ false → (a ≡ false) × (b ≡ true)
not_one_and true b e = absurd (cc)
not_one_and false true e = (refl, refl)
not_one_and false false e = absurd (cc)

-- the members of an object, and the name of its list
abbrev pub inner : Nodes → code.Object → List Member
inner nodes o = members_in (value_of nodes o.node)

abbrev pub own : code.Object → ListId
own o = list_view o.list.now.id

-- an object by whether catch-alls take its members of no known name
abbrev with_takes : List Member → ListId → Bool → Object
with_takes members list b = record { members = members; list = list; takes = b }

-- an object whose members of no known name are ignored
abbrev pub ignoring_object : code.Object → code.Object
ignoring_object o =
    record {
      node = o.node;
      list = o.list;
      takes = false;
      has_unknown = o.has_unknown;
      filter = o.filter;
    }

module _ (t : Tables) (tables : AreTables t) (nodes : Nodes) (o : code.Object)
    (h : IsObject t nodes o) where
  -- the last of the counts is that by the object's own list
  pub own_counted : (counts : List Count) → AreListCounts t nodes o counts
      → length counts ≡ length o.list.now.below.items
      → IsListCount t nodes o o.list.now
      (unwrap_or (slice_get counts (length counts - 1)) NoCount)
  own_counted counts are each =
      let last = (tables.lists h.index o.list.now h.listed).last in
      let many : length counts ≡ last.0 + 1 = omega (arith, last.1, each) in
      let place : length counts - 1 ≡ last.0 = omega (arith, many) in
      let within : last.0 < length counts = omega (arith, many) in
      let n = get_or counts last.0 NoCount in
      let at = slice_get-get_or counts last.0 NoCount within in
      let is : unwrap_or (slice_get counts (length counts - 1)) NoCount ≡ n =
      ap (λ i. unwrap_or (slice_get counts i) NoCount) place ∙ ap (λ r. unwrap_or r NoCount) at in
      subst (IsListCount t nodes o o.list.now) (sym is)
      (are.are last.0 h.index n o.list.now at last.2 h.listed)

  -- the object without its members of no known name is one of the document too
  pub ignoring_is_object : IsObject t nodes (ignoring_object o)
  ignoring_is_object =
      record {
        inside = h.inside;
        index = h.index;
        listed = h.listed;
        unknown = (
          λ b. let u = h.unknown.0 b in record { name = u.name; has = u.has; unknown = u.unknown },
          λ u. h.unknown.1 (record { name = u.name; has = u.has; unknown = u.unknown }),
        );
        filter = h.filter;
      }

  module _ (can : o.takes ≡ (o.list.now.takes_rest || not o.has_unknown)) where
    -- where the object's members can be taken, some choice takes those of no known name
    rest_is_known : o.takes ≡ true → HasUnknown (rules_at t) (taking (inner nodes o) (own o))
        → IsKnown (Chooses (rules_at t).lists (own o)) rest
    rest_is_known takes u =
        ⊎_elim
        (λ (e : o.list.now.takes_rest ≡ true).
        ((tables.lists h.index o.list.now h.listed).known rest).0 e)
        (λ (e : o.has_unknown ≡ false).
        let is : o.has_unknown ≡ true =
        h.unknown.1 (record { name = u.name; has = u.has; unknown = u.unknown }) in absurd (cc))
        (one_or_not o.list.now.takes_rest o.has_unknown (sym can ∙ takes))

    -- so that its readings by its list are all that it has, if it has one so
    pub whole_taken : o.takes ≡ true → is_object (value_of nodes o.node) ≡ true → (n : Count)
        → (n ≡ NoCount → ⊥) → IsListCount t nodes o o.list.now n → IsTakenList t nodes o (own o)
    whole_taken takes is n some counted =
        let rules = rules_at t in
        let reads = ReadsValue rules in
        let whole : object_view nodes o ≡ taking (inner nodes o) (own o) =
        ap (λ b. with_takes (inner nodes o) (own o) b) takes in
        let r = some_counted (ReadsList rules reads (object_view nodes o) (own o)) n some counted in
        let all = (all_is_read rules reads (inner nodes o) (own o) (rest_is_known takes) r.0).0
        (subst (λ (x : Object). ReadsList rules reads x (own o) r.0) whole r.1) in
        own_taken t tables nodes o is
        (subst (IsReadByList rules reads) (sym whole)
        (λ c. taking_reads rules reads (inner nodes o) (own o) r.0 all c))
        r.0 r.1

    -- or it has none with all its members
    pub none_whole : (o.takes ≡ true → IsListCount t nodes o o.list.now NoCount)
        → Counted
        (ReadsAll (rules_at t) (ReadsValue (rules_at t)) (inner nodes o) (own o)) NoCount
    none_whole none = go o.takes refl
      where
        rules : Rules
        rules = rules_at t

        go : (b : Bool) → o.takes ≡ b
            → Counted (ReadsAll rules (ReadsValue rules) (inner nodes o) (own o)) NoCount
        go true e =
            count_of_takes rules (ReadsValue rules) (inner nodes o) (own o) NoCount
            (rest_is_known e)
            (subst
            (λ (x : Object). Counted (ReadsList rules (ReadsValue rules) x (own o)) NoCount)
            (ap (λ b. with_takes (inner nodes o) (own o) b) e) (none e))
        go false e =
            let neither = not_one_and o.list.now.takes_rest o.has_unknown (sym can ∙ e) in
            let u = h.unknown.0 neither.1 in
            count_of_untaken rules (ReadsValue rules) (inner nodes o) (own o)
            (record { name = u.name; has = u.has; unknown = u.unknown })
            (λ k.
            let is : o.list.now.takes_rest ≡ true =
            ((tables.lists h.index o.list.now h.listed).known rest).1 k in
            let isnt : o.list.now.takes_rest ≡ false = neither.0 in absurd (cc))

  -- where a lenient reader reads no such object whole, its readings without its members of no known
  -- name are all that it has
  pub ignoring_taken : t.strict ≡ false → is_object (value_of nodes o.node) ≡ true
      → Counted (ReadsAll (rules_at t) (ReadsValue (rules_at t)) (inner nodes o) (own o)) NoCount
      → (n : Count) → (n ≡ NoCount → ⊥) → IsListCount t nodes (ignoring_object o) o.list.now n
      → IsTakenList t nodes (ignoring_object o) (own o)
  ignoring_taken lenient is none n some counted =
      let rules = rules_at t in
      let reads = ReadsValue rules in
      let r = some_counted (ReadsList rules reads (ignoring (inner nodes o) (own o)) (own o)) n some
      counted in
      own_taken t tables nodes (ignoring_object o) is
      (λ c. ignoring_reads rules reads (inner nodes o) (own o) lenient none c) r.0 r.1
