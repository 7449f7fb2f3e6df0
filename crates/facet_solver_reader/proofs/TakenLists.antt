-- The lists and the branches that readings of an object take.
use Rattle.std.proofs.Common.{◌≡◌, inl, inr, sym, ap, subst, ℕ, zero, suc, List, [], ◌∷◌, Some}
use Rattle.std.proofs.Common.{slice_get, refl, true, arith}
use Rattle.std.proofs.lemmas.Option.{slice_get_within}
use Rattle.std.specs.Option.{unwrap_or}
use Rattle.facet_solver_reader.specs.declared.nodes.Nodes.{Nodes}
use Rattle.facet_solver_reader.specs.declared.count.object.Object as code
use Rattle.facet_solver_reader.specs.declared.tables.Tables.{Tables}
use Rattle.facet_solver_reader.specs.Blaming.{IsTakenList, IsTakenPart}
use Rattle.facet_solver_reader.specs.Branches.{IsReadByList, ReadsList, ReadsPart, ReadsParts}
use Rattle.facet_solver_reader.specs.Choices.{Choice, ChoiceAt, next, choosing}
use Rattle.facet_solver_reader.specs.Kinds.{is_object}
use Rattle.facet_solver_reader.specs.Known.{ChoosesAll, ChoosesAt, HasChoice, IsDistinct}
use Rattle.facet_solver_reader.specs.Nodes.{value_of}
use Rattle.facet_solver_reader.specs.Objects.{Object, Reads}
use Rattle.facet_solver_reader.specs.Parts.{ListId, Part, Selection, a_selection}
use Rattle.facet_solver_reader.specs.Reading.{object_view}
use Rattle.facet_solver_reader.specs.Readings.{ReadsValue}
use Rattle.facet_solver_reader.specs.Rules.{Rules}
use Rattle.facet_solver_reader.specs.Tables.{AreTables, rules_at}
use Rattle.facet_solver_reader.specs.TakenBranches.{TakesBranch, TakesBranchAt, parts_in}
use Rattle.facet_solver_reader.specs.Views.{list_view, parts_view}
use Rattle.facet_solver_reader.specs.Why.{IsReadByBranch}
use Rattle.facet_solver_reader.proofs.ChosenBranch.{can_be_present, fits_where_read}
use Rattle.facet_solver_reader.proofs.Distinct.{distinct_rest}
use Rattle.facet_solver_reader.proofs.Lists.{distinct_of_list, readings_of_list}
use Rattle.facet_solver_reader.proofs.Products.{readings_join}
use Rattle.facet_solver_reader.proofs.Selections.{at_branch, list_reads}

module _ (rules : Rules) (reads : Reads) (object : Object) (p : Part) (a : ChoiceAt)
    (r : ReadsPart rules reads object p a) where
  -- a reading by parts that is read at one of them as chosen
  pub record IsReadSo (ps : List Part) : Type 0 where
    pub choice : Choice
    pub has : ReadsParts rules reads object ps choice
    pub takes : (id : ListId) → TakesBranchAt rules.lists a p id
        → TakesBranch rules.lists choice ps id

  -- in a reading by parts each part can be read as it can be alone
  pub read_so : (ps : List Part) (i : ℕ) → slice_get ps i ≡ Some p
      → IsDistinct (ChoosesAll rules.lists ps) → (c : Choice) → ReadsParts rules reads object ps c
      → IsReadSo ps
  read_so [] i at distinct c w =
      let within = slice_get_within [] i p at in absurd (omega (arith, within))
  read_so (q ∷ ps) zero at distinct c w =
      let both = readings_join rules reads object q ps distinct in
      let b = both.part c w in
      let same : p ≡ q = cc in
      record {
        choice = next a b.second;
        has = both.into a b.second (subst (λ x. ReadsPart rules reads object x a) same r)
            b.has_second;
        takes = λ id t. inl (subst (λ x. TakesBranchAt rules.lists a x id) same t);
      }
  read_so (q ∷ ps) (suc i) at distinct c w =
      let both = readings_join rules reads object q ps distinct in
      let b = both.part c w in
      let first : HasChoice (ChoosesAt rules.lists q) =
      record { choice = b.first; items = b.has_first.items; chooses = b.has_first.chooses } in
      let others = read_so ps i at (distinct_rest rules.lists q ps distinct first) b.second
      b.has_second in
      record {
        choice = next b.first others.choice;
        has = both.into b.first others.choice b.has_first others.has;
        takes = λ id t. inr (others.takes id t);
      }

module _ (t : Tables) (tables : AreTables t) (nodes : Nodes) (o : code.Object) where
  -- the object's own list, if it has a reading by that and its readings by it are all that it has
  pub own_taken : is_object (value_of nodes o.node) ≡ true
      → IsReadByList (rules_at t) (ReadsValue (rules_at t)) (object_view nodes o)
      → (c : Choice)
      → ReadsList (rules_at t) (ReadsValue (rules_at t)) (object_view nodes o)
      (list_view o.list.now.id) c
      → IsTakenList t nodes o (list_view o.list.now.id)
  own_taken is by c r =
      record {
        choice = c;
        reads = r;
        within = λ d branch w takes.
            record {
              is_object = is;
              list = list_view o.list.now.id;
              choice = d;
              reads = (by d).0 w;
              takes = takes;
            };
      }

  module _ (s : Selection) (part : IsTakenPart t nodes o (a_selection s)) (k : ℕ) where
    -- a reading by the selection
    abbrev R : ChoiceAt → Type 0
    R = ReadsPart (rules_at t) (ReadsValue (rules_at t)) (object_view nodes o) (a_selection s)

    -- what the choice at the selection takes reads the value
    taken_at : (c : Choice) → R (choosing k c) → (id : ListId)
        → TakesBranchAt (rules_at t).lists (choosing k c) (a_selection s) id
        → IsReadByBranch (rules_at t) (value_of nodes o.node) id
    taken_at c r id takes =
        let rules = rules_at t in
        let reads = ReadsValue rules in
        let object = object_view nodes o in
        let list = list_view part.list.id in
        let ps = parts_view part.list.parts.items in
        let entry = tables.lists part.listed.index part.list part.listed.listed in
        let distinct = (distinct_of_list rules.lists list ps entry.same).1 entry.distinct in
        let of = readings_of_list rules reads object list ps entry.same in
        let so = read_so rules reads object (a_selection s) (choosing k c) r ps part.part.0
        part.part.1 distinct part.taken.choice ((of part.taken.choice).1 part.taken.reads) in
        let same : parts_in rules.lists list ≡ ps = ap (λ o. unwrap_or o []) entry.same in
        part.taken.within so.choice id ((of so.choice).0 so.has)
        (subst (λ qs. TakesBranch rules.lists so.choice qs id) (sym same) (so.takes id takes))

    module _ (c : Choice) (r : R (choosing k c)) (id : ListId)
        (e : slice_get s.branches k ≡ Some id) where
      -- the list of the branch that is chosen is taken
      pub branch_taken : IsTakenList t nodes o id
      branch_taken =
          let rules = rules_at t in
          let reads = ReadsValue rules in
          let object = object_view nodes o in
          let images = at_branch rules reads object s k id e
          (fits_where_read rules reads object s k c r id e)
          (can_be_present rules reads object s k c r) in
          record {
            choice = c;
            reads = list_reads rules reads object s k id e k c (refl, r);
            within = λ d branch w takes.
                taken_at d (images.into d w).1 branch
                (record { list = id; branch_is = e; chooses = inr takes });
          }

      -- and the branch reads the value
      pub branch_reads : IsReadByBranch (rules_at t) (value_of nodes o.node) id
      branch_reads =
          taken_at c r id (record { list = id; branch_is = e; chooses = inl refl })
