-- Parts whose choices all go through one list, and lists of which no object is read by a part.
use Rattle.std.proofs.Common.{◌≡◌, ap, subst, inl, ℕ, zero, suc, ◌<◌, List, [], ◌∷◌, Some, length, slice_get, arith}
use Rattle.facet_solver_reader.specs.declared.count.Count.TheVariants.{None as NoReading}
use Rattle.facet_solver_reader.specs.declared.nodes.Nodes.{Nodes}
use Rattle.facet_solver_reader.specs.declared.count.object.Object as code
use Rattle.facet_solver_reader.specs.declared.tables.List.{List as ListEntry}
use Rattle.facet_solver_reader.specs.declared.tables.Tables.{Tables}
use Rattle.facet_solver_reader.specs.Branches.{ReadsBelow, ReadsList, ReadsPart}
use Rattle.facet_solver_reader.specs.Choices.{Choice, ChoiceAt, lacking, having, without, choosing, taking}
use Rattle.facet_solver_reader.specs.Objects.{Object, Reads}
use Rattle.facet_solver_reader.specs.OnlyBranch.{IsOnlyBranch}
use Rattle.facet_solver_reader.specs.Parts.{ListId, Part, Selection, a_selection}
use Rattle.facet_solver_reader.specs.Reading.{IsListed, object_view}
use Rattle.facet_solver_reader.specs.Readings.{ReadsValue}
use Rattle.facet_solver_reader.specs.Rules.{Rules}
use Rattle.facet_solver_reader.specs.Tables.{AreTables, ListIsServed, PartIsServed, rules_at}
use Rattle.facet_solver_reader.specs.Views.{list_view, parts_view}
use Rattle.facet_solver_reader.proofs.Alone.{branch_reads}
use Rattle.facet_solver_reader.proofs.CountingLists.{none_by_parts}
use Rattle.facet_solver_reader.proofs.Distinct.{distinct_parts}
use Rattle.facet_solver_reader.proofs.Lists.{count_of_list}
use Rattle.facet_solver_reader.proofs.Quantifiers.{all_at}
use Rattle.facet_solver_reader.proofs.Selections.{by_branches}

-- what stands in a list of one
only_at : (ids : List ListId) (id : ListId) → ids ≡ id ∷ [] → (j : ℕ) → j < length ids
    → slice_get ids j ≡ Some id
only_at ids id e zero within = ap (λ (xs : List ListId). slice_get xs 0) e
only_at ids id e (suc j) within =
    let one : length ids ≡ 1 = ap length e in absurd (omega (arith, within, one))

-- the only list of a part has its index in the tables, if the part's lists have
pub only_served : (t : Tables) (p : Part) (id : ListId) → IsOnlyBranch p id → PartIsServed t p
    → ListIsServed t id
only_served t p id only served =
    let ids = only.selection.branches in
    all_at (ListIsServed t) ids 0 id (subst (PartIsServed t) only.part_is served)
    (only_at ids id only.branches_are 0
    (let one : length ids ≡ 1 = ap length only.branches_are in omega (arith, one)))

module _ (rules : Rules) (reads : Reads) (object : Object) where
  -- no object is read by a part that is not read by its only list
  pub none_by_only : (p : Part) (id : ListId) → IsOnlyBranch p id
      → ((d : Choice) → ReadsList rules reads object id d → ⊥)
      → (a : ChoiceAt) → ReadsPart rules reads object p a → ⊥
  none_by_only p id only none a r =
      let of_selection = subst (λ x. ReadsPart rules reads object x a) only.part_is r in
      go a of_selection (by_branches rules reads object s (inl only.present) a of_selection)
    where
      s : Selection
      s = only.selection

      go : (a : ChoiceAt) → ReadsPart rules reads object (a_selection s) a
          → ReadsBelow (ReadsPart rules reads object (a_selection s)) (length s.branches) a → ⊥
      go lacking q w = w
      go (having v) q w = w
      go without q w = w
      go (taking v) q w = w
      go (choosing j c) q w =
          let of_list = branch_reads rules reads object s j c id
          (only_at s.branches id only.branches_are j w.0) q in
          none of_list.0 of_list.1

-- no object is read by a list of which it is not read by a part
pub none_by_part : (t : Tables) (nodes : Nodes) (o : code.Object) → AreTables t → (l : ListEntry)
    → IsListed t l → (k : ℕ) (p : Part) → slice_get (parts_view l.parts.items) k ≡ Some p
    → ((a : ChoiceAt)
    → ReadsPart (rules_at t) (ReadsValue (rules_at t)) (object_view nodes o) p a → ⊥)
    → (c : Choice)
    → ReadsList (rules_at t) (ReadsValue (rules_at t)) (object_view nodes o) (list_view l.id) c → ⊥
none_by_part t nodes o tables l at k p here none =
    let rules = rules_at t in
    let object = object_view nodes o in
    let ps = parts_view l.parts.items in
    let is = tables.lists at.index l at.listed in
    let distinct = distinct_parts rules.lists (list_view l.id) ps is.same is.chosen is.distinct in
    count_of_list rules (ReadsValue rules) object (list_view l.id) ps NoReading is.same
    (none_by_parts rules (ReadsValue rules) object ps k p distinct here none)
