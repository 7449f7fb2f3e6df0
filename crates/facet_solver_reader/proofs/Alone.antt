-- The branch by which alone an object can be read.
use Rattle.std.proofs.Common.{◌≡◌, ◌≢◌, ap, sym, subst, refl, ℕ, ◌+◌, ◌<◌, true, false, Option}
use Rattle.std.proofs.Common.{Some, None, ◌≤◌, arith, length, slice_get, ⊎_elim}
use Rattle.std.proofs.lemmas.Option.{slice_get_within}
use Rattle.std.specs.Prelude.{IfSome, IsTrue, is_some}
use Rattle.std.specs.List.{list_any}
use Rattle.facet_solver_reader.specs.declared.count.Count.TheVariants.{None as NoReading}
use Rattle.facet_solver_reader.specs.declared.nodes.Nodes.{Nodes}
use Rattle.facet_solver_reader.specs.declared.count.object.Object as code
use Rattle.facet_solver_reader.specs.declared.tables.List.{List as ListEntry}
use Rattle.facet_solver_reader.specs.declared.tables.Tables.{Tables}
use Rattle.std.proofs.Math.Dec.{eqb}
use Rattle.std.proofs.lemmas.Bool.Decides.{eqb_tells}
use Rattle.facet_solver_reader.specs.Branches.{CanBePresent, ReadsBelow, ReadsList, ReadsPart}
use Rattle.facet_solver_reader.specs.Choices.{Choice, ChoiceAt, lacking, having, without, choosing}
use Rattle.facet_solver_reader.specs.Choices.{taking}
use Rattle.facet_solver_reader.specs.Objects.{Object, Reads}
use Rattle.facet_solver_reader.specs.Parts.{ListId, Selection, a_selection}
use Rattle.facet_solver_reader.specs.Nodes.{members_in, value_of}
use Rattle.facet_solver_reader.specs.Reading.{fails_at_once, object_view}
use Rattle.facet_solver_reader.specs.Readings.{ReadsValue}
use Rattle.facet_solver_reader.specs.Rules.{Rules}
use Rattle.facet_solver_reader.specs.Tables.{AreTables, rules_at}
use Rattle.facet_solver_reader.specs.Views.{list_view, part_view, parts_view}
use Rattle.facet_solver_reader.proofs.ChosenBranch.{can_be_present, fits_where_read}
use Rattle.facet_solver_reader.proofs.CountingLists.{none_where_fails}
use Rattle.facet_solver_reader.proofs.Distinct.{distinct_parts}
use Rattle.facet_solver_reader.proofs.Lists.{count_of_list}
use Rattle.facet_solver_reader.proofs.Selections.{at_branch, by_branches}

-- what is not something is nothing
pub is_none : (o : Option ℕ) → is_some o ≡ false → o ≡ None
is_none None e = refl
is_none (Some k) e = absurd (cc)

-- no object is read by a list of which some part fails at once
pub none_by_list : (t : Tables) (nodes : Nodes) (o : code.Object) → AreTables t → (index : ℕ)
    (l : ListEntry) → slice_get t.lists.items index ≡ Some l
    → IsTrue
    (list_any (λ part. fails_at_once (members_in (value_of nodes o.node)) (part_view part))
    l.parts.items)
    → (c : Choice)
    → ReadsList (rules_at t) (ReadsValue (rules_at t)) (object_view nodes o) (list_view l.id) c → ⊥
none_by_list t nodes o tables index l at some =
    let rules = rules_at t in
    let object = object_view nodes o in
    let ps = parts_view l.parts.items in
    let is = tables.lists index l at in
    let distinct = distinct_parts rules.lists (list_view l.id) ps is.same is.chosen is.distinct in
    count_of_list rules (ReadsValue rules) object (list_view l.id) ps NoReading is.same
    (none_where_fails rules object l.parts.items some distinct)

module _ (rules : Rules) (reads : Reads) (object : Object) (s : Selection) where
  -- a reading by a branch is one of its list
  pub branch_reads : (k : ℕ) (c : Choice) (id : ListId) → slice_get s.branches k ≡ Some id
      → ReadsPart rules reads object (a_selection s) (choosing k c)
      → (d : Choice) × ReadsList rules reads object id d
  branch_reads k c id e r =
      let images = at_branch rules reads object s k id e
      (fits_where_read rules reads object s k c r id e)
      (can_be_present rules reads object s k c r) in
      let f = images.out (choosing k c) (refl, r) in
      (f.0, f.1)

  -- where there is a reading of a selection that can be present, and none by a branch but one,
  -- there is one by that
  pub read_alone : CanBePresent rules object s → (k : ℕ)
      → ((j : ℕ) (c : Choice) → ReadsPart rules reads object (a_selection s) (choosing j c) → j ≡ k)
      → (z : ChoiceAt) → ReadsPart rules reads object (a_selection s) z
      → (c : Choice) × ReadsPart rules reads object (a_selection s) (choosing k c)
  read_alone present k alone z r = go z r (by_branches rules reads object s present z r)
    where
      go : (a : ChoiceAt) → ReadsPart rules reads object (a_selection s) a
          → ReadsBelow (ReadsPart rules reads object (a_selection s)) (length s.branches) a
          → (c : Choice) × ReadsPart rules reads object (a_selection s) (choosing k c)
      go lacking q w = absurd w
      go (having v) q w = absurd w
      go without q w = absurd w
      go (taking t) q w = absurd w
      go (choosing j c) q w = (
        c,
        subst (λ i. ReadsPart rules reads object (a_selection s) (choosing i c)) (alone j c q) q,
      )

  -- of the first branches no other than the one that was found reads the object
  abbrev pub AreAlone : Option ℕ → ℕ → Type 0
  AreAlone found n =
      (j : ℕ) (c : Choice) → j < n
      → ReadsPart rules reads object (a_selection s) (choosing j c) → found ≡ Some j

  -- the same of one more, which does not
  pub alone_more : (found : Option ℕ) (n : ℕ) (id : ListId) → slice_get s.branches n ≡ Some id
      → ((d : Choice) → ReadsList rules reads object id d → ⊥)
      → AreAlone found n → AreAlone found (n + 1)
  alone_more found n id at fails before j c below r =
      ⊎_elim
      (λ (p : (eqb j n ≡ true) × (j ≡ n)).
      let here = subst
      (λ i. ReadsPart rules reads object (a_selection s) (choosing i c)) p.1 r in
      let of_list = branch_reads n c id at here in
      absurd (fails of_list.0 of_list.1))
      (λ (p : (eqb j n ≡ false) × (j ≢ n)). before j c (omega (arith, below, p.1)) r)
      (eqb_tells j n)

  -- and where there was none, it is found
  pub alone_here : (n : ℕ) → AreAlone None n → AreAlone (Some n) (n + 1)
  alone_here n before j c below r =
      ⊎_elim (λ (p : (eqb j n ≡ true) × (j ≡ n)). ap (λ i. Some i) (sym p.1))
      (λ (p : (eqb j n ≡ false) × (j ≢ n)).
      let no : None ≡ Some j = before j c (omega (arith, below, p.1)) r in absurd (cc))
      (eqb_tells j n)

  -- where there are no more, it is the only one
  pub alone_found : (found : Option ℕ) (n : ℕ) → length s.branches ≤ n → AreAlone found n
      → IfSome found
      (λ k. (j : ℕ) (c : Choice) → ReadsPart rules reads object (a_selection s) (choosing j c)
      → j ≡ k)
  alone_found None n past alone = tt
  alone_found (Some k) n past alone = λ j c r.
      let b = r.chooses.chooses in
      let within = slice_get_within s.branches j b.list b.branch_is in
      let same : Some k ≡ Some j = alone j c (omega (arith, past, within)) r in
      cc
