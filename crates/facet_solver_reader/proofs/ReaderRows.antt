-- Which types have a reader, and why others have none: the definitions, row by row.
use Rattle.std.proofs.Common.{◌≡◌, ◌≤◌, ℕ, zero, suc, Bool, true, false, List, [], ◌∷◌, Any, Option, Some, None, length, refl, sym, ap, subst, ◌∙◌, inl, inr, arith, codes}
use Rattle.std.proofs.lemmas.Bool.{false≢true}
use Rattle.facet_solver_shape.specs.Catalogues.{Catalogue}
use Rattle.facet_solver_shape.specs.declared.shape.ShapeKind.TheVariants as kinds
use Rattle.facet_solver_shape.proofs.FewValues.{some, which}
use Rattle.facet_solver_shape.proofs.Samples.{field, flat_field, number, shape, struct_of}
use Rattle.facet_solver_reader.specs.Asking.{ComesTo}
use Rattle.facet_solver_reader.specs.Choices.{done, member_of, next, without}
use Rattle.facet_solver_reader.specs.Ends.{IsLastOf, LeadsInCircles, next_after, next_at}
use Rattle.facet_solver_reader.specs.EveryList.{IsChosen}
use Rattle.facet_solver_reader.specs.Known.{named}
use Rattle.facet_solver_reader.specs.Met.{IsMet, ShapeIsMet}
use Rattle.facet_solver_reader.specs.NoTables.{IsReadWithoutEnd, IsWhyNoTables}
use Rattle.facet_solver_reader.specs.OrderedLists.{ComesIn, GoesOn, HasBranch, IsBranchOf, IsTwiceIn, IsWhyUnordered}
use Rattle.facet_solver_reader.specs.Parts.{ListId, Part, Selection, a_member, a_selection, of_shape, of_struct}
use Rattle.facet_solver_reader.specs.Ranked.{AsksWithoutEnd}
use Rattle.facet_solver_reader.specs.Readers.{IsFaulty, IsReaderOf, IsRefused, IsSaidOf}
use Rattle.facet_solver_reader.specs.Types.{parts_of, rules_of}
use Rattle.facet_solver_reader.specs.declared.reader.Unknown.TheVariants.{Ignored, Refused}
use Rattle.facet_solver_reader.specs.declared.reader.error.TypeError.TheVariants as types
use Rattle.facet_solver_reader.specs.declared.tables.fault.Fault.{Fault}
use Rattle.facet_solver_reader.specs.declared.tables.fault.Fault.TheVariants as faults
use Rattle.facet_solver_reader.proofs.ItemRows.{repeating, repeats_fails, repeats_holds}
use Rattle.facet_solver_reader.proofs.SampleTypes.{part_a, shapes}

-- a reader is of its catalogue, its root, and what it does with members that nothing takes
pub reader_rows :
    IsReaderOf shapes 1 Refused (record { shapes = shapes; root = 1; strict = true })
    × IsReaderOf shapes 1 Ignored (record { shapes = shapes; root = 1; strict = false })
    × (¬ (IsReaderOf shapes 1 Ignored (record { shapes = shapes; root = 1; strict = true })))
    × (¬ (IsReaderOf shapes 1 Refused (record { shapes = shapes; root = 0; strict = true })))
reader_rows = (
  refl,
  refl,
  λ is. false≢true (sym (ap (λ r. r.strict) is)),
  λ is. let root = ap (λ r. r.root) is in omega (arith, root),
)

-- a pointer to itself
abbrev circle : Catalogue
circle = shape (codes "P") (kinds.Pointer (Some 0)) ∷ []

-- each number of steps leads from it to itself
stays : (n : ℕ) → next_after circle n 0 ≡ Some 0
stays zero = refl
stays (suc n) = stays n

-- so it leads in circles, and a number doesn't
pub circle_rows : LeadsInCircles circle 0 × (¬ (LeadsInCircles shapes 0))
circle_rows = (
  λ last h. circles last (sym (stays h.steps) ∙ h.reached) h.ends,
  λ leads. leads 0 (record { steps = 0; reached = refl; ends = refl }),
)
  where
    circles : (last : ℕ) → Some 0 ≡ Some last → ¬ (next_at circle last ≡ None)
    circles zero is ends = cc
    circles (suc n) is ends = cc

-- a number asks nothing
pub asks_fails : ¬ (AsksWithoutEnd shapes 0)
asks_fails asks = which _ [] (asks false 1).1.asks

-- the pointer is read without end, and the number is not
pub without_end_rows : IsReadWithoutEnd circle 0 × (¬ (IsReadWithoutEnd shapes 0))
without_end_rows =
    (inl circle_rows.0, λ h. elim h [ inl leads ↦ circle_rows.1 leads | inr asks ↦ asks_fails asks ])

-- a root past the last shape, one that is read without end, and refused memory; not a root that is
-- there
pub no_tables_rows :
    IsWhyNoTables shapes 3 (faults.NoShape 3)
    × IsWhyNoTables circle 0 (faults.ReadsItself 0)
    × IsWhyNoTables shapes 1 faults.OutOfMemory
    × (¬ (IsWhyNoTables shapes 1 (faults.NoShape 1)))
    × (¬ (IsWhyNoTables shapes 3 (faults.NoShape 1)))
    × (¬ (IsWhyNoTables shapes 0 (faults.ReadsItself 0)))
no_tables_rows = (
  (refl, omega arith),
  (without_end_rows.0, λ strict. (0, refl)),
  (tt, tt),
  λ h. let past = h.1 in omega (arith, past),
  λ h. let same = h.0 in omega (arith, same),
  λ h. without_end_rows.1 h.0,
)

-- a refusal tells the fault, and out of memory may come at any time
pub refused_rows :
    IsRefused shapes 1 types.OutOfMemory
    × IsRefused shapes 3 (types.NoShape 3)
    × ((id : ℕ) → ¬ (IsRefused shapes 1 (types.NoShape id)))
refused_rows = (
  tt,
  record { fault = faults.NoShape 3; present = no_tables_rows.0; said = refl },
  λ id h. go id h.fault h.present h.said,
)
  where
    go : (id : ℕ) (fault : Fault) → IsWhyNoTables shapes 1 fault → ¬ (IsSaidOf shapes fault (types.NoShape id))
    go id (faults.NoShape s) present said = let past = present.1 in omega (arith, past)
    go id (faults.ReadsItself s) present said = said
    go id (faults.ContainsItself list) present said = said
    go id (faults.NameTwice list name first second) present said = said
    go id (faults.TwoCatchAlls list first second) present said = said
    go id faults.OutOfMemory present said = said

-- 0 is an option of 1, a struct into which it is flattened
abbrev nested : Catalogue
nested =
    shape (codes "O") (kinds.Option 1) ∷ struct_of (flat_field (codes "f") 0 ∷ []) ∷ []

-- the block of itself
abbrev block : Selection
block = record { optional = true; branches = of_struct 1 ∷ [] }

-- without it the struct has a choice
nested_chosen : IsChosen nested (of_struct 1)
nested_chosen = record {
  choice = next without done;
  items = [];
  chooses = record {
    parts = a_selection block ∷ [];
    parts_are = refl;
    chooses = record {
      first = [];
      second = [];
      chooses_first = (refl, refl);
      chooses_second = refl;
      items_are = refl;
    };
  };
}

-- so its parts contain themselves
nested_branch : HasBranch nested (of_struct 1) (of_struct 1)
nested_branch = record {
  parts = a_selection block ∷ [];
  parts_are = refl;
  is_branch = some (IsBranchOf (of_struct 1)) (a_selection block ∷ []) (inl (some (λ b. b ≡ of_struct 1) (of_struct 1 ∷ []) (inl refl)));
  chosen = nested_chosen;
}

goes_on : (n : ℕ) → (last : ListId) × ComesIn n nested (of_struct 1) last
goes_on zero = (of_struct 1, refl)
goes_on (suc n) = let rest = goes_on n in (rest.0, (of_struct 1, nested_branch, rest.1))

-- a struct that contains itself goes on, and one with a field of a number does not
pub goes_on_rows : GoesOn nested (of_struct 1) × (¬ (GoesOn shapes (of_struct 1)))
goes_on_rows = (goes_on, λ on. let h = (on 1).1 in fails h.0 h.1)
  where
    fails : (branch : ListId) → ¬ (HasBranch shapes (of_struct 1) branch)
    fails branch h =
        let parts = ap (λ o. elim o [ None ↦ [] | Some ps ↦ ps ]) h.parts_are in
        elim (which (IsBranchOf branch) (a_member part_a ∷ []) (subst (Any (IsBranchOf branch)) (sym parts) h.is_branch)) [
          | inl none ↦ none
          | inr none ↦ none
        ]

-- a name that a choice has twice, and none
pub twice_in_rows :
    IsTwiceIn repeating (of_struct 2) (named (codes "a")) × (¬ (IsTwiceIn shapes (of_struct 1) (named (codes "a"))))
twice_in_rows = (repeats_holds, repeats_fails (named (codes "a")))
