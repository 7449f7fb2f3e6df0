-- The selections among the parts of a list of the tables have their names.
use Rattle.std.proofs.Common.{◌≡◌, ◌<◌, ◌∙◌, sym, ap, ℕ, List, Some, get_or, length, slice_get}
use Rattle.std.proofs.lemmas.Option.{slice_get-get_or}
use Rattle.facet_solver_reader.specs.declared.part.Part.{Part}
use Rattle.facet_solver_reader.specs.declared.tables.List.{List as ListEntry}
use Rattle.facet_solver_reader.specs.declared.tables.Tables.{Tables}
use Rattle.facet_solver_reader.specs.Reading.{IsListed}
use Rattle.facet_solver_reader.specs.SelectionNames.{PartHasBranchNames}
use Rattle.facet_solver_reader.specs.Tables.{AreTables, rules_at}
use Rattle.facet_solver_reader.proofs.Quantifiers.{all_at}

module _ (t : Tables) (tables : AreTables t) (l : ListEntry) (listed : IsListed t l) where
  -- the part at an index
  pub part_named_at : (i : ℕ) (p : Part) → slice_get l.parts.items i ≡ Some p
      → PartHasBranchNames (rules_at t).lists p
  part_named_at i p at =
      all_at (PartHasBranchNames (rules_at t).lists) l.parts.items i p
      (tables.lists listed.index l listed.listed).named at

  -- the part at which a loop over them stands
  pub part_named : (seen : List Part) → seen ≡ l.parts.items → (i : ℕ) (p : Part)
      → i < length seen → p ≡ get_or seen i p → PartHasBranchNames (rules_at t).lists p
  part_named seen same i p within is =
      part_named_at i p
      (sym (ap (λ (ps : List Part). slice_get ps i) same)
      ∙ (slice_get-get_or seen i p within ∙ ap Some (sym is)))
