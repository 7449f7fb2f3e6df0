-- Which names selections have in memory.
use Rattle.std.specs.Prelude.{◌↔◌, ⊤, Bool, IsSorted, IsTrue, List}
use Rattle.std.specs.List.{list_any}
use Rattle.std.specs.Str.{bytes_eq}
use Rattle.facet_solver_shape.specs.Names.{Name, name_ref_cmp}
use Rattle.facet_solver_reader.specs.declared.part.Part as code_part
use Rattle.facet_solver_reader.specs.declared.part.Selection.{Selection}
use Rattle.facet_solver_reader.specs.Documents.{Member}
use Rattle.facet_solver_reader.specs.Known.{IsKnownIn, named}
use Rattle.facet_solver_reader.specs.Objects.{HasNamed}
use Rattle.facet_solver_reader.specs.Parts.{Lists}
use Rattle.facet_solver_reader.specs.Views.{selection_view}

-- whether a selection has the name
abbrev pub has_known : Selection → Name → Bool
has_known s x = list_any (λ n. bytes_eq n.now x) s.names.items

-- a selection has the names of its branches' choices, rising
pub record HasBranchNames (lists : Lists) (s : Selection) : Type 0 where
  pub sorted : IsSorted name_ref_cmp s.names.items
  pub known : (x : Name) → IsTrue (has_known s x) ↔ IsKnownIn lists (selection_view s) (named x)

-- so has a part, if it is a selection
abbrev pub PartHasBranchNames : Lists → code_part.Part → Type 0
PartHasBranchNames lists (code_part.TheVariants.Selection s) = HasBranchNames lists s
PartHasBranchNames lists _ = ⊤

-- an object has a member whose name a selection has
pub record KnowsMember (s : Selection) (members : List Member) : Type 0 where
  pub name : Name
  pub has : HasNamed members name
  pub known : IsTrue (has_known s name)
