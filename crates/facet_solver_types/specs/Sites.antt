-- Where items stand.
use Rattle.std.specs.Prelude.{ℕ, ◌==◌, ◌&&◌, Bool, true, false, [], Option, Some, None}
use Rattle.facet_solver_shape.specs.Names.{Name, name_eq}
use Rattle.facet_solver_types.specs.declared.site.Site as declared

-- where an item stands: the name of the innermost module around it, or nothing where it stands in
-- none, and where the brace stands that opens its block, if it stands in one of a function
pub record Site : Type 0 where
  pub module_name : Name
  pub block : Option ℕ

-- what is seen of it
abbrev pub site_view : declared.Site → Site
site_view site = record { module_name = site.module_name.now; block = site.block }

-- in no module, and in no block
abbrev pub top : Site
top = record { module_name = []; block = None }

-- whether two items stand in one block, or both in none
abbrev pub same_block : Option ℕ → Option ℕ → Bool
same_block (Some one) (Some other) = one == other
same_block None None = true
same_block one other = false

-- whether two items stand in one module and in one block, or both in none
abbrev pub same_site : Site → Site → Bool
same_site one other =
    name_eq one.module_name other.module_name && same_block one.block other.block
