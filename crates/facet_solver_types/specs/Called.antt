-- What a declaration is called.
use Rattle.std.specs.Prelude.{ℕ, ◌==◌, ◌&&◌, nat_lt, count_by, if◌then◌else◌, List, [], ◌∷◌, Option, Some, None, option_map}
use Rattle.facet_solver_shape.specs.Names.{Name}
use Rattle.facet_solver_types.specs.declared.typing.called.Called as declared
use Rattle.facet_solver_types.specs.Meant.{is_in}
use Rattle.facet_solver_types.specs.Scopes.{str_view}
use Rattle.facet_solver_types.specs.Understood.{Declaration}

-- what a declaration is called: its name, and, where that is to be told, the name of its module,
-- with how many others are told by that module before it
pub record Called : Type 0 where
  pub module_name : Option Name
  pub number : ℕ
  pub name : Name

-- what is seen of it
abbrev pub called_view : declared.Called → Called
called_view c = record {
  module_name = option_map str_view c.module_name;
  number = c.number;
  name = c.name.now;
}

-- a declaration by its name alone
abbrev pub by_name : Declaration → Called
by_name d = record { module_name = None; number = 0; name = d.name.text }

-- how many of some declarations stand in a module before an index
abbrev pub count_before : List Declaration → Name → List ℕ → ℕ → ℕ
count_before declarations module_name indices index =
    count_by (λ other. nat_lt other index && is_in declarations module_name other) indices

-- a declaration by its name in its module, behind so many
abbrev pub by_module : ℕ → Declaration → Called
by_module number d =
    record { module_name = Some d.site.module_name; number = number; name = d.name.text }

-- what the declaration at an index is called, where those at some indices have its name: the first
-- of them by that name alone
abbrev pub called_among : List Declaration → List ℕ → ℕ → Declaration → Called
called_among declarations [] index d = by_name d
called_among declarations (first ∷ others) index d =
    if first == index then by_name d
    else by_module (count_before declarations d.site.module_name others index) d
