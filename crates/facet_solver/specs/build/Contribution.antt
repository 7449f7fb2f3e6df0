-- What the walk of a struct's fields contributes where they are flattened: catch-alls alone,
-- emissions alone, or choices. Only private contracts and proofs speak of it.
use Rattle.std.specs.Prelude.{◌≡◌, ⊤, ℕ, Bool, true, false, ◌||◌, List, [], ◌∷◌, Some, get_or, slice_get, if◌then◌else◌}
use Rattle.facet_solver_shape.specs.declared.resolution.key.FieldCategory.{FieldCategory}
use Rattle.facet_solver_shape.specs.declared.resolution.key.FieldCategory.TheVariants.{Flat, Attribute, Element}
use Rattle.facet_solver_shape.specs.declared.shape.Field.{Field}
use Rattle.facet_solver_shape.specs.declared.shape.ShapeKind.{ShapeKind}
use Rattle.facet_solver_shape.specs.declared.shape.ShapeKind.TheVariants.{Struct}
use Rattle.facet_solver.specs.declared.build.contribution.Contribution.{Contribution}
use Rattle.facet_solver.specs.declared.build.contribution.Contribution.TheVariants.{CatchAlls, Emissions, Choices}
use Rattle.facet_solver.specs.declared.build.contribution.categories.Categories.{Categories}
use Rattle.facet_solver.specs.declared.build.format.Format.{Format}
use Rattle.facet_solver.specs.build.Build.{Build, kind_at}
use Rattle.facet_solver.specs.build.Format.{catch_all_category}
use Rattle.facet_solver_shape.specs.Roles.{Role, alternatives, block, catch_all, leaf, regular, role_of}

-- no category
abbrev pub none : Categories
none = record { flat = false; attribute = false; element = false }

-- one category of catch-alls alone
abbrev pub only : FieldCategory → Categories
only Flat = record { flat = true; attribute = false; element = false }
only Attribute = record { flat = false; attribute = true; element = false }
only Element = record { flat = false; attribute = false; element = true }
only _ = none

-- the categories of both
abbrev pub union : Categories → Categories → Categories
union a b = record {
  flat = a.flat || b.flat;
  attribute = a.attribute || b.attribute;
  element = a.element || b.element;
}

-- whether a category is among some
abbrev pub has : Categories → FieldCategory → Bool
has a Flat = a.flat
has a Attribute = a.attribute
has a Element = a.element
has a _ = false

-- what both contribute
abbrev pub both : Contribution → Contribution → Contribution
both (CatchAlls a) (CatchAlls b) = CatchAlls (union a b)
both (CatchAlls a) b = b
both Emissions Choices = Choices
both Emissions _ = Emissions
both Choices b = Choices

-- only catch-alls are contributed
abbrev pub AreCatchAlls : Contribution → Type 0
AreCatchAlls (CatchAlls a) = ⊤
AreCatchAlls _ = ⊥

-- whether catch-alls alone are contributed, and one of a category
abbrev pub has_last : FieldCategory → Contribution → Bool
has_last category (CatchAlls a) = has a category
has_last category _ = false

-- what a shape contributes by a table; one that the table lacks may contribute choices
abbrev pub at : List Contribution → ℕ → Contribution
at table id = get_or table id Choices

-- what a field of a role contributes
abbrev pub contribution_of_role : List Contribution → Format → Field → Role → Contribution
contribution_of_role table format f regular = Emissions
contribution_of_role table format f (block target fs) =
    if target.optional then Choices else at table target.shape
contribution_of_role table format f (alternatives target s vs) = Choices
contribution_of_role table format f (catch_all target) =
    CatchAlls (only (catch_all_category format f.dom))
contribution_of_role table format f (leaf target) = Emissions

-- what a field contributes
abbrev pub contribution_of_field : List Contribution → Build → Field → Contribution
contribution_of_field table build f =
    contribution_of_role table build.format f (role_of build.catalogue f)

-- what fields contribute together
abbrev pub contribution_of_fields : List Contribution → Build → List Field → Contribution
contribution_of_fields table build [] = CatchAlls none
contribution_of_fields table build (f ∷ fs) =
    both (contribution_of_field table build f) (contribution_of_fields table build fs)

-- what a struct contributes by its fields; another kind may contribute choices
abbrev pub contribution_of_kind : List Contribution → Build → ShapeKind → Contribution
contribution_of_kind table build (Struct kind fields) =
    contribution_of_fields table build fields.items
contribution_of_kind table build _ = Choices

-- each entry of a table is what the shape at its index contributes
abbrev pub AreContributions : Build → List Contribution → Type 0
AreContributions build table = (id : ℕ) (b : Contribution) → slice_get table id ≡ Some b
    → b ≡ contribution_of_kind table build (kind_at build.catalogue id)
