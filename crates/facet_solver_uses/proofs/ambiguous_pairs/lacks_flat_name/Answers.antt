use Rattle.std.proofs.Common.{◌≡◌, None, false, ap, rules, sym, ◌∙◌}
use Rattle.facet_solver.specs.Fields.{FieldView, is_unnamed}
use Rattle.facet_solver.specs.Resolved.{field_by_name}
use Rattle.facet_solver.specs.declared.FieldCategory.TheVariants.{Flat}
use Rattle.facet_solver_uses.proofs.AmbiguousPairs.{is_named, no_key}
use Rattle.facet_solver_uses.proofs.ambiguous_pairs.lacks_flat_name.Goals as goal

pub returns-then-not-is_empty : goal.returns-then-not-is_empty
returns-then-not-is_empty c = λ is.
    let r = c.args.resolution.now in
    let f = c.args.field.now in
    let flat : f.category ≡ Flat = ap (λ (v : FieldView). v.category) (sym c.field.view_is) ∙ c.in-Flat.is in
    let has : is_unnamed f.name ≡ false = is_named f.name (search rules) in
    let none : field_by_name f.name r ≡ None = search rules in
    no_key r f flat has none
