use Rattle.std.proofs.Common.{◌≡◌, ◌&&◌, string_bytes, take}
use Rattle.std.specs.List.{list_any}
use Rattle.std.specs.Str.{bytes_eq}
use Rattle.facet_solver_shape.specs.Names.{Name}
use Rattle.facet_solver_reader.specs.Content.{is_unit}
use Rattle.facet_solver_reader.proofs.plan.keys.unit_names.Given as goal

-- the names of those before this one
abbrev pub invariant-loop-variant : goal.invariant-loop-variant
invariant-loop-variant l =
    (name : Name) → list_any (λ n. bytes_eq n.now name) l.names.items
    ≡ list_any (λ v. is_unit v && bytes_eq (string_bytes v.name) name)
    (take l.variant-index l.variants)
