use Rattle.std.proofs.Common.{◌≡◌, map, option_map, take}
use Rattle.std.specs.Fmt.{HasWritten, IsPlainFormatter}
use Rattle.facet_solver_types.specs.PrintedAttributes.{attribute, present, opened, is_empty}
use Rattle.facet_solver_types.proofs.display.attribute.AttributesDisplay.fmt.Given as goal

-- those so far are written, and whether there was none
abbrev pub invariant-loop-attribute : goal.invariant-loop-attribute
invariant-loop-attribute g l =
    let so_far = present (map (option_map attribute) (take l.attribute-index l.attribute-items)) in
    record {
      first : l.is_first ≡ is_empty so_far;
      written :
          IsPlainFormatter l.initial.f
          → HasWritten g.W.Write.write_str_gives l.initial.f (opened so_far) l.f;
    }
