use Rattle.std.proofs.Common.{[], true, refl, ap, sym, ◌∙◌}
use Rattle.std.proofs.Output.{has_written_of_eq, has_written_append}
use Rattle.std.proofs.lemmas.Iterator.{YieldsList-from_chars}
use Rattle.std.proofs.lemmas.Iterator.Consumers.{YieldsList-end}
use Rattle.std.proofs.lemmas.List.{flat_map_more, map-id}
use Rattle.std.specs.List.{flat_map}
use Rattle.facet_solver_tool.specs.PrintableText.{shown}
use Rattle.facet_solver_tool.proofs.printable.write_characters.Goals as goal

-- one character more
pub loop-character-preserved : goal.loop-character-preserved
loop-character-preserved g c plain =
    let so_far = c.loop-character.invariant plain in
    has_written_of_eq _ _ _ _ _ (flat_map_more shown [] c.loop-character.yielded c.in-Some.character)
    (has_written_append _ _ _ _ _ _ so_far (c.in_ok-write.ensures.writes so_far.plain (refl {a = true})))

-- all characters
pub returns : goal.returns
returns g c plain ok =
    let end = YieldsList-end (YieldsList-from_chars c.args.text.now c.utf8.text cc)
    c.loop-character.yielded _ c.loop-character.yielded_by _ _ c.in-None.is c.next.ensures.steps in
    has_written_of_eq _ _ _ _ _ (ap (flat_map shown) (sym (map-id c.loop-character.yielded) ∙ end.0))
    (c.loop-character.invariant plain)
