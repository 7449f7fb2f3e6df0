use Rattle.std.proofs.Common.{ap, ◌∙◌}
use Rattle.facet_solver.specs.solver.State.{new_solver, see_key}
use Rattle.facet_solver_uses.specs.declared.element_to_choice.Part.TheVariants.{Tag}
use Rattle.facet_solver_uses.specs.ElementToChoice.{key_of_part, keys_of_parts}
use Rattle.facet_solver_uses.proofs.KeysToChoice.{all_seen, finds_choice, see_keys_more}
use Rattle.facet_solver_uses.proofs.element_to_choice.element_to_choice.Goals as goal

pub loop-part-preserved : goal.loop-part-preserved
loop-part-preserved c =
    let before = c.loop-part.solver in
    see_keys_more c.calls_are_made_one_by_one.ensures.keys key_of_part c.args.parts.now c.loop-part.part-index Tag (new_solver c.args.schema.now) before c.see_key.new.self c.loop-part-test.true c.loop-part.invariant (c.in_ok-see_key.ensures.ok ∙ ap (λ key. see_key key before) c.key.ensures)

pub returns-clause-found : goal.returns-clause-found
returns-clause-found c =
    let schema = c.args.schema.now in
    let parts = c.args.parts.now in
    let same = all_seen key_of_part parts c.loop-part.part-index c.loop-part.solver (new_solver schema) c.loop-part-test.false c.loop-part.invariant in
    finds_choice schema (keys_of_parts parts) c.loop-part.solver c.finish.result same (c.told_choices_are_found.ensures schema) c.finish.ensures.found
