use Rattle.std.proofs.Common.{[]}
use Rattle.facet_solver.specs.Keys.{key_of}
use Rattle.facet_solver.specs.solver.State.{new_solver}
use Rattle.facet_solver.specs.declared.FieldKey.{FieldKey}
use Rattle.facet_solver.specs.declared.FieldKey.TheVariants.{Flat}
use Rattle.facet_solver_uses.specs.KeysToChoice.{keys_of}
use Rattle.facet_solver_uses.proofs.KeysToChoice.{all_seen, finds_choice, see_keys_more}
use Rattle.facet_solver_uses.proofs.keys_to_choice.keys_to_choice.Goals as goal

pub loop-key-preserved : goal.loop-key-preserved
loop-key-preserved c =
    let nothing : FieldKey = Flat record { ref_ptr = (0, 0); now = [] } in
    see_keys_more c.calls_are_made_one_by_one.ensures.keys key_of c.args.keys.now c.loop-key.key-index nothing (new_solver c.args.schema.now) c.loop-key.solver c.see_key.new.self c.loop-key-test.true c.loop-key.invariant c.in_ok-see_key.ensures.ok

pub returns-clause-found : goal.returns-clause-found
returns-clause-found c =
    let schema = c.args.schema.now in
    let keys = c.args.keys.now in
    let same = all_seen key_of keys c.loop-key.key-index c.loop-key.solver (new_solver schema) c.loop-key-test.false c.loop-key.invariant in
    finds_choice schema (keys_of keys) c.loop-key.solver c.finish.result same (c.told_choices_are_found.ensures schema) c.finish.ensures.found
