use Rattle.std.proofs.Common.{◌≡◌, [], Option, None, true, ap, arith, is_some, rules, sym, ◌∙◌}
use Rattle.std.specs.Option.{option_map}
use Rattle.facet_solver.specs.declared.FieldKey.{FieldKey}
use Rattle.facet_solver.specs.declared.FieldKey.TheVariants.{Flat}
use Rattle.facet_solver_uses.specs.ChoiceToValues.{is_as_content, is_by_catch_all}
use Rattle.facet_solver_uses.specs.Taken.{TakerView, taker_view}
use Rattle.facet_solver_uses.proofs.ChoiceToValues.{members_pushed, members_same, taker_here}
use Rattle.facet_solver_uses.proofs.FirstUnknown.{key_at, taken_before, taken_more}
use Rattle.facet_solver_uses.proofs.choice_to_values.others_of.Goals as goal
use Rattle.facet_solver_uses.proofs.choice_to_values.others_of.Goals.{in-Some-Field, in-Some-Content+in_ok-push-in-Some-Content, in-Some-CatchAll+in_ok-push-in-Some-CatchAll}

pub returns-in-None : goal.returns-in-None
returns-in-None c =
    let nothing : FieldKey = Flat record { ref_ptr = (0, 0); now = [] } in
    let r = c.args.resolution.now in
    let keys = c.args.keys.now in
    let n = c.loop-member.member in
    let none : c.taker_of.result ≡ None = cc in
    record {
      there = key_at keys n nothing c.loop-member-test.true;
      unknown = ap is_some (sym c.taker_of.ensures ∙ ap (option_map taker_view) none);
      first = taken_before r keys n c.loop-member.invariant.taken;
    }

pub loop-member-preserved : goal.loop-member-preserved
loop-member-preserved c =
    let nothing : FieldKey = Flat record { ref_ptr = (0, 0); now = [] } in
    let r = c.args.resolution.now in
    let keys = c.args.keys.now in
    let n = c.loop-member.member in
    let low = c.loop-member-test.true in
    let contents = c.loop-member.contents.items in
    let rest = c.loop-member.rest.items in
    let so_far = c.loop-member.invariant in
    let taker : Option TakerView = option_map taker_view c.taker_of.result in
    let is = taker_here r keys n nothing low ∙ sym c.taker_of.ensures in
    let known = λ (some : is_some taker ≡ true). taken_more r keys n nothing low (ap is_some (sym c.taker_of.ensures) ∙ some) so_far.taken in
    elim c.match-taker_of-2.branch [
      | in-Some-Field w ↦
          record {
            within = omega arith;
            contents = rw w.contents-is (members_same is_as_content r keys n taker contents is (search rules) so_far.contents);
            rest = rw w.rest-is (members_same is_by_catch_all r keys n taker rest is (search rules) so_far.rest);
            taken = known (search rules);
          }
      | in-Some-Content+in_ok-push-in-Some-Content w ↦
          record {
            within = omega arith;
            contents = rw w.contents-is (members_pushed is_as_content r keys n taker contents w.push.new.self.items is (search rules) so_far.contents w.in_ok-push-in-Some-Content.ensures.items);
            rest = rw w.rest-is (members_same is_by_catch_all r keys n taker rest is (search rules) so_far.rest);
            taken = known (search rules);
          }
      | in-Some-CatchAll+in_ok-push-in-Some-CatchAll w ↦
          record {
            within = omega arith;
            contents = rw w.contents-is (members_same is_as_content r keys n taker contents is (search rules) so_far.contents);
            rest = rw w.rest-is (members_pushed is_by_catch_all r keys n taker rest w.push-in-Some-CatchAll.new.self.items is (search rules) so_far.rest w.in_ok-push-in-Some-CatchAll.ensures.items);
            taken = known (search rules);
          }
    ]
