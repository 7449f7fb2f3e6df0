use Rattle.std.proofs.Common.{◌+◌, ◌++◌, map, option_map, take, ap, sym, subst, refl, true, ◌∙◌}
use Rattle.std.proofs.Output.{has_written_of_eq, has_written_append}
use Rattle.std.specs.Fmt.{HasWritten}
use Rattle.facet_solver_types.specs.PrintedAttributes.{attribute, present, opened, one_of_list, is_empty}
use Rattle.facet_solver_types.proofs.PrintedAttributes.{some_more, none_more, opened_more, not_empty}
use Rattle.facet_solver_types.proofs.display.attribute.AttributesDisplay.fmt.Goals as goal
use Rattle.facet_solver_types.proofs.display.attribute.AttributesDisplay.fmt.Goals.{in-Some+in_ok-write_attribute, in_default}

-- one more is written where there is one
pub loop-attribute-preserved : goal.loop-attribute-preserved
loop-attribute-preserved g c =
    let list = c.args.self.now.list.now in
    let i = c.loop-attribute.attribute-index in
    let so_far = present (map (option_map attribute) (take i list)) in
    elim c.match-attribute.branch [
      | in-Some+in_ok-write_attribute w ↦
          let one = attribute w.in-Some.attribute in
          let more = some_more attribute list i w.in-Some.attribute c.loop-attribute-test.true w.in-Some.is in
          record {
            first = w.is_first-is ∙ sym (not_empty so_far one) ∙ ap is_empty (sym more);
            written = λ plain.
                let before = c.loop-attribute.invariant.written plain in
                let here = w.in_ok-write_attribute.ensures before.plain (refl {a = true}) in
                subst (λ f. HasWritten g.W.Write.write_str_gives c.args.f.now (opened (present (map (option_map attribute) (take (i + 1) list)))) f)
                (sym w.f-is)
                (has_written_of_eq _ _ _ _ _
                (ap (λ b. opened so_far ++ one_of_list b one) c.loop-attribute.invariant.first
                ∙ opened_more so_far one ∙ ap opened (sym more))
                (has_written_append _ _ _ _ _ _ before here));
          }
      | in_default w ↦
          let same = none_more attribute list i c.loop-attribute-test.true w.in_default.is in
          record {
            first = w.is_first-is ∙ c.loop-attribute.invariant.first ∙ ap is_empty (sym same);
            written = λ plain.
                subst (λ f. HasWritten g.W.Write.write_str_gives c.args.f.now (opened (present (map (option_map attribute) (take (i + 1) list)))) f)
                (sym w.f-is)
                (has_written_of_eq _ _ _ _ _ (ap opened (sym same)) (c.loop-attribute.invariant.written plain));
          }
    ]
