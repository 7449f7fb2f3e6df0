use Rattle.std.proofs.Common.{◌<◌, inl, inr, ap, sym, ◌∙◌, subst, arith, length}
use Rattle.std.proofs.Math.Seq.{map-set_same}
use Rattle.std.proofs.lemmas.Bool.{cases_lt}
use Rattle.std.proofs.lemmas.List.{get_or-set_other, length-map}
use Rattle.std.proofs.lemmas.Grind.{get_or-set_at}
use Rattle.facet_solver_reader.specs.Placing.{PartHasBranchNamesIn}
use Rattle.facet_solver_reader.specs.Views.{part_view}
use Rattle.facet_solver_reader.proofs.tables.names.name_selections.Goals as goal

pub loop-part-preserved : goal.loop-part-preserved
loop-part-preserved c =
    let o = c.args.ordered.now in
    let ps = c.loop-part.part-items in
    let i = c.loop-part.part-index in
    let p = c.name_part.new.part in
    let within : i < length ps =
    omega (arith, c.loop-part-test.true, length-map ps part_view, length-map c.deref_mut-part-items.result.now part_view, ap length c.loop-part.invariant.0) in (
      map-set_same part_view ps i p c.part-item.result c.name_part.ensures.same
          ∙ c.loop-part.invariant.0,
      λ k d less. elim (cases_lt k i) [
        | inl before ↦ subst (PartHasBranchNamesIn o) (sym (get_or-set_other ps i k p d (λ e. omega (arith, e, before)))) (c.loop-part.invariant.1 k d before)
        | inr later ↦ subst (PartHasBranchNamesIn o) (sym (get_or-set_at ps i k p d (omega (arith, less, later)) within)) c.in_ok-name_part.ensures.named
      ],
    )
