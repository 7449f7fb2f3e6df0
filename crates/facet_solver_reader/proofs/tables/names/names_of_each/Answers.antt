use Rattle.std.proofs.Common.{arith, sym, ap, subst, take, List, Some, ◌∙◌}
use Rattle.std.proofs.lemmas.List.{take_all}
use Rattle.std.proofs.lemmas.Option.{slice_get-get_or}
use Rattle.facet_solver_shape.specs.Names.{names_of}
use Rattle.facet_solver_reader.specs.Parts.{Part}
use Rattle.facet_solver_reader.specs.Placing.{AreNamesOf, PartHasBranchNamesIn}
use Rattle.facet_solver_reader.specs.Views.{part_view, parts_view}
use Rattle.facet_solver_reader.proofs.PartNames.{names_moved, names_of_more, parts_more}
use Rattle.facet_solver_reader.proofs.Quantifiers.{all_at}
use Rattle.facet_solver_reader.proofs.tables.names.names_of_each.Goals as goal

pub loop-part-preserved : goal.loop-part-preserved
loop-part-preserved c = λ o named.
    let i = c.loop-part.part-index in
    let part = c.part-item.result in
    let new = names_of c.push_names.new.names.items in
    let here = all_at (PartHasBranchNamesIn o) c.args.parts.now i part named
    (slice_get-get_or c.args.parts.now i part c.loop-part-test.true ∙ ap Some (sym c.part-item.is)) in
    subst (λ (ps : List Part). AreNamesOf o ps new) (sym (parts_more c.args.parts.now i part c.loop-part-test.true c.part-item.is))
    (names_of_more o (parts_view (take i c.args.parts.now)) (part_view part) (names_of c.loop-part.names.items) new (c.loop-part.invariant o named) (c.in_ok-push_names.ensures o here))

pub returns-clause-names : goal.returns-clause-names
returns-clause-names c = λ o named.
    let ps = c.args.parts.now in
    names_moved o (parts_view ps) c.loop-part.names.items c.sort_unstable.new.self.items c.sort_unstable.ensures.permutation
    (subst (λ (qs : List Part). AreNamesOf o qs (names_of c.loop-part.names.items)) (ap parts_view (take_all c.loop-part.part-index ps (omega (arith, c.loop-part-test.false)))) (c.loop-part.invariant o named))
