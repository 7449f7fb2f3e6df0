use Rattle.facet_solver_reader.specs.Met.{IfChosen, NumberIsMet, StayMet}
use Rattle.facet_solver_shape.specs.Catalogues.{Catalogue}
use Rattle.facet_solver_reader.specs.Views.{list_view}
use Rattle.facet_solver_reader.proofs.Marks.{on_ok_then}
use Rattle.facet_solver_reader.proofs.StayMet.{number_met}
use Rattle.facet_solver_reader.proofs.tables.marks.Marks.mark_list.Goals as goal

pub returns-in-None-clause-marked : goal.returns-in-None-clause-marked
returns-in-None-clause-marked c = λ k is has. absurd (c.in-None.ensures k is has)

pub returns-in-Some-clause-met : goal.returns-in-Some-clause-met
returns-in-Some-clause-met c =
    let every = c.args.every.now in
    let old = c.args.self.now in
    let new = c.mark_number.new.self in
    let id = list_view c.args.id.now in
    let n = c.in-Some.number in
    on_ok_then c.mark_number.result
    ((shapes : Catalogue) → StayMet shapes every old new (λ strict root. NumberIsMet shapes every strict root n))
    ((shapes : Catalogue) → StayMet shapes every old new (λ strict root. IfChosen shapes strict root id))
    (λ f shapes strict root listed met h.
    f shapes strict root listed (number_met shapes every id n listed c.in-Some.ensures.0 c.in-Some.ensures.1 strict root met) h)
    c.mark_number.ensures.met
