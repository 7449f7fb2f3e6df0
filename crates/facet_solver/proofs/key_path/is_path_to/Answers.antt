use Rattle.std.proofs.Common.{◌&&◌, ◌∙◌, ap, sym, nat_eq}
use denote.Bor.{Bor}
use lib.Pointwise.{pointwise}
use Rattle.facet_solver_shape.specs.Names.{Name}
use Rattle.facet_solver.proofs.KeyPath.{is_path_to}
use Rattle.facet_solver.proofs.key_path.is_path_to.Goals as goal

pub returns-then-eq : goal.returns-then-eq
returns-then-eq c =
    let same_path = pointwise (λ (x y : Bor Name). pointwise nat_eq x.now y.now) c.args.path.now c.in-Some.before.now in
    c.eq-then-eq.ensures
    ∙ ap (λ b. b && same_path) (sym c.if-eq.true ∙ c.eq.ensures)
    ∙ is_path_to c.args.path.now c.in-Some.before.now c.args.known.now c.args.key.now c.in-Some.last.now c.in-Some.ensures.cases.0

pub returns-else-eq : goal.returns-else-eq
returns-else-eq c =
    let same_path = pointwise (λ (x y : Bor Name). pointwise nat_eq x.now y.now) c.args.path.now c.in-Some.before.now in
    c.if-eq.false
    ∙ ap (λ b. b && same_path) (sym c.if-eq.false ∙ c.eq.ensures)
    ∙ is_path_to c.args.path.now c.in-Some.before.now c.args.known.now c.args.key.now c.in-Some.last.now c.in-Some.ensures.cases.0
