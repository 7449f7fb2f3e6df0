use Rattle.std.proofs.Common.{ap, sym, ◌∙◌}
use Rattle.facet_solver_shape.specs.Fields.{FieldView}
use Rattle.facet_solver.specs.solver.SeenNames.{left}
use Rattle.facet_solver.proofs.Cursor.{end_of_end, met_behind, met_by_match}
use Rattle.facet_solver.proofs.solver.conditions.viable.is_met.Goals as goal
use Rattle.facet_solver.proofs.solver.conditions.viable.is_met.Goals.{then-eq+else-finds-2, else-eq}

pub returns-then-finds-clause-met : goal.returns-then-finds-clause-met
returns-then-finds-clause-met c =
    met_behind (left c.args.own.now) c.args.seen.now.keys c.args.field.now c.requires.own (c.finds.ensures.found c.if-finds.true)

pub returns-then-finds-clause-own : goal.returns-then-finds-clause-own
returns-then-finds-clause-own c =
    end_of_end (left c.finds.new.self) (left c.args.own.now) c.args.seen.now.keys c.finds.ensures.rest c.requires.own

pub returns-then-finds-2-clause-met : goal.returns-then-finds-2-clause-met
returns-then-finds-2-clause-met c =
    met_behind (left c.args.flat.now) c.args.seen.now.keys c.args.field.now c.requires.flat (c.finds-then-eq.ensures.found c.if-finds-2.true)

pub returns-then-finds-2-clause-own : goal.returns-then-finds-2-clause-own
returns-then-finds-2-clause-own c =
    end_of_end (left c.finds.new.self) (left c.args.own.now) c.args.seen.now.keys c.finds.ensures.rest c.requires.own

pub returns-then-finds-2-clause-flat : goal.returns-then-finds-2-clause-flat
returns-then-finds-2-clause-flat c =
    end_of_end (left c.finds-then-eq.new.self) (left c.args.flat.now) c.args.seen.now.keys c.finds-then-eq.ensures.rest c.requires.flat

pub returns-clause-met : goal.returns-clause-met
returns-clause-met c =
    c.is_matched.ensures
    ∙ met_by_match c.args.seen.now.keys c.args.field.now (sym (ap (λ (f : FieldView). f.is_required) c.field.view_is) ∙ c.if-not-field.false)

pub returns-clause-own : goal.returns-clause-own
returns-clause-own c =
    end_of_end (left c.finds.new.self) (left c.args.own.now) c.args.seen.now.keys c.finds.ensures.rest c.requires.own

pub returns-clause-flat : goal.returns-clause-flat
returns-clause-flat c =
    elim c.if-eq.branch [
      | then-eq+else-finds-2 w ↦ rw w.flat-is (end_of_end (left w.finds-then-eq.new.self) (left c.args.flat.now) c.args.seen.now.keys w.finds-then-eq.ensures.rest c.requires.flat)
      | else-eq w ↦ rw w.flat-is c.requires.flat
    ]
