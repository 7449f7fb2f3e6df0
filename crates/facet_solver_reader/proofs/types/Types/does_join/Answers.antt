use Rattle.std.proofs.Common.{◌≡◌, ap, sym, ◌∙◌, length}
use Rattle.facet_solver_reader.specs.JoinTables.{says}
use Rattle.facet_solver_reader.specs.Types.{does_join, joins_where}
use Rattle.facet_solver_reader.proofs.JoinedParts.{has_parts}
use Rattle.facet_solver_reader.proofs.JoinsByTable.{joins_by_table}
use Rattle.facet_solver_reader.proofs.JoinsSettle.{those_that_join}
use Rattle.facet_solver_reader.proofs.types.Types.does_join.Goals as goal

-- the table tells which variants join
told : (c : goal.After-joins_where) → c.joins_where.result ≡ does_join c.args.self.now c.args.variant.now
told c =
    let shapes = c.self.inside.shapes.now in
    let v = c.args.variant.now in
    c.joins_where.ensures
    ∙ ap (λ table. joins_where (says table) shapes v) (c.deref.ensures.value ∙ c.self.invariant)
    ∙ joins_by_table shapes (length shapes) v
    ∙ ap (λ s. does_join s v) c.self.view_is

pub returns-clause-value : goal.returns-clause-value
returns-clause-value c = told c

pub returns-clause-those : goal.returns-clause-those
returns-clause-those c = those_that_join c.args.self.now

pub returns-clause-has_parts : goal.returns-clause-has_parts
returns-clause-has_parts c = λ yes. has_parts c.args.self.now c.args.variant.now (sym (told c) ∙ yes)
