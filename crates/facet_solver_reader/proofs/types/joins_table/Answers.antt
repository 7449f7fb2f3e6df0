use Rattle.std.proofs.Common.{◌≡◌, ℕ, suc, ◌+◌, ◌-◌, Bool, List, ap, sym, ◌∙◌, length, arith}
use Rattle.facet_solver_shape.specs.Catalogues.{Catalogue}
use Rattle.facet_solver_reader.specs.JoinTables.{next_table, joins_table}
use Rattle.facet_solver_reader.proofs.JoinsByTable.{no_more, one_round, same_table}
use Rattle.facet_solver_reader.proofs.types.joins_table.Goals as goal

-- what a round gives
after : (shapes : Catalogue) (n : ℕ) (table before next : List Bool) → next ≡ next_table shapes before → before ≡ table → table ≡ joins_table n shapes → next ≡ joins_table (n + 1) shapes
after shapes n table before next is here so_far =
    let on : suc n ≡ n + 1 = omega arith in
    is ∙ ap (next_table shapes) (here ∙ so_far) ∙ one_round shapes n ∙ ap (λ k. joins_table k shapes) on

pub returns-then-eq : goal.returns-then-eq
returns-then-eq c =
    let shapes = c.args.shapes.now in
    let n = c.loop.counter in
    let next = c.in_ok-next.next.items in
    let same = same_table next c.loop.table.items (sym c.eq.ensures ∙ c.if-eq.true) in
    let round : next ≡ next_table shapes (joins_table n shapes) =
    c.in_ok-next.ensures ∙ ap (next_table shapes) (c.deref.ensures.value ∙ c.loop.invariant)
    in
    c.loop.invariant ∙ no_more shapes n (length shapes - n) (length shapes) (sym round ∙ same ∙ c.loop.invariant) (omega arith)

pub loop-preserved : goal.loop-preserved
loop-preserved c =
    after c.args.shapes.now c.loop.counter c.loop.table.items c.deref.result.now _ c.in_ok-next.ensures c.deref.ensures.value c.loop.invariant
