use Rattle.std.proofs.Common.{◌+◌, ap, ◌∙◌, arith, length, sym, subst}
use Rattle.facet_solver_reader.specs.declared.tables.marks.Marked.TheVariants.{Shape, List as AList}
use Rattle.facet_solver_shape.specs.Catalogues.{IsChecked}
use Rattle.facet_solver_reader.proofs.AllReached.{reached_all}
use Rattle.facet_solver_reader.specs.WorkList.{IsReachedSoFar}
use Rattle.facet_solver_reader.proofs.WorkList.{first_under_way, list_done, list_within, read_order, shape_done, shape_within}
use Rattle.facet_solver_reader.proofs.tables.reached.Reached.new.Goals as goal
use Rattle.facet_solver_reader.proofs.tables.reached.Reached.new.Goals.{in-Shape+in_ok-go_through_shape-in-Shape, in-List+in_ok-go_through_list-in-List}

pub loop-position-init : goal.loop-position-init
loop-position-init c =
    let marked = c.in_ok-mark_shape.ensures in
    first_under_way c.args.types.now c.args.every.now c.args.root c.len.result c.len-2.result c.len-3.result c.in_ok-new.field-0 _
    (c.len.ensures.value ∙ ap length c.shapes.ensures) (c.len-2.ensures.value ∙ ap length c.shapes-2.ensures) (c.len-3.ensures ∙ c.args.every.now.lists.ok.0)
    c.in_ok-no_ends.ensures c.in_ok-new.ensures marked.kept marked.lists marked.marked c.requires (marked.met c.args.types.now c.args.every.now)

pub go_through_shape-requires : goal.go_through_shape-requires
go_through_shape-requires c =
    shape_within c.args.types.now c.args.every.now c.args.root c.loop-position.position c.loop-position.reached c.loop-position.reached c.loop-position.invariant c.in-Shape.id
    (read_order c.loop-position.reached.marks.order.items c.loop-position.position c.index.result.now (Shape c.in-Shape.id) (omega (arith, c.loop-position.reached.marks.order.ok.0)) c.index.ensures c.in-Shape.is)

pub go_through_list-requires : goal.go_through_list-requires
go_through_list-requires c =
    list_within c.args.types.now c.args.every.now c.args.root c.loop-position.position c.loop-position.reached c.loop-position.reached c.loop-position.invariant c.in-List.number
    (read_order c.loop-position.reached.marks.order.items c.loop-position.position c.index.result.now (AList c.in-List.number) (omega (arith, c.loop-position.reached.marks.order.ok.0)) c.index.ensures c.in-List.is)

pub loop-position-preserved : goal.loop-position-preserved
loop-position-preserved c =
    let types = c.args.types.now in
    let every = c.args.every.now in
    let old = c.loop-position.reached in
    let p = c.loop-position.position in
    elim c.match-index.branch [
      | in-Shape+in_ok-go_through_shape-in-Shape w ↦
          subst (IsReachedSoFar types every c.args.root (p + 1)) (sym w.reached-is)
          (shape_done types every c.args.root p old w.go_through_shape.new.self c.loop-position.invariant w.in-Shape.id
          (read_order old.marks.order.items p c.index.result.now (Shape w.in-Shape.id) (omega (arith, c.loop-position.reached.marks.order.ok.0)) c.index.ensures w.in-Shape.is)
          w.in_ok-go_through_shape-in-Shape.ensures c.requires)
      | in-List+in_ok-go_through_list-in-List w ↦
          let done = w.in_ok-go_through_list-in-List.ensures in
          subst (IsReachedSoFar types every c.args.root (p + 1)) (sym w.reached-is)
          (list_done types every c.args.root p old w.go_through_list.new.self c.loop-position.invariant w.in-List.number
          (read_order old.marks.order.items p c.index.result.now (AList w.in-List.number) (omega (arith, c.loop-position.reached.marks.order.ok.0)) c.index.ensures w.in-List.is)
          done.added done.ends done.marked c.requires done.met)
    ]

pub returns : goal.returns
returns c =
    reached_all c.args.types.now c.args.every.now c.args.root c.loop-position.position c.loop-position.reached
    (subst IsChecked c.shapes.ensures c.len.ensures.checked) c.requires c.loop-position.invariant (omega (arith, c.loop-position.reached.marks.order.ok.0))
