use Rattle.std.proofs.Common.{◌≡◌, ◌<◌, ◌+◌, refl, sym, subst, ◌∙◌, List, arith, Some, slice_get, length, true}
use Rattle.std.specs.List.{All, Any}
use Rattle.std.proofs.lemmas.Option.{slice_get_read}
use Rattle.facet_solver_reader.specs.declared.part.Part.{Part}
use Rattle.facet_solver_reader.specs.declared.tables.every.Listed.{Listed}
use Rattle.facet_solver_reader.specs.Placing.{IsLeft, PartIsPlaced, PartIsStuck}
use Rattle.facet_solver_reader.specs.Views.{list_view, parts_view}
use Rattle.facet_solver_reader.specs.OrderedLists.{IsMarkedList}
use Rattle.facet_solver_reader.proofs.AboutFaults.{about_more}
use Rattle.facet_solver_reader.proofs.LeftLists.{next_at, slot_at, stuck_all, stuck_at, unplaced_at, upto_as, upto_none, upto_placed, upto_stuck}
use Rattle.facet_solver_reader.proofs.tables.order.Ordered.place_more.Goals as goal
use Rattle.facet_solver_reader.proofs.tables.order.Ordered.place_more.Goals.{then-is_left+then-has_branches+in-Ok, else-is_left, else-is_left-via-then-is_left+else-has_branches, else-is_left-via-else-is_left}

pub place-requires-clause-unplaced : goal.place-requires-clause-unplaced
place-requires-clause-unplaced c =
    let every = c.args.every.now in
    let n = c.loop-number.number in
    let within : n < length every.lists.items = omega (arith, c.loop-number-test.true, c.len-number-end.ensures, every.lists.ok.0) in
    let x = c.index-then-has_branches.result.now in
    let there : slice_get every.lists.items n ≡ Some x = slice_get_read every.lists.items _ n x refl within c.index-then-has_branches.ensures in
    unplaced_at c.args.types.now every c.args.marks.now c.loop-number.self c.requires.listed c.requires.closed n (c.if-is_left.ensures.left refl) x there

pub place-requires-clause-next : goal.place-requires-clause-next
place-requires-clause-next c =
    let every = c.args.every.now in
    let n = c.loop-number.number in
    let within : n < length every.lists.items = omega (arith, c.loop-number-test.true, c.len-number-end.ensures, every.lists.ok.0) in
    let x = c.index-then-has_branches.result.now in
    let y = c.index.result.now in
    let there : slice_get every.lists.items n ≡ Some x = slice_get_read every.lists.items _ n x refl within c.index-then-has_branches.ensures in
    let here : slice_get every.lists.items n ≡ Some y = slice_get_read every.lists.items _ n y refl within c.index.ensures in
    let same : y ≡ x = let f : Some y ≡ Some x = sym here ∙ there in cc in
    next_at c.args.types.now every c.args.marks.now c.loop-number.self c.requires.listed c.requires.closed n (c.if-is_left.ensures.left refl) x there
    (subst (λ (l : Listed). All (PartIsPlaced c.args.types.now c.loop-number.self) (parts_view l.parts.items)) same
    (subst (λ (qs : List Part). All (PartIsPlaced c.args.types.now c.loop-number.self) (parts_view qs)) c.deref.ensures.value (c.if-has_branches.ensures.all c.args.types.now c.requires.listed refl)))

pub place-requires-clause-slot : goal.place-requires-clause-slot
place-requires-clause-slot c =
    let every = c.args.every.now in
    let n = c.loop-number.number in
    let within : n < length every.lists.items = omega (arith, c.loop-number-test.true, c.len-number-end.ensures, every.lists.ok.0) in
    let x = c.index-then-has_branches.result.now in
    let there : slice_get every.lists.items n ≡ Some x = slice_get_read every.lists.items _ n x refl within c.index-then-has_branches.ensures in
    slot_at c.args.types.now every c.args.marks.now c.loop-number.self c.requires.listed c.requires.closed n (c.if-is_left.ensures.left refl) x there c.loop-number.invariant.under_way

pub loop-number-preserved : goal.loop-number-preserved
loop-number-preserved c =
    let shapes = c.args.types.now in
    let every = c.args.every.now in
    let marks = c.args.marks.now in
    let first = c.args.self.now in
    let now = c.loop-number.self in
    let n = c.loop-number.number in
    let within : n < length every.lists.items = omega (arith, c.loop-number-test.true, c.len-number-end.ensures, every.lists.ok.0) in
    elim c.if-is_left.branch [
      | then-is_left+then-has_branches+in-Ok w ↦
          let x = w.index-then-has_branches.result.now in
          let there : slice_get every.lists.items n ≡ Some x = slice_get_read every.lists.items _ n x refl within w.index-then-has_branches.ensures in
          let left : IsLeft every marks now n = w.if-is_left.ensures.left refl in
          upto_as shapes every marks first w.place.new.self c.if-is_left.self true c.if-is_left.has_more (n + 1) w.self-is w.has_more-is
          (upto_placed shapes every marks first now w.place.new.self c.loop-number.has_more n x c.requires.listed c.loop-number.invariant there left.marked
          (unplaced_at shapes every marks now c.requires.listed c.requires.closed n left x there)
          (slot_at shapes every marks now c.requires.listed c.requires.closed n left x there c.loop-number.invariant.under_way)
          w.in-Ok.ensures.more w.in-Ok.ensures.placing)
      | else-is_left w ↦
          upto_as shapes every marks first now c.if-is_left.self c.loop-number.has_more c.if-is_left.has_more (n + 1) w.self-is w.has_more-is
          (upto_stuck shapes every marks first now c.loop-number.has_more n c.loop-number.invariant
          (elim w.else-is_left.branch [
            | else-is_left-via-then-is_left+else-has_branches v ↦
                let y = v.index.result.now in
                let here : slice_get every.lists.items n ≡ Some y = slice_get_read every.lists.items _ n y refl within v.index.ensures in
                stuck_at shapes every marks now n y here
                (subst (λ (qs : List Part). Any (PartIsStuck shapes now) (parts_view qs)) v.deref.ensures.value (v.if-has_branches.ensures.some shapes c.requires.listed refl))
            | else-is_left-via-else-is_left v ↦ λ left. absurd (v.if-is_left.ensures.other refl left)
          ]))
    ]

pub loop-number-init : goal.loop-number-init
loop-number-init c = upto_none c.args.types.now c.args.every.now c.args.marks.now c.args.self.now c.requires.under_way

pub returns-clause-under_way : goal.returns-clause-under_way
returns-clause-under_way c = c.loop-number.invariant.under_way

pub returns-clause-fewer : goal.returns-clause-fewer
returns-clause-fewer c = c.loop-number.invariant.fewer

pub returns-clause-stuck : goal.returns-clause-stuck
returns-clause-stuck c =
    stuck_all c.args.types.now c.args.every.now c.args.marks.now c.args.self.now c.loop-number.self c.loop-number.has_more c.loop-number.number
    (omega (arith, c.loop-number-test.false, c.len-number-end.ensures, c.args.every.now.lists.ok.0)) c.loop-number.invariant

pub returns-in-Err-clause-about : goal.returns-in-Err-clause-about
returns-in-Err-clause-about c =
    let every = c.args.every.now in
    let marks = c.args.marks.now in
    let n = c.loop-number.number in
    let within : n < length every.lists.items = omega (arith, c.loop-number-test.true, c.len-number-end.ensures, every.lists.ok.0) in
    let y = c.index-then-has_branches.result.now in
    let here : slice_get every.lists.items n ≡ Some y = slice_get_read every.lists.items _ n y refl within c.index-then-has_branches.ensures in
    let left = c.if-is_left.ensures.left refl in
    about_more (λ q. q ≡ list_view y.id) (IsMarkedList every marks)
    (λ q same. record { number = n; list = y; is_there = here; same = sym same; marked = left.marked })
    c.in-Err.fault c.in-Err.ensures.about
