use Rattle.std.proofs.Common.{◌≡◌, ◌+◌, ◌-◌, ◌<◌, ◌≤◌, Err, Some, ap, length, slice_get, sym, ◌∙◌, arith, rules}
use Rattle.std.proofs.lemmas.List.{length-map}
use Rattle.std.proofs.lemmas.Option.{slice_get_past, slice_get_read}
use Rattle.facet_solver_types.specs.FieldTypes.{Groups}
use Rattle.facet_solver_types.specs.Understood.{declaration_view, declarations_view}
use Rattle.facet_solver_types.specs.UsedTypes.{reached, reached_from, with_uses}
use Rattle.facet_solver_types.specs.Uses.{use_view, uses_view}
use Rattle.facet_solver_types.proofs.UseTurns.{seen_at, turns_end, turns_more, turns_stop, unseen_at}
use Rattle.facet_solver_types.proofs.typing.uses.reached.Goals as goal
use Rattle.facet_solver_types.proofs.typing.uses.reached.Goals.{else-at-ge-MORE-via-then-at-ge-MORE+else-at-declarations, else-at-ge-MORE-via-else-at-ge-MORE}

pub returns-then-at-declarations : goal.returns-then-at-declarations
returns-then-at-declarations c =
    let ds = declarations_view c.args.declarations.list.now in
    let at = c.loop-at.at in
    let found = c.loop-at.found.items in
    let used = c.index.result.now in
    let count = length c.args.declarations.list.now in
    let seen : length ds ≡ count = length-map c.args.declarations.list.now declaration_view in
    let here : slice_get found at ≡ Some used =
    slice_get_read found c.len.result at used (search rules) c.loop-at-test.true c.index.ensures in
    let over : count + 4096 - at ≡ 0 = omega arith in
    let told : reached ds (uses_view c.args.uses.items) ≡ Err c.too_many.result =
    ap (λ n. reached_from ds (n + 4096) 0 (uses_view c.args.uses.items)) seen
    ∙ c.loop-at.invariant.all
    ∙ turns_stop ds at (uses_view found) (count + 4096 - at) (use_view used) over
    (seen_at use_view found at used here)
    ∙ ap Err (sym c.too_many.ensures) in
    λ real. told

pub loop-at-preserved : goal.loop-at-preserved
loop-at-preserved c =
    let ds = declarations_view c.args.declarations.list.now in
    let at = c.loop-at.at in
    let found = c.loop-at.found.items in
    let used = c.index-in-loop-at.result.now in
    let count = length c.args.declarations.list.now in
    let here : slice_get found at ≡ Some used =
    slice_get_read found c.len.result at used (search rules) c.loop-at-test.true
    c.index-in-loop-at.ensures in
    let some : at < count + 4096 =
    elim c.else-at-ge-MORE.branch [
      | else-at-ge-MORE-via-then-at-ge-MORE+else-at-declarations w ↦ omega arith
      | else-at-ge-MORE-via-else-at-ge-MORE w ↦ omega arith
    ] in
    let fewer : count + 4096 - at ≡ count + 4096 - (at + 1) + 1 = omega arith in
    record {
      all = c.loop-at.invariant.all
          ∙ turns_more ds at (uses_view found) (count + 4096 - at) (count + 4096 - (at + 1))
          (use_view used) fewer (seen_at use_view found at used here)
          ∙ ap (λ (g : Groups). reached_from ds (count + 4096 - (at + 1)) (at + 1)
          (with_uses (uses_view found) g.uses)) (sym c.in_ok-groups.ensures)
          ∙ ap (reached_from ds (count + 4096 - (at + 1)) (at + 1)) (sym c.in_ok-add_uses.ensures.uses);
      known = c.in_ok-add_uses.ensures.ids;
    }

pub returns : goal.returns
returns c =
    let ds = declarations_view c.args.declarations.list.now in
    let at = c.loop-at.at in
    let found = c.loop-at.found.items in
    let count = length c.args.declarations.list.now in
    let seen : length ds ≡ count = length-map c.args.declarations.list.now declaration_view in
    let all : c.len.result ≡ length found = search rules in
    let past : length found ≤ at = omega arith in
    ap (λ n. reached_from ds (n + 4096) 0 (uses_view c.args.uses.items)) seen
    ∙ c.loop-at.invariant.all
    ∙ turns_end ds at (uses_view found) (count + 4096 - at)
    (unseen_at use_view found at (slice_get_past found at past))
