use Rattle.std.proofs.Common.{Bor, ℕ, List, map, ap, refl, sym, ◌∙◌, string_bytes}
use Rattle.std.specs.List.{flat_map}
use Rattle.facet_solver_shape.specs.Names.{Name, names_of}
use Rattle.facet_solver_shape.specs.Resolved.{Resolved}
use Rattle.facet_solver.specs.solver.Failure.{in_byte_order}
use Rattle.facet_solver.specs.solver.Report.{resolution_field_names, resolutions_at}
use Rattle.facet_solver.proofs.AtIndices.{lacked_among, lacked_at, lacked_left, lacked_taken}
use Rattle.facet_solver.proofs.ByteOrder.{list_in_order}
use Rattle.facet_solver.proofs.Left.{left_end, left_none, left_one, left_start, map_pushed}
use Rattle.facet_solver.proofs.solver.report.viable.disambiguating.Goals as goal

abbrev lacked : List Resolved → List ℕ → List (Bor Name) → List Name
lacked resolutions indices names = lacked_among resolutions indices (names_of names)

pub loop-name-init : goal.loop-name-init
loop-name-init c =
    left_start (lacked c.args.schema.now.resolutions c.args.indices.now) (map string_bytes c.new-names.result.items) _ _ (ap (map string_bytes) c.new-names.ensures.items) refl

pub loop-name-preserved-in_ok-push : goal.loop-name-preserved-in_ok-push
loop-name-preserved-in_ok-push c =
    let rs = c.args.schema.now.resolutions in
    let is = c.args.indices.now in
    let name = c.in-Some.name.now in
    left_one (lacked rs is) (map string_bytes c.loop-name.names.items) c.loop-name.name-iterator c.next.new.self name _
    c.loop-name.invariant c.in-Some.ensures.steps
    (map string_bytes c.push.new.self.items) name.now
    (map_pushed string_bytes c.loop-name.names.items c.push.new.self.items c.in_ok-from_str.field-0 name.now c.in_ok-push.ensures.items c.in_ok-from_str.ensures.ok)
    (lacked_taken rs is name.now (names_of c.next.new.self) (sym c.in_ok-is_in_all.ensures ∙ c.if-not-branch.true))

pub loop-name-preserved : goal.loop-name-preserved
loop-name-preserved c =
    let rs = c.args.schema.now.resolutions in
    let is = c.args.indices.now in
    let name = c.in-Some.name.now in
    left_none (lacked rs is) (map string_bytes c.loop-name.names.items) c.loop-name.name-iterator c.next.new.self name _
    c.loop-name.invariant c.in-Some.ensures.steps
    (lacked_left rs is name.now (names_of c.next.new.self) (sym c.in_ok-is_in_all.ensures ∙ c.if-not-branch.false))

pub returns : goal.returns
returns c =
    let rs = c.args.schema.now.resolutions in
    let is = c.args.indices.now in
    let all = flat_map resolution_field_names (resolutions_at rs is) in
    let gives = c.into_iter-name-iterator.ensures.into_iter_gives in
    left_end (lacked rs is) (map string_bytes c.loop-name.names.items) c.loop-name.name-iterator _ c.loop-name.invariant c.in-None.ensures.steps.0 refl
    ∙ ap (lacked_among rs is) (ap names_of gives.0 ∙ list_in_order c.in_ok-all.all.keys all gives.4 c.in_ok-all.ensures)
    ∙ lacked_at rs is c.requires (in_byte_order all)
