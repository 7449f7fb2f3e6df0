use Rattle.std.proofs.Common.{◌≡◌, ◌||◌, sym, ap, ◌∙◌, false, rules, tests}
use Rattle.std.specs.List.{list_any}
use Rattle.std.proofs.lemmas.Iterator.{YieldsList-from_slice}
use Rattle.std.proofs.lemmas.Iterator.Search.{any_from_yields_List}
use Rattle.facet_solver_shape.proofs.Lists.{list_any-map}
use Rattle.facet_solver_reader.specs.declared.part.Part.{Part}
use Rattle.facet_solver_reader.specs.Steps.{is_branch}
use Rattle.facet_solver_reader.specs.Tells.{may_lack_enum}
use Rattle.facet_solver_reader.specs.Views.{list_view, part_view, parts_view}
use Rattle.facet_solver_reader.proofs.read.tells.tells_of_enum.Goals as goal

pub returns-else-is_branch : goal.returns-else-is_branch
returns-else-is_branch c =
    let l = c.args.list.now in
    let ps = l.parts.items in
    let asked : c.any.result ≡ list_any (λ (p : Part). may_lack_enum (part_view p)) ps =
    any_from_yields_List (λ (p : Part). may_lack_enum (part_view p)) _ _ c.any.result
    c.any.ensures.ran (YieldsList-from_slice ps cc) (λ p r q k. search (rules, tests)) in
    let other : is_branch (list_view l.id) ≡ false =
    sym c.is_branch.ensures ∙ c.if-is_branch.false in
    asked ∙ sym (list_any-map may_lack_enum part_view ps)
    ∙ ap (λ b. b || list_any may_lack_enum (parts_view ps)) (sym other)
