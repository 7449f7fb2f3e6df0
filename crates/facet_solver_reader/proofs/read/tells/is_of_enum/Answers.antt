use Rattle.std.proofs.Common.{◌≡◌, sym, ◌∙◌, rules, tests}
use Rattle.std.specs.List.{list_any}
use Rattle.std.proofs.lemmas.Iterator.{YieldsList-from_slice}
use Rattle.std.proofs.lemmas.Iterator.Search.{any_from_yields_List}
use Rattle.facet_solver_shape.proofs.Lists.{list_any-map}
use Rattle.facet_solver_reader.specs.declared.part.ListId.{ListId}
use Rattle.facet_solver_reader.specs.Steps.{is_branch}
use Rattle.facet_solver_reader.specs.Views.{list_view}
use Rattle.facet_solver_reader.proofs.read.tells.is_of_enum.Goals as goal

pub returns : goal.returns
returns c =
    let branches = c.args.selection.now.branches.items in
    let asked : c.any.result ≡ list_any (λ (b : ListId). is_branch (list_view b)) branches =
    any_from_yields_List (λ (b : ListId). is_branch (list_view b)) _ _ c.any.result
    c.any.ensures.ran (YieldsList-from_slice branches cc) (λ b r q k. search (rules, tests)) in
    asked ∙ sym (list_any-map is_branch list_view branches)
