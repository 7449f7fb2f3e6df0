use Rattle.std.proofs.Common.{◌≢◌, ap, option_map, rules}
use Rattle.facet_solver_types.specs.declared.failure.Failure.TheVariants.{Text}
use Rattle.facet_solver_types.specs.declared.fault.Fault.TheVariants.{OutOfMemory}
use Rattle.facet_solver_types.specs.Declarations.{items_view}
use Rattle.facet_solver_types.specs.Failures.{of_text}
use Rattle.facet_solver_types.specs.GivenTypes.{IsTold}
use Rattle.facet_solver_types.specs.Items.{items}
use Rattle.facet_solver_types.specs.ParsedTexts.{item_types, token_types}
use Rattle.facet_solver_types.specs.Passages.{passage_view}
use Rattle.facet_solver_types.specs.Scopes.{str_view}
use Rattle.facet_solver_types.proofs.ParsedTexts.{failed, passed}
use Rattle.facet_solver_types.proofs.parsed.stages.token_types.Goals as goal

pub returns-in_err-items : goal.returns-in_err-items
returns-in_err-items c =
    let passage = passage_view c.args.passage in
    let root = option_map str_view c.args.root in
    let fault = c.in_err-items.field-0.0 in
    let told : Text fault ≢ Text OutOfMemory → IsTold (token_types c.args.base root passage) (of_text fault) =
    failed (items passage) (item_types c.args.base root) fault c.in_err-items.ensures in
    search (rules, told)

pub returns : goal.returns
returns c =
    let passage = passage_view c.args.passage in
    let root = option_map str_view c.args.root in
    passed (items passage) (item_types c.args.base root)
    (items_view c.in_ok-items.items.items) (items_view c.deref.result.now)
    c.in_ok-items.ensures (ap items_view c.deref.ensures.value)
    c.item_types.result c.item_types.ensures
