use Rattle.std.proofs.Common.{◌≡◌, ap, sym, ◌∙◌, not, true, false, Bool}
use Rattle.std.proofs.lemmas.List.Folds.{list_any-from_Any, list_any_none}
use Rattle.facet_solver_reader.specs.Documents.{Member}
use Rattle.facet_solver_reader.specs.Known.{named}
use Rattle.facet_solver_reader.specs.Nodes.{members_in, value_of}
use Rattle.facet_solver_reader.specs.Reading.{member_view}
use Rattle.facet_solver_reader.specs.Tables.{knows}
use Rattle.facet_solver_reader.specs.declared.tables.List.{List as ListEntry}
use Rattle.facet_solver_reader.proofs.CountingObjects.{all_seen, all_seen_more, seen_read}
use Rattle.facet_solver_reader.proofs.Quantifiers.{all_of_none, any_at}
use Rattle.facet_solver_reader.proofs.count.unknown.has_unknown_beside.Goals as goal

-- whether a list lacks a member's name
abbrev lacks : ListEntry → Member → Bool
lacks l m = not (knows l (named m.name))

pub loop-member-init : goal.loop-member-init
loop-member-init c = all_of_none (λ (m : Member). lacks c.args.list.now m ≡ false)

pub returns-then-not-has_name_beside : goal.returns-then-not-has_name_beside
returns-then-not-has_name_beside c =
    let ms = members_in (value_of c.args.nodes.now c.args.node) in
    let items = c.members_of-member-items.result.now in
    let same = c.members_of-member-items.ensures ∙ ap members_in c.value.ensures in
    let i = c.loop-member.member-index in
    let at = seen_read member_view items ms i c.member-item.result same c.loop-member-test.true
    c.member-item.is in
    let missing = ap not (sym c.has_name_beside.ensures ∙ c.if-not-has_name_beside.true) in
    sym (list_any-from_Any (lacks c.args.list.now) ms
    (any_at (λ m. lacks c.args.list.now m ≡ true) ms i (member_view c.member-item.result) at
    missing))

pub loop-member-preserved : goal.loop-member-preserved
loop-member-preserved c =
    let missing = ap not (sym c.has_name_beside.ensures ∙ c.if-not-has_name_beside.false) in
    all_seen_more member_view c.members_of-member-items.result.now
    (λ (m : Member). lacks c.args.list.now m ≡ false) c.loop-member.member-index
    c.member-item.result c.loop-member-test.true c.member-item.is c.loop-member.invariant missing

pub returns : goal.returns
returns c =
    let ms = members_in (value_of c.args.nodes.now c.args.node) in
    let same = c.members_of-member-items.ensures ∙ ap members_in c.value.ensures in
    sym (list_any_none (lacks c.args.list.now) ms
    (all_seen member_view c.members_of-member-items.result.now
    (λ (m : Member). lacks c.args.list.now m ≡ false) ms c.loop-member.member-index same
    c.loop-member-test.false c.loop-member.invariant))
