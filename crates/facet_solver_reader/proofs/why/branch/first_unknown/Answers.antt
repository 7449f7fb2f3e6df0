use Rattle.std.proofs.Common.{sym, ap, ◌∙◌, subst}
use Rattle.std.proofs.lemmas.Option.{get_or_from_slice_get, slice_get_within}
use Rattle.facet_solver_reader.specs.Documents.{Member}
use Rattle.facet_solver_reader.specs.Nodes.{members_in, value_of}
use Rattle.facet_solver_reader.specs.Objects.{HasNamed}
use Rattle.facet_solver_reader.specs.Reading.{member_view}
use Rattle.facet_solver_reader.proofs.CountingObjects.{seen_read}
use Rattle.facet_solver_reader.proofs.Named.{Has-at}
use Rattle.facet_solver_reader.proofs.why.branch.first_unknown.Goals as goal

pub returns-then-not-has_name : goal.returns-then-not-has_name
returns-then-not-has_name c =
    let ms = members_in (value_of c.args.nodes.now c.args.node) in
    let items = c.members_of-member-items.result.now in
    let same = c.members_of-member-items.ensures ∙ ap members_in c.value.ensures in
    let i = c.loop-member.member-index in
    let m = member_view c.member-item.result in
    let at = seen_read member_view items ms i c.member-item.result same c.loop-member-test.true
    c.member-item.is in
    record {
      has =
          subst (λ (n : Member). HasNamed ms n.name) (get_or_from_slice_get ms i m m at)
          (Has-at ms i m (slice_get_within ms i m at));
      unknown = sym c.has_name.ensures ∙ c.if-not-has_name.true;
    }
