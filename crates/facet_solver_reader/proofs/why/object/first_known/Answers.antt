use Rattle.std.proofs.Common.{ap, ◌∙◌, subst}
use Rattle.std.proofs.lemmas.Option.{get_or_from_slice_get, slice_get_within}
use Rattle.facet_solver_reader.specs.Documents.{Member}
use Rattle.facet_solver_reader.specs.Known.{named}
use Rattle.facet_solver_reader.specs.Nodes.{members_in, value_of}
use Rattle.facet_solver_reader.specs.Objects.{HasNamed}
use Rattle.facet_solver_reader.specs.Reading.{member_view}
use Rattle.facet_solver_reader.specs.Views.{list_view}
use Rattle.facet_solver_reader.proofs.Blaming.{listed_of_below}
use Rattle.facet_solver_reader.proofs.CountingObjects.{itself, known_by_list, seen_read}
use Rattle.facet_solver_reader.proofs.Named.{Has-at}
use Rattle.facet_solver_reader.proofs.why.object.first_known.Goals as goal

pub has_name-requires : goal.has_name-requires
has_name-requires c =
    let t = c.args.tables.now in
    let l = c.args.list.now in
    let listed = listed_of_below t c.requires.tables c.args.object.now l c.requires.below in
    (c.requires.tables.lists listed.index l listed.listed).sorted

pub returns-then-has_name : goal.returns-then-has_name
returns-then-has_name c =
    let t = c.args.tables.now in
    let l = c.args.list.now in
    let ms = members_in (value_of c.args.nodes.now c.args.object.now.node) in
    let items = c.members_of-member-items.result.now in
    let same = c.members_of-member-items.ensures ∙ ap members_in c.value.ensures in
    let i = c.loop-member.member-index in
    let m = member_view c.member-item.result in
    let at = seen_read member_view items ms i c.member-item.result same c.loop-member-test.true
    c.member-item.is in
    let listed = listed_of_below t c.requires.tables c.args.object.now l c.requires.below in
    let known = known_by_list t c.requires.tables (list_view l.id) l
    (itself t c.requires.tables l listed) (named m.name) c.has_name.result c.has_name.ensures in
    record {
      has =
          subst (λ (n : Member). HasNamed ms n.name) (get_or_from_slice_get ms i m m at)
          (Has-at ms i m (slice_get_within ms i m at));
      known = known.0 c.if-has_name.true;
    }
