use Rattle.std.proofs.Common.{◌≡◌, sym, ap, ◌∙◌, subst, refl, true, false}
use Rattle.std.proofs.lemmas.Option.{IfSome_then, get_or_from_slice_get, slice_get_within}
use Rattle.std.specs.Borrow.{Bor}
use Rattle.facet_solver_shape.specs.Names.{Name}
use Rattle.facet_solver_reader.specs.Documents.{Member}
use Rattle.facet_solver_reader.specs.Known.{named, rest}
use Rattle.facet_solver_reader.specs.Nodes.{members_in, value_of}
use Rattle.facet_solver_reader.specs.Objects.{HasNamed}
use Rattle.facet_solver_reader.specs.Reading.{IsListed, member_view, object_view}
use Rattle.facet_solver_reader.specs.Views.{list_view, selection_view}
use Rattle.facet_solver_reader.specs.Blaming.{IsAmong}
use Rattle.facet_solver_reader.proofs.CountingObjects.{itself, known_by_list, rest_by_object}
use Rattle.facet_solver_reader.proofs.CountingObjects.{seen_read}
use Rattle.facet_solver_reader.proofs.Named.{Has-at}
use Rattle.facet_solver_reader.proofs.why.branch.no_key.Goals as goal

pub has_name-requires : goal.has_name-requires
has_name-requires c =
    let of = c.in_ok-list.ensures in
    (c.requires.tables.lists of.index c.in_ok-list.list.now of.listed).sorted

pub returns-then-has_name : goal.returns-then-has_name
returns-then-has_name c =
    let t = c.args.tables.now in
    let s = selection_view c.args.selection.now in
    let id = list_view c.args.branch in
    let list = c.in_ok-list.list.now in
    let ms = members_in (value_of c.args.nodes.now c.args.object.now.node) in
    let i = c.loop-member.member-index in
    let m = member_view c.member-item.result in
    let same = c.members_of-member-items.ensures ∙ ap members_in c.value.ensures in
    let at = seen_read member_view c.members_of-member-items.result.now ms i c.member-item.result
    same c.loop-member-test.true c.member-item.is in
    let knows = known_by_list t c.requires.tables id list c.in_ok-list.ensures (named m.name)
    c.has_name.result c.has_name.ensures in
    let has = subst (λ (n : Member). HasNamed ms n.name) (get_or_from_slice_get ms i m m at)
    (Has-at ms i m (slice_get_within ms i m at)) in
    record {
      has = has;
      object = object_view c.args.nodes.now c.args.object.now;
      same = refl;
      selection = s;
      branch = c.requires.branch;
      misfit =
          record {
            key = named m.name;
            has = has;
            known =
                (c.requires.named.known m.name).0
                (sym c.has_name-then-not-has_name.ensures ∙ c.if-has_name.true);
            unknown = λ k.
                let is : c.has_name.result ≡ true = knows.1 k in
                let isnt : c.has_name.result ≡ false = c.if-not-has_name.true in
                absurd (cc);
          };
      key = refl;
    }

pub first_unknown-requires-clause-sorted : goal.first_unknown-requires-clause-sorted
first_unknown-requires-clause-sorted c =
    let o = c.requires.object in
    (c.requires.tables.lists o.index c.args.object.now.list.now o.listed).sorted

pub returns : goal.returns
returns c =
    let t = c.args.tables.now in
    let nodes = c.args.nodes.now in
    let o = c.args.object.now in
    let s = selection_view c.args.selection.now in
    let id = list_view c.args.branch in
    let list = c.in_ok-list.list.now in
    let own = o.list.now in
    let listed : IsListed t own =
    record { index = c.requires.object.index; listed = c.requires.object.listed } in
    let knows = known_by_list t c.requires.tables id list c.in_ok-list.ensures rest list.takes_rest
    refl in
    let touched = c.touches_rest.ensures.0 c.if-not-touches_rest.false in
    IfSome_then c.first_unknown.result c.first_unknown.ensures
    (λ (x : Bor Name) (among : IsAmong own (members_in (value_of nodes o.node)) x.now).
    record {
      has = among.has;
      object = object_view nodes o;
      same = refl;
      selection = s;
      branch = c.requires.branch;
      misfit =
          record {
            key = rest;
            has = (rest_by_object t nodes o c.requires.object).0 touched.0;
            known = touched.1;
            unknown = λ k.
                let is : list.takes_rest ≡ true = knows.1 k in
                let isnt : list.takes_rest ≡ false = c.if-list.false in
                absurd (cc);
          };
      key = λ known.
          let is = (known_by_list t c.requires.tables (list_view own.id) own
          (itself t c.requires.tables own listed) (named x.now) false (sym among.unknown)).1 known
          in
          absurd (cc);
    })
