use Rattle.std.proofs.Common.{◌≡◌, ◌∙◌, ℕ, ◌+◌, ◌-◌, ◌<◌, [], length, get_or, ap, sym, subst, arith, rules}
use Rattle.std.specs.BTreeMap.{get_by}
use Rattle.std.specs.Cmp.Lexicographic.{slice_cmp}
use Rattle.std.specs.Option.{unwrap_or}
use Rattle.std.specs.Ordering.{nat_cmp}
use Rattle.std.proofs.lemmas.List.{length-map}
use Rattle.facet_solver_shape.specs.Names.{names_of}
use Rattle.facet_solver_types.specs.NamePlaces.{HasNext, next_place}
use Rattle.facet_solver_types.proofs.NamePlaces.{first_more, named_at, next_more}
use Rattle.facet_solver_types.proofs.name_places.NamePlaces.new.Goals as goal

pub loop-place-preserved : goal.loop-place-preserved
loop-place-preserved c =
    let items = c.args.names.items in
    let names = names_of items in
    let at = c.loop-place.place in
    let place : ℕ = at - 1 in
    let within = c.loop-place.invariant.within in
    let behind : at ≡ place + 1 = omega (arith, c.loop-place-test.true) in
    let inside : place < length items = omega (arith, within, behind) in
    let long : length names ≡ length items = length-map items (λ n. n.now) in
    let less : place < length names = omega (arith, inside, long) in
    let name = c.index.result.now.now in
    let named : name ≡ get_or names place [] = named_at items place c.index.result.now c.index.ensures inside in
    let count : c.len-in-loop-place.result ≡ length items = search rules in
    let put : c.unwrap_or.result ≡ next_place names at (get_or names place []) =
    c.unwrap_or.ensures
    ∙ ap (λ o. unwrap_or o c.len-in-loop-place.result) c.in_ok-later.ensures.old
    ∙ ap (unwrap_or (get_by (λ k. slice_cmp nat_cmp name k.now) c.loop-place.first)) (count ∙ sym long)
    ∙ c.loop-place.invariant.first name
    ∙ ap (next_place names at) named in
    record {
      within = omega (arith, inside);
      first = first_more names place at name c.loop-place.first c.insert.new.self behind less named
          c.in_ok-later.ensures.updates c.loop-place.invariant.first;
      next = next_more names place at c.unwrap_or.result c.loop-place.next.items behind less put
          c.loop-place.invariant.next;
    }

pub invariant_of-result-2 : goal.invariant_of-result-2
invariant_of-result-2 c =
    let names = names_of c.args.names.items in
    let end : c.loop-place.place ≡ 0 = omega (arith, c.loop-place-test.false) in
    record {
      has_first = λ many name.
          c.loop-place.invariant.first name ∙ ap (λ n. next_place names n name) end;
      has_next = λ many.
          subst (λ (n : ℕ). HasNext names n c.loop-place.next.items) end c.loop-place.invariant.next;
    }
