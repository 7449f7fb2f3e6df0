use Rattle.std.proofs.Common.{◌≡◌, ◌∙◌, List, ℕ, ◌+◌, ◌<◌, [], length, get_or, ap, sym, subst, arith, rules}
use Rattle.std.proofs.lemmas.List.{length-map}
use Rattle.facet_solver_shape.specs.Names.{names_of}
use Rattle.facet_solver_types.specs.NamePlaces.{HasNext, next_place}
use Rattle.facet_solver_types.proofs.NamePlaces.{Walked, same_read, walk_more, walk_start}
use Rattle.facet_solver_types.proofs.name_places.NamePlaces.places_of.Goals as goal

pub loop-place-init : goal.loop-place-init
loop-place-init c =
    let names = names_of c.args.self.now.names.items in
    let name = c.args.name.now in
    let place = c.place_in-place.result in
    subst (λ (l : List ℕ). Walked names name l place) (sym c.new-found.ensures.items)
    (walk_start names name place c.place_in-place.ensures)

pub loop-place-smaller : goal.loop-place-smaller
loop-place-smaller c =
    let items = c.args.self.now.names.items in
    let names = names_of items in
    let place = c.loop-place.place in
    let next = c.args.self.now.next.items in
    let count : c.len.result ≡ length items = search rules in
    let counted : c.len-in-loop-place.result ≡ length items = search rules in
    let many : 8 < length items = omega (arith, count, c.if-len-le-FEW_NAMES.false) in
    let has : HasNext names 0 next = c.args.self.now.has_next many in
    let inside : place < length items = omega (arith, counted, c.loop-place-test.true) in
    let less : place < length names = omega (arith, inside, length-map items (λ n. n.now)) in
    let within : place < length next = omega (arith, less, has.long) in
    let is : c.index-place.result.now ≡ next_place names (place + 1) (get_or names place []) =
    c.index-place.ensures ∙ same_read next place c.index-place.result.now 0 within
    ∙ has.told place [] (omega arith) less in
    omega (arith, is, inside)

pub loop-place-preserved : goal.loop-place-preserved
loop-place-preserved c =
    let items = c.args.self.now.names.items in
    let names = names_of items in
    let name = c.args.name.now in
    let place = c.loop-place.place in
    let next = c.args.self.now.next.items in
    let count : c.len.result ≡ length items = search rules in
    let counted : c.len-in-loop-place.result ≡ length items = search rules in
    let many : 8 < length items = omega (arith, count, c.if-len-le-FEW_NAMES.false) in
    let has : HasNext names 0 next = c.args.self.now.has_next many in
    let inside : place < length items = omega (arith, counted, c.loop-place-test.true) in
    let less : place < length names = omega (arith, inside, length-map items (λ n. n.now)) in
    let within : place < length next = omega (arith, less, has.long) in
    let is : c.index-place.result.now ≡ next_place names (place + 1) (get_or names place []) =
    c.index-place.ensures ∙ same_read next place c.index-place.result.now 0 within
    ∙ has.told place [] (omega arith) less in
    subst (λ (l : List ℕ). Walked names name l c.index-place.result.now) (sym c.in_ok-push.ensures.items)
    (walk_more names name c.loop-place.found.items place c.index-place.result.now less is c.loop-place.invariant)
