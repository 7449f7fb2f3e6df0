use Rattle.std.proofs.Common.{◌≡◌, ◌∙◌, sym, subst, refl, arith, length, map, rules}
use Rattle.std.proofs.Common.{◌+◌}
use Rattle.std.proofs.lemmas.List.{length-map}
use Rattle.std.proofs.lemmas.Option.{slice_get_read}
use Rattle.facet_solver_reader.specs.Views.{named_view}
use Rattle.facet_solver_reader.proofs.Alone.{is_none}
use Rattle.facet_solver_reader.proofs.OnlyNamed.{IsFoundAmong, first_found, only_found, other_passed}
use Rattle.facet_solver_reader.proofs.Seen.{seen_at}
use Rattle.facet_solver_reader.proofs.read.variant.only_named.Goals as goal
use Rattle.facet_solver_reader.proofs.read.variant.only_named.Goals.{then-eq+else-is_some, else-eq}

pub loop-k-init : goal.loop-k-init
loop-k-init c j v below at named = absurd (omega (arith, below))

pub loop-k-preserved : goal.loop-k-preserved
loop-k-preserved c =
    let vs = map named_view c.args.variants.now in
    let x = c.args.name.now in
    let k = c.loop-k.k in
    let item = c.index-variants-k.result in
    let there = seen_at named_view c.args.variants.now k item
    (slice_get_read c.args.variants.now (length c.args.variants.now) k item refl
    c.loop-k-test.true c.index-variants-k.is) in
    elim c.if-eq.branch [
      | then-eq+else-is_some w ↦
          let is : item.name.now ≡ x = search (rules, w.if-eq.true) in
          let none = is_none c.loop-k.found (sym w.is_some.ensures ∙ w.if-is_some.false) in
          subst (λ f. IsFoundAmong vs x f (k + 1)) (sym w.found-is)
          (first_found vs x k (named_view item) there is
          (subst (λ f. IsFoundAmong vs x f k) none c.loop-k.invariant))
      | else-eq w ↦
          let isnt : item.name.now ≡ x → ⊥ = λ e. search (rules, e, w.if-eq.false) in
          subst (λ f. IsFoundAmong vs x f (k + 1)) (sym w.found-is)
          (other_passed vs x k (named_view item) there c.loop-k.found isnt c.loop-k.invariant)
    ]

pub returns : goal.returns
returns c =
    only_found (map named_view c.args.variants.now) c.args.name.now c.loop-k.found c.loop-k.k
    (omega (arith, c.loop-k-test.false, length-map c.args.variants.now named_view))
    c.loop-k.invariant
