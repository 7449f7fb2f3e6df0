use Rattle.std.proofs.Common.{◌≡◌, ◌∷◌, [], ◌++◌, List, ℕ, Bor, ap, sym, ◌∙◌, subst, true, refl, append_assoc, arith}
use Rattle.std.specs.List.{AllByRecursion}
use Rattle.std.proofs.lemmas.Slice.Eq.{bytes_eq-Decides}
use Rattle.facet_solver_shape.specs.Names.{Name}
use Rattle.facet_solver.specs.build.Nested.{paths_of_each}
use Rattle.facet_solver.specs.build.NestedNames.{AreRising, HasEachOnce, Names, NamesLead, paths_of_names, shapes_behind}
use Rattle.facet_solver.specs.declared.build.nested.shapes_behind.ShapesBehind.{ShapesBehind}
use Rattle.facet_solver.proofs.NestedFields.{each_push}
use Rattle.facet_solver.proofs.NestedNames.{AreSorted, each-append, each-joined, each-other, next_after, no_names_rise, paths-append, paths-joined, paths-other, rise-first, rise-last_other, rise-push, sorted_rest}
use Rattle.facet_solver.proofs.NestedTable.{no_items}
use Rattle.facet_solver.proofs.build.nested.by_name.joined.Goals as goal

pub returns-in_default-clause-rise : goal.returns-in_default-clause-rise
returns-in_default-clause-rise c = subst AreRising (sym c.new-joined.ensures.items) no_names_rise

-- a name with its shapes, of which each is there once
abbrev IsOnce : Bor Name × ShapesBehind → Type 0
IsOnce e = HasEachOnce e.1

pub returns-in_default-clause-once : goal.returns-in_default-clause-once
returns-in_default-clause-once c = subst (AllByRecursion IsOnce) (sym c.new-joined.ensures.items) tt

pub loop-named-init : goal.loop-named-init
loop-named-init c =
    let none = c.new-joined.ensures.items in
    let rest = c.into_iter-named-iterator.result.rest.items in
    let all : c.args.sorted.items ≡ c.new-joined.result.items ++ c.in-Some.last ∷ rest =
    sym c.into_iter-rest.ensures.rest
    ∙ c.in-Some.ensures.items
    ∙ ap (λ s. c.in-Some.last ∷ s.rest.items) (sym c.into_iter-named-iterator.ensures.into_iter_gives)
    ∙ ap (λ (names : Names). names ++ c.in-Some.last ∷ rest) (sym none) in (
      λ under. ap (paths_of_names under) (sym all),
      λ passes lead. subst (NamesLead passes) all lead,
      subst (λ (names : Names). AreRising (names ++ c.in-Some.last ∷ [])) (sym none) (rise-first c.in-Some.last),
      subst AreSorted (all ∙ ap (λ (names : Names). names ++ c.in-Some.last ∷ rest) none) c.requires,
      subst (AllByRecursion IsOnce) (sym none) tt,
    )

pub loop-named-preserved-then-eq : goal.loop-named-preserved-then-eq
loop-named-preserved-then-eq c =
    let last = c.loop-named.last in
    let named = c.in-Some-named.named in
    let front = c.loop-named.joined.items in
    let rest = c.next-in-loop-named.new.self.rest.items in
    let both = c.add.new.self in
    let more : shapes_behind both ≡ shapes_behind last.1 ++ shapes_behind named.1 = c.in_ok-add.ensures ∙ ap (λ (ids : List ℕ). shapes_behind last.1 ++ ids) c.as_slice.ensures in
    let step : c.loop-named.named-iterator.rest.items ≡ named ∷ rest = c.in-Some-named.ensures.steps.0 in
    let same : named.0.now ≡ last.0.now = (bytes_eq-Decides named.0.now last.0.now).0 (sym c.eq.ensures ∙ c.if-eq.true) in (
      λ under.
          paths-joined under front rest last named both same
          (ap (paths_of_each under) more ∙ paths-append under (shapes_behind last.1) (shapes_behind named.1))
          ∙ ap (λ (names : Names). paths_of_names under (front ++ last ∷ names)) (sym step)
          ∙ c.loop-named.invariant.0 under,
      λ passes lead.
          each-joined _ front rest last named (last.0, both)
          (λ h k. let P : ℕ → Type 0 = λ id. passes id ≡ true in subst (AllByRecursion P) (sym more) (each-append P (shapes_behind last.1) (shapes_behind named.1) h k))
          (subst (λ (names : Names). NamesLead passes (front ++ last ∷ names)) step (c.loop-named.invariant.1 passes lead)),
      rise-last_other front last (last.0, both) refl c.loop-named.invariant.2,
      sorted_rest last named (last.0, both) rest (sym same) (subst (λ (names : Names). AreSorted (last ∷ names)) step c.loop-named.invariant.3),
      c.loop-named.invariant.4,
    )

pub loop-named-preserved : goal.loop-named-preserved
loop-named-preserved c =
    let last = c.loop-named.last in
    let named = c.in-Some-named.named in
    let once : Bor Name × ShapesBehind = (last.0, c.drop_repeats.new.self) in
    let front = c.loop-named.joined.items in
    let rest = c.next-in-loop-named.new.self.rest.items in
    let step : c.loop-named.named-iterator.rest.items ≡ named ∷ rest = c.in-Some-named.ensures.steps.0 in
    let sorted = subst (λ (names : Names). AreSorted (last ∷ names)) step c.loop-named.invariant.3 in
    let all : front ++ once ∷ c.loop-named.named-iterator.rest.items ≡ c.push.new.self.items ++ named ∷ rest =
    ap (λ (names : Names). front ++ once ∷ names) step
    ∙ sym {A = Names} (append_assoc front (once ∷ []) (named ∷ rest))
    ∙ ap (λ (names : Names). names ++ named ∷ rest) (sym {A = Names} c.in_ok-push.ensures.items) in (
      λ under.
          ap (paths_of_names under) (sym all)
          ∙ paths-other under front c.loop-named.named-iterator.rest.items last c.drop_repeats.new.self (c.drop_repeats.ensures.paths under)
          ∙ c.loop-named.invariant.0 under,
      λ passes lead.
          subst (NamesLead passes) all
          (each-other _ front c.loop-named.named-iterator.rest.items last once (c.drop_repeats.ensures.lead passes) (c.loop-named.invariant.1 passes lead)),
      subst (λ (names : Names). AreRising (names ++ named ∷ [])) (sym c.in_ok-push.ensures.items)
          (rise-push front once named (rise-last_other front last once refl c.loop-named.invariant.2) (next_after last named rest sorted (sym c.eq.ensures ∙ c.if-eq.false))),
      sorted_rest last named named rest refl sorted,
      subst (AllByRecursion IsOnce) (sym c.in_ok-push.ensures.items) (each_push IsOnce front once c.loop-named.invariant.4 c.drop_repeats.ensures.once),
    )

none_left : (c : goal.In_ok-push-2) → c.loop-named.named-iterator.rest.items ≡ []
none_left c =
    let left = c.loop-named.named-iterator.rest in
    no_items left.items (let none = c.in-None.ensures.steps.0 in let long = left.ok.0 in omega (arith, none, long))

pub returns-clause-paths : goal.returns-clause-paths
returns-clause-paths c = λ under.
    ap (paths_of_names under) c.in_ok-push-2.ensures.items
    ∙ paths-other under c.loop-named.joined.items [] c.loop-named.last c.drop_repeats-2.new.self (c.drop_repeats-2.ensures.paths under)
    ∙ ap (λ (names : Names). paths_of_names under (c.loop-named.joined.items ++ c.loop-named.last ∷ names)) (sym (none_left c))
    ∙ c.loop-named.invariant.0 under

pub returns-clause-lead : goal.returns-clause-lead
returns-clause-lead c = λ passes lead.
    subst (NamesLead passes) (sym c.in_ok-push-2.ensures.items)
    (each-other _ c.loop-named.joined.items [] c.loop-named.last (c.loop-named.last.0, c.drop_repeats-2.new.self) (c.drop_repeats-2.ensures.lead passes)
    (subst (λ (names : Names). NamesLead passes (c.loop-named.joined.items ++ c.loop-named.last ∷ names)) (none_left c) (c.loop-named.invariant.1 passes lead)))

pub returns-clause-rise : goal.returns-clause-rise
returns-clause-rise c = subst AreRising (sym c.in_ok-push-2.ensures.items) (rise-last_other c.loop-named.joined.items c.loop-named.last (c.loop-named.last.0, c.drop_repeats-2.new.self) refl c.loop-named.invariant.2)

pub returns-clause-once : goal.returns-clause-once
returns-clause-once c =
    subst (AllByRecursion IsOnce) (sym c.in_ok-push-2.ensures.items)
    (each_push IsOnce c.loop-named.joined.items (c.loop-named.last.0, c.drop_repeats-2.new.self) c.loop-named.invariant.4 c.drop_repeats-2.ensures.once)
