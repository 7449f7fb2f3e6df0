use Rattle.std.proofs.Common.{◌∷◌, [], ◌++◌, ◌∙◌, List, ap, arith, map, subst, sym, take}
use Rattle.std.specs.List.{AllByRecursion}
use Rattle.std.proofs.lemmas.List.{map_more}
use Rattle.facet_solver.specs.build.Nested.{KeyPaths, entered_view, under_variant}
use Rattle.facet_solver.specs.build.NestedTable.{LeadTo, is_filled, paths_by_name, under_of}
use Rattle.facet_solver.proofs.Counted.{no_fall-refl, no_fall-trans}
use Rattle.facet_solver.proofs.NestedFields.{each_push}
use Rattle.facet_solver.proofs.NestedTable.{map-push, visits_at_most, visits_more}
use Rattle.facet_solver.proofs.build.nested.table.Earlier.under_variants.Goals as goal

pub loop-variant-init : goal.loop-variant-init
loop-variant-init c =
    let none = c.in_ok-each.ensures.items in (
      ap (map (paths_by_name (under_of c.args.self))) none,
      subst (AllByRecursion (LeadTo (is_filled c.args.self.entries.now))) (sym none) tt,
      omega arith,
      no_fall-refl c.args.steps.now,
    )

pub returns-in_err-fields-clause-visits : goal.returns-in_err-fields-clause-visits
returns-in_err-fields-clause-visits c =
    visits_at_most c.args.variants.now c.loop-variant.variant-index c.variant-item.result _ _ _ c.loop-variant-test.true c.variant-item.is c.loop-variant.invariant.2 c.under_variant.ensures.visits

pub returns-in_err-push-clause-visits : goal.returns-in_err-push-clause-visits
returns-in_err-push-clause-visits c =
    visits_at_most c.args.variants.now c.loop-variant.variant-index c.variant-item.result _ _ _ c.loop-variant-test.true c.variant-item.is c.loop-variant.invariant.2 c.under_variant.ensures.visits

pub loop-variant-preserved : goal.loop-variant-preserved
loop-variant-preserved c =
    let e = entered_view c.args.self.entered in
    let cat = c.args.self.shapes.now in
    let vs = c.args.variants.now in
    let i = c.loop-variant.variant-index in
    let v = c.variant-item.result in
    let lt = c.loop-variant-test.true in
    let paths = paths_by_name (under_of c.args.self) in
    let filled = is_filled c.args.self.entries.now in
    let fields = c.in_ok-fields.fields in (
      ap (map paths) c.in_ok-push.ensures.items
          ∙ map-push paths c.loop-variant.each.items fields
          ∙ ap (λ (all : List KeyPaths). all ++ paths fields ∷ []) c.loop-variant.invariant.0
          ∙ ap (λ (ps : KeyPaths). map (under_variant e cat) (take i vs) ++ ps ∷ []) (c.in_ok-fields.ensures.fields.stand ∙ ap (under_variant e cat) c.variant-item.is)
          ∙ sym (map_more (under_variant e cat) vs i v lt),
      subst (AllByRecursion (LeadTo filled)) (sym c.in_ok-push.ensures.items) (each_push (LeadTo filled) c.loop-variant.each.items fields c.loop-variant.invariant.1 c.in_ok-fields.ensures.fields.lead),
      visits_more vs i v _ _ _ lt c.variant-item.is c.loop-variant.invariant.2 c.under_variant.ensures.visits,
      no_fall-trans _ _ _ c.loop-variant.invariant.3 c.under_variant.ensures.no_fall,
    )
