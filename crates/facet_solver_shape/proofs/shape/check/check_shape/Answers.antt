use Rattle.std.proofs.Common.{length, refl, sym, ◌∙◌}
use Rattle.std.proofs.lemmas.Bool.{iff_false}
use Rattle.std.proofs.lemmas.Option.{slice_get_read}
use Rattle.facet_solver_shape.specs.declared.shape.catalogue.CatalogueError.TheVariants.{OutOfRange, NotEarlier, PointerCycle, DuplicateFieldName, DuplicateVariantName}
use Rattle.facet_solver_shape.proofs.Catalogues.{out_of_range, not_earlier, lowest_fault, faultless_at, none_below_first, none_below_not_earlier, none_below_cycle, none_below_fields, none_below_variants, none_at_all}
use Rattle.facet_solver_shape.proofs.shape.check.check_shape.Goals as goal

pub returns-then-names_past-clause-faulty : goal.returns-then-names_past-clause-faulty
returns-then-names_past-clause-faulty c =
    let xs = c.args.shapes.now in
    let index = c.args.index in
    let shape = c.index-shapes-index.result in
    let here = slice_get_read xs (length xs) index shape refl c.requires.inside c.index-shapes-index.is in
    lowest_fault xs index (OutOfRange index) refl (none_below_first xs index) (out_of_range xs index shape here (sym c.names_past.ensures ∙ c.if-names_past.true))

pub returns-then-names_early_from-clause-faulty : goal.returns-then-names_early_from-clause-faulty
returns-then-names_early_from-clause-faulty c =
    let xs = c.args.shapes.now in
    let index = c.args.index in
    let shape = c.index-shapes-index.result in
    let here = slice_get_read xs (length xs) index shape refl c.requires.inside c.index-shapes-index.is in
    let in_list = sym c.names_past.ensures ∙ c.if-names_past.false in
    lowest_fault xs index (NotEarlier index) refl (none_below_not_earlier xs index shape here in_list) (not_earlier xs index shape here in_list (sym c.names_early_from.ensures ∙ c.if-names_early_from.true))

pub returns-then-never_ends-clause-faulty : goal.returns-then-never_ends-clause-faulty
returns-then-never_ends-clause-faulty c =
    let xs = c.args.shapes.now in
    let index = c.args.index in
    let shape = c.index-shapes-index.result in
    let here = slice_get_read xs (length xs) index shape refl c.requires.inside c.index-shapes-index.is in
    let below = none_below_cycle xs index shape here (sym c.names_past.ensures ∙ c.if-names_past.false) (sym c.names_early_from.ensures ∙ c.if-names_early_from.false) in
    lowest_fault xs index (PointerCycle index) refl below (c.never_ends.ensures.0 c.if-never_ends.true)

pub returns-then-repeats_field_name-clause-faulty :
    goal.returns-then-repeats_field_name-clause-faulty
returns-then-repeats_field_name-clause-faulty c =
    let xs = c.args.shapes.now in
    let index = c.args.index in
    let shape = c.index-shapes-index.result in
    let here = slice_get_read xs (length xs) index shape refl c.requires.inside c.index-shapes-index.is in
    let below = none_below_cycle xs index shape here (sym c.names_past.ensures ∙ c.if-names_past.false) (sym c.names_early_from.ensures ∙ c.if-names_early_from.false) in
    let no_cycle = none_below_fields xs index shape here below (iff_false c.never_ends.ensures c.if-never_ends.false) in
    lowest_fault xs index (DuplicateFieldName index) refl no_cycle (rw here (c.repeats_field_name.ensures.0 c.if-repeats_field_name.true))

pub returns-then-repeats_variant_name-clause-faulty :
    goal.returns-then-repeats_variant_name-clause-faulty
returns-then-repeats_variant_name-clause-faulty c =
    let xs = c.args.shapes.now in
    let index = c.args.index in
    let shape = c.index-shapes-index.result in
    let here = slice_get_read xs (length xs) index shape refl c.requires.inside c.index-shapes-index.is in
    let below = none_below_cycle xs index shape here (sym c.names_past.ensures ∙ c.if-names_past.false) (sym c.names_early_from.ensures ∙ c.if-names_early_from.false) in
    let no_cycle = none_below_fields xs index shape here below (iff_false c.never_ends.ensures c.if-never_ends.false) in
    let fields_differ = none_below_variants xs index shape here no_cycle (iff_false c.repeats_field_name.ensures c.if-repeats_field_name.false) in
    lowest_fault xs index (DuplicateVariantName index) refl fields_differ (rw here (c.repeats_variant_name.ensures.0 c.if-repeats_variant_name.true))

pub returns-clause-faultless : goal.returns-clause-faultless
returns-clause-faultless c =
    let xs = c.args.shapes.now in
    let index = c.args.index in
    let shape = c.index-shapes-index.result in
    let here = slice_get_read xs (length xs) index shape refl c.requires.inside c.index-shapes-index.is in
    let below = none_below_cycle xs index shape here (sym c.names_past.ensures ∙ c.if-names_past.false) (sym c.names_early_from.ensures ∙ c.if-names_early_from.false) in
    let no_cycle = none_below_fields xs index shape here below (iff_false c.never_ends.ensures c.if-never_ends.false) in
    let fields_differ = none_below_variants xs index shape here no_cycle (iff_false c.repeats_field_name.ensures c.if-repeats_field_name.false) in
    faultless_at xs index (none_at_all xs index shape here fields_differ (iff_false c.repeats_variant_name.ensures c.if-repeats_variant_name.false))
