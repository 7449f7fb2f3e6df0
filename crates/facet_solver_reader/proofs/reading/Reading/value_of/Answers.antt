use Rattle.std.proofs.Common.{◌≡◌, ◌∙◌, ap, sym, rules, tests}
use Rattle.std.specs.Prelude.{count_by}
use Rattle.std.specs.Option.{option_map}
use Rattle.std.proofs.lemmas.Iterator.{YieldsList-from_slice, YieldsList-from_zip}
use Rattle.std.proofs.lemmas.Iterator.Consumers.{YieldsList-at, YieldsList-from_filter}
use Rattle.std.proofs.lemmas.Iterator.Consumers.{count_from_yields_List}
use Rattle.std.proofs.lemmas.Iterator.Search.{find_from_yields_List}
use Rattle.std.proofs.lemmas.List.Sums.{length-filter}
use Rattle.facet_solver_reader.specs.LookUps.{has_name}
use Rattle.facet_solver_reader.proofs.LookUps.{IsPairFound, Pair, is_first, only_field}
use Rattle.facet_solver_reader.proofs.reading.Reading.value_of.Goals as goal

pub returns : goal.returns
returns c =
    let name = c.args.name.now in
    let object = c.in-Object in
    let fields = object.object.fields.items in
    let values = object.values.items in
    let found : IsPairFound (has_name name) fields values c.find.result =
    find_from_yields_List {s = c.zip.result} (λ f. has_name name f.0) c.find.new.self _
    c.find.result c.find.ensures.ran
    (YieldsList-from_zip (YieldsList-from_slice fields (search rules))
    (YieldsList-from_slice values (search rules)))
    (λ x b q k. search (rules, tests)) in
    let counted : c.count.result ≡ count_by (has_name name) fields =
    count_from_yields_List c.filter.result c.count.result c.count.ensures.ran
    (YieldsList-from_filter _ (has_name name)
    (YieldsList-at c.filter.ensures.source (YieldsList-from_slice fields (search rules)))
    c.filter.ensures.closure (λ x b q k. search (rules, tests)))
    ∙ length-filter (has_name name) fields in
    ap (option_map (λ (p : Pair). p.1.now)) (sym c.in_ok-value.was)
    ∙ is_first (has_name name) fields values c.find.result found
    ∙ only_field c.args.self.now name object.object object.values object.taken object.is
    (sym counted ∙ c.if-count-ne1.false)

pub returns-in_err-value : goal.returns-in_err-value
returns-in_err-value c =
    let name = c.args.name.now in
    let object = c.in-Object in
    let fields = object.object.fields.items in
    let values = object.values.items in
    let found : IsPairFound (has_name name) fields values c.find.result =
    find_from_yields_List {s = c.zip.result} (λ f. has_name name f.0) c.find.new.self _
    c.find.result c.find.ensures.ran
    (YieldsList-from_zip (YieldsList-from_slice fields (search rules))
    (YieldsList-from_slice values (search rules)))
    (λ x b q k. search (rules, tests)) in
    let counted : c.count.result ≡ count_by (has_name name) fields =
    count_from_yields_List c.filter.result c.count.result c.count.ensures.ran
    (YieldsList-from_filter _ (has_name name)
    (YieldsList-at c.filter.ensures.source (YieldsList-from_slice fields (search rules)))
    c.filter.ensures.closure (λ x b q k. search (rules, tests)))
    ∙ length-filter (has_name name) fields in
    ap (option_map (λ value. value.now)) c.from_residual.ensures
    ∙ ap (option_map (λ (p : Pair). p.1.now)) (sym c.in_err-value.was)
    ∙ is_first (has_name name) fields values c.find.result found
    ∙ only_field c.args.self.now name object.object object.values object.taken object.is
    (sym counted ∙ c.if-count-ne1.false)
