use Rattle.std.proofs.Common.{◌∙◌, ap, sym, Bool, rules, tests}
use Rattle.std.specs.Option.{option_map}
use Rattle.std.proofs.lemmas.Iterator.{YieldsList-from_slice, YieldsList-from_zip}
use Rattle.std.proofs.lemmas.Iterator.Search.{find_from_yields_List}
use Rattle.facet_solver_reader.specs.declared.reading.FieldPlace.{FieldPlace}
use Rattle.facet_solver_reader.specs.PathTexts.{is_text_of}
use Rattle.facet_solver_reader.proofs.LookUps.{IsPairFound, Pair, first_of_object, is_first}
use Rattle.facet_solver_reader.proofs.reading.Reading.value_at.Goals as goal

pub returns : goal.returns
returns c =
    let test : FieldPlace → Bool = λ f. is_text_of f.path c.args.path.now in
    let object = c.in-Object in
    let fields = object.object.fields.items in
    let values = object.values.items in
    let found : IsPairFound test fields values c.find.result =
    find_from_yields_List {s = c.zip-placed.result} (λ f. test f.0) c.find.new.self _
    c.find.result c.find.ensures.ran
    (YieldsList-from_zip (YieldsList-from_slice fields (search rules))
    (YieldsList-from_slice values (search rules)))
    (λ x b q k. search (rules, tests)) in
    ap (option_map (λ (p : Pair). p.1.now)) (sym c.in_ok-value.was)
    ∙ is_first test fields values c.find.result found
    ∙ first_of_object test object.object object.values object.taken c.args.self.now.kind object.is

pub returns-in_err-value : goal.returns-in_err-value
returns-in_err-value c =
    let test : FieldPlace → Bool = λ f. is_text_of f.path c.args.path.now in
    let object = c.in-Object in
    let fields = object.object.fields.items in
    let values = object.values.items in
    let found : IsPairFound test fields values c.find.result =
    find_from_yields_List {s = c.zip-placed.result} (λ f. test f.0) c.find.new.self _
    c.find.result c.find.ensures.ran
    (YieldsList-from_zip (YieldsList-from_slice fields (search rules))
    (YieldsList-from_slice values (search rules)))
    (λ x b q k. search (rules, tests)) in
    ap (option_map (λ value. value.now)) c.from_residual.ensures
    ∙ ap (option_map (λ (p : Pair). p.1.now)) (sym c.in_err-value.was)
    ∙ is_first test fields values c.find.result found
    ∙ first_of_object test object.object object.values object.taken c.args.self.now.kind object.is
