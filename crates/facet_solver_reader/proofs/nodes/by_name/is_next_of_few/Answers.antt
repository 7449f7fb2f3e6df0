use Rattle.std.proofs.Common.{◌≡◌, ◌∙◌, ◌||◌, Bool, Bor, List, ap, ℕ, bytes_eq, drop, false, refl, rules, sym, take, tests, true}
use Rattle.std.specs.List.{list_any, position}
use Rattle.std.specs.Option.{is_some}
use Rattle.std.proofs.lemmas.Iterator.{YieldsList-from_slice}
use Rattle.std.proofs.lemmas.Iterator.Search.{any_from_yields_List, position_from_yields_List}
use Rattle.std.proofs.lemmas.List.{take-append-drop}
use Rattle.std.proofs.lemmas.List.Folds.{list_any-append}
use Rattle.facet_solver_shape.specs.Names.{Name}
use Rattle.facet_solver_reader.proofs.Quantifiers.{position_told}
use Rattle.facet_solver_reader.proofs.nodes.by_name.is_next_of_few.Goals as goal

-- names are those before an index and the rest, so one of them is sought where it is in either
either : (test : Bor Name → Bool) (n : ℕ) (names before rest : List (Bor Name)) (b c : Bool)
    → before ≡ take n names → rest ≡ drop n names
    → b ≡ list_any test before → c ≡ list_any test rest → (b || c) ≡ list_any test names
either test n names before rest b c front back in_front in_back =
    ap (λ d. d || c) (in_front ∙ ap (list_any test) front)
    ∙ ap (λ d. list_any test (take n names) || d) (in_back ∙ ap (list_any test) back)
    ∙ sym (list_any-append test (take n names) (drop n names))
    ∙ ap (list_any test) (take-append-drop n names)

-- either of two answers, where the other is known
or_yes : (b : Bool) → true ≡ (b || true)
or_yes true = refl
or_yes false = refl

or_no : (b : Bool) → b ≡ (b || false)
or_no true = refl
or_no false = refl

pub returns-in-Some : goal.returns-in-Some
returns-in-Some c =
    let test = λ (n : Bor Name). bytes_eq n.now c.args.name.now in
    let before = c.split_at.result.0.now in
    let rest = c.split_at.result.1.now in
    let first : c.position.result ≡ position test rest =
    position_from_yields_List test _ _ c.position.result c.position.ensures.ran (YieldsList-from_slice rest cc) (λ b r q k. search (rules, tests)) in
    let there : true ≡ list_any test rest =
    sym (ap is_some c.in-Some.is) ∙ position_told test rest c.position.result first in
    or_yes (list_any test before)
    ∙ either test c.min-start.result c.args.names.now before rest (list_any test before) true
    c.split_at.ensures.front c.split_at.ensures.back refl there

pub returns : goal.returns
returns c =
    let test = λ (n : Bor Name). bytes_eq n.now c.args.name.now in
    let before = c.split_at.result.0.now in
    let rest = c.split_at.result.1.now in
    let first : c.position.result ≡ position test rest =
    position_from_yields_List test _ _ c.position.result c.position.ensures.ran (YieldsList-from_slice rest cc) (λ b r q k. search (rules, tests)) in
    let none : false ≡ list_any test rest =
    sym (ap is_some c.in_default.is) ∙ position_told test rest c.position.result first in
    let asked : c.any.result ≡ list_any test before =
    any_from_yields_List test _ _ c.any.result c.any.ensures.ran (YieldsList-from_slice before cc) (λ b r q k. search (rules, tests)) in
    or_no c.any.result
    ∙ either test c.min-start.result c.args.names.now before rest c.any.result false
    c.split_at.ensures.front c.split_at.ensures.back asked none
