use Rattle.std.proofs.Common.{◌≡◌, ◌&&◌, true, false, [], ap, sym, ◌∙◌}
use Rattle.std.specs.FinSet.{contains}
use Rattle.facet_solver_shape.specs.Fields.{FieldView, takes_any_name}
use Rattle.facet_solver_shape.specs.Resolved.{names_view}
use Rattle.facet_solver.specs.solver.SeenNames.{of_category}
use Rattle.facet_solver.proofs.CategoryNames.{met_by_kept, met_by_name, met_by_rest}
use Rattle.facet_solver.proofs.NameSets.{contains_name}
use Rattle.facet_solver.proofs.solver.report.seen.SeenNames.meet.Goals as goal

pub returns-then-contains : goal.returns-then-contains
returns-then-contains c = λ seen are.
    let f = c.args.field.now in
    let keys = c.of_category-names.result.now.keys in
    let same : keys ≡ of_category c.args.self.now f.category = c.of_category-names.ensures ∙ ap (λ (f : FieldView). of_category c.args.self.now f.category) c.field.view_is in
    let required : f.is_required ≡ true = sym (ap (λ (f : FieldView). f.is_required) c.field.view_is) ∙ c.if-not-field.false in
    let named : contains (names_view keys) f.name ≡ true =
    ap (λ (f : FieldView). contains (names_view keys) f.name) (sym c.field.view_is)
    ∙ contains_name keys c.field.inside.serialized_name ∙ sym c.contains.ensures ∙ c.if-contains.true in
    met_by_name f.is_required (contains (names_view keys) f.name) (takes_any_name f.category && contains (names_view keys) []) required named
    ∙ sym (met_by_kept seen c.args.self.now f keys are same)

pub returns-then-takes_any_name : goal.returns-then-takes_any_name
returns-then-takes_any_name c = λ seen are.
    let f = c.args.field.now in
    let keys = c.of_category-names.result.now.keys in
    let same : keys ≡ of_category c.args.self.now f.category = c.of_category-names.ensures ∙ ap (λ (f : FieldView). of_category c.args.self.now f.category) c.field.view_is in
    let required : f.is_required ≡ true = sym (ap (λ (f : FieldView). f.is_required) c.field.view_is) ∙ c.if-not-field.false in
    let named : contains (names_view keys) f.name ≡ false =
    ap (λ (f : FieldView). contains (names_view keys) f.name) (sym c.field.view_is)
    ∙ contains_name keys c.field.inside.serialized_name ∙ sym c.contains.ensures ∙ c.if-contains.false in
    let takes : takes_any_name f.category ≡ true = sym (c.takes_any_name.ensures ∙ ap (λ (f : FieldView). takes_any_name f.category) c.field.view_is) ∙ c.if-takes_any_name.true in
    let any : c.contains-then-takes_any_name.result ≡ contains (names_view keys) [] = c.contains-then-takes_any_name.ensures ∙ sym (contains_name keys record c.field.inside.serialized_name { now = [] }) in
    any
    ∙ ap (λ b. b && contains (names_view keys) []) (sym takes)
    ∙ met_by_rest f.is_required (contains (names_view keys) f.name) (takes_any_name f.category && contains (names_view keys) []) required named
    ∙ sym (met_by_kept seen c.args.self.now f keys are same)

pub returns-else-takes_any_name : goal.returns-else-takes_any_name
returns-else-takes_any_name c = λ seen are.
    let f = c.args.field.now in
    let keys = c.of_category-names.result.now.keys in
    let same : keys ≡ of_category c.args.self.now f.category = c.of_category-names.ensures ∙ ap (λ (f : FieldView). of_category c.args.self.now f.category) c.field.view_is in
    let required : f.is_required ≡ true = sym (ap (λ (f : FieldView). f.is_required) c.field.view_is) ∙ c.if-not-field.false in
    let named : contains (names_view keys) f.name ≡ false =
    ap (λ (f : FieldView). contains (names_view keys) f.name) (sym c.field.view_is)
    ∙ contains_name keys c.field.inside.serialized_name ∙ sym c.contains.ensures ∙ c.if-contains.false in
    let takes : takes_any_name f.category ≡ false = sym (c.takes_any_name.ensures ∙ ap (λ (f : FieldView). takes_any_name f.category) c.field.view_is) ∙ c.if-takes_any_name.false in
    c.if-takes_any_name.false
    ∙ ap (λ b. b && contains (names_view keys) []) (sym takes)
    ∙ met_by_rest f.is_required (contains (names_view keys) f.name) (takes_any_name f.category && contains (names_view keys) []) required named
    ∙ sym (met_by_kept seen c.args.self.now f keys are same)
