use Rattle.std.proofs.Common.{ap, map, subst, sym, ◌∙◌}
use Rattle.std.specs.Option.{option_copied}
use Rattle.std.proofs.lemmas.Result.{err_from_is_err_and}
use Rattle.facet_solver_uses.specs.declared.choice_to_values.Values.{Values}
use Rattle.facet_solver_uses.specs.ChoiceToValues.{AreValues, IsFieldFault, Meaning}
use Rattle.facet_solver_uses.specs.KeysToChoice.{keys_of}
use Rattle.facet_solver_uses.proofs.ChoiceToValues.{field_unknown, meant_among, mismatch, others_unknown, placed, same_meaning}
use Rattle.facet_solver_uses.proofs.FirstUnknown.{none_unknown}
use Rattle.facet_solver_uses.proofs.choice_to_values.choice_to_values.Goals as goal

pub returns-in_err-contents-clause-unknown : goal.returns-in_err-contents-clause-unknown
returns-in_err-contents-clause-unknown c =
    let r = c.args.resolution.now in
    let keys = keys_of c.args.keys.now in
    let p = err_from_is_err_and c.from_residual.result c.from_residual.ensures.1 in
    rw (p.1, p.2) (others_unknown r keys c.in_err-contents.field-0.0 c.in_err-contents.ensures)

pub members_of-requires : goal.members_of-requires
members_of-requires c = λ member f is.
    let r = c.args.resolution.now in
    let keys = keys_of c.args.keys.now in
    let same = same_meaning r keys c.deref.result.now (ap (map option_copied) c.deref.ensures.value ∙ c.in_ok-meant.ensures) in
    meant_among r keys member f (ap (λ (meaning : Meaning). meaning member) (sym same) ∙ is)

pub returns-in_err-fields-clause-values : goal.returns-in_err-fields-clause-values
returns-in_err-fields-clause-values c =
    let r = c.args.resolution.now in
    let keys = keys_of c.args.keys.now in
    let fault = c.in_err-fields.field-0.0 in
    let same = same_meaning r keys c.deref.result.now (ap (map option_copied) c.deref.ensures.value ∙ c.in_ok-meant.ensures) in
    let p = err_from_is_err_and c.from_residual-in_err-fields.result c.from_residual-in_err-fields.ensures.1 in
    rw (p.1, p.2) (mismatch r keys fault c.in_ok-contents.ensures.2 (subst (λ (meaning : Meaning). IsFieldFault r meaning fault) same c.in_err-fields.ensures))

pub returns-in_err-fields-clause-unknown : goal.returns-in_err-fields-clause-unknown
returns-in_err-fields-clause-unknown c =
    let r = c.args.resolution.now in
    let keys = keys_of c.args.keys.now in
    let fault = c.in_err-fields.field-0.0 in
    let same = same_meaning r keys c.deref.result.now (ap (map option_copied) c.deref.ensures.value ∙ c.in_ok-meant.ensures) in
    let p = err_from_is_err_and c.from_residual-in_err-fields.result c.from_residual-in_err-fields.ensures.1 in
    rw (p.1, p.2) (field_unknown r keys fault c.in_ok-contents.ensures.2 (subst (λ (meaning : Meaning). IsFieldFault r meaning fault) same c.in_err-fields.ensures))

pub returns-clause-values : goal.returns-clause-values
returns-clause-values c =
    let r = c.args.resolution.now in
    let keys = keys_of c.args.keys.now in
    let others = c.in_ok-contents.field-0 in
    let values : Values = record { fields = c.in_ok-fields.fields; contents = others.contents; rest = others.rest } in
    let same = same_meaning r keys c.deref.result.now (ap (map option_copied) c.deref.ensures.value ∙ c.in_ok-meant.ensures) in
    let fields = subst (λ (meaning : Meaning). AreValues r meaning values.fields.items) same c.in_ok-fields.ensures in
    record {
      fields = fields;
      contents = c.in_ok-contents.ensures.0;
      rest = c.in_ok-contents.ensures.1;
      taken = c.in_ok-contents.ensures.2;
      placed = placed r keys values fields c.in_ok-contents.ensures.0 c.in_ok-contents.ensures.1;
    }

pub returns-clause-unknown : goal.returns-clause-unknown
returns-clause-unknown c =
    sym (none_unknown c.args.resolution.now (keys_of c.args.keys.now) c.in_ok-contents.ensures.2)
