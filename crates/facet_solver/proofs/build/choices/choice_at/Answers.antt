use Rattle.std.proofs.Common.{◌∷◌, ◌++◌, ◌∙◌, [], ap, arith}
use Rattle.facet_solver.specs.build.Build.{build_of}
use Rattle.facet_solver.specs.declared.build.choices.Part.{Part}
use Rattle.facet_solver.specs.declared.build.choices.Part.TheVariants.{Fields}
use Rattle.facet_solver.proofs.ChoiceParts.{all_out, last_part, root_choice, under_way}
use Rattle.facet_solver.proofs.build.choices.choice_at.Goals as goal

pub loop-part-init : goal.loop-part-init
loop-part-init c = under_way (build_of c.args.walker.now.build) _ _ _ c.clear.ensures.items c.in_ok-push_root.ensures

pub push_fields-requires-clause-below : goal.push_fields-requires-clause-below
push_fields-requires-clause-below c =
    let last = c.in-Some.ensures.items ∙ ap (λ (p : Part). c.pop.new.self.items ++ p ∷ []) c.in-Fields.is in
    (last_part (build_of c.args.walker.now.build) _ c.pop.new.self.items (Fields c.in-Fields.fields c.in-Fields.rank) _ _ last c.loop-part.invariant).is.0

pub push_fields-requires-clause-rank : goal.push_fields-requires-clause-rank
push_fields-requires-clause-rank c =
    let last = c.in-Some.ensures.items ∙ ap (λ (p : Part). c.pop.new.self.items ++ p ∷ []) c.in-Fields.is in
    (last_part (build_of c.args.walker.now.build) _ c.pop.new.self.items (Fields c.in-Fields.fields c.in-Fields.rank) _ _ last c.loop-part.invariant).is.1

pub returns : goal.returns
returns c =
    let none = c.in_default.ensures.cases.0 in
    let long = c.loop-part.parts.ok.0 in
    root_choice (build_of c.args.walker.now.build) c.args.root c.args.rank c.requires.rank _
    (c.reverse.ensures.items ∙ all_out (build_of c.args.walker.now.build) c.loop-part.parts.items c.loop-part.choice.items _ (omega (arith, none, long)) c.loop-part.invariant)
