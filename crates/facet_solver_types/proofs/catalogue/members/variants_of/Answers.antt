use Rattle.std.proofs.Common.{◌∙◌, ◌++◌, ◌∷◌, List, [], length, map, sym, ap, rules, length-append, append-nil}
use Rattle.std.specs.declared.alloc.Global.{Global}
use Rattle.std.specs.declared.string.String.{String}
use Rattle.std.specs.declared.vec.Vec.{Vec}
use Rattle.std.specs.String.{string_bytes}
use Rattle.std.proofs.lemmas.Slice.Zip.{zip_end, zip_turn}
use Rattle.facet_solver_shape.specs.Names.{Name}
use Rattle.facet_solver_types.specs.MadeShapes.{variant_of}
use Rattle.facet_solver_types.specs.PlacedNames.{names_in}
use Rattle.facet_solver_types.specs.ShapeViews as shapes
use Rattle.facet_solver_types.specs.Understood.{variant_view}
use Rattle.facet_solver_types.proofs.ZippedLists.{paired_over, paired_step}
use Rattle.facet_solver_types.proofs.catalogue.members.variants_of.Goals as goal

-- the names of a list
abbrev own : Vec (String Global) Global → List Name
own list = map string_bytes list.items

pub loop-variant-preserved : goal.loop-variant-preserved
loop-variant-preserved c =
    let l = c.loop-variant in
    let vs = c.args.variants.now in
    let ts = c.args.types.now in
    let rule = variant_of (names_in c.args.ids.now) in
    let turn = zip_turn vs ts l.yielded c.into_iter-variant-iterator.result l.variant-iterator
    c.next.new.self c.next.result (search rules) (search rules) l.yielded_by
    (c.in-Some.variant, c.in-Some.own) c.in-Some.is c.next.ensures.steps in
    let a = c.in-Some.variant.now in
    let b = c.in-Some.own.now in
    l.invariant
    ∙ paired_step variant_view own rule vs ts shapes.variant_view l.made.items c.push.new.self.items
    c.in_ok-variant_of.field-0 (length l.yielded)
    (length (l.yielded ++ (c.in-Some.variant, c.in-Some.own) ∷ [])) a b
    turn.0 turn.1 (turn.2 a) (turn.3 b)
    (length-append l.yielded ((c.in-Some.variant, c.in-Some.own) ∷ []))
    (c.in_ok-variant_of.ensures
    ∙ ap (λ types. rule (variant_view a) (map string_bytes types)) c.deref.ensures.value)
    c.in_ok-push.ensures.items

pub returns : goal.returns
returns c =
    let l = c.loop-variant in
    let vs = c.args.variants.now in
    let ts = c.args.types.now in
    let rule = variant_of (names_in c.args.ids.now) in
    let made = map shapes.variant_view l.made.items in
    let end = zip_end vs ts l.yielded c.into_iter-variant-iterator.result l.variant-iterator
    c.next.new.self c.next.result (search rules) (search rules) l.yielded_by c.in-None.is
    c.next.ensures.steps in
    sym (l.invariant
    ∙ ap (λ left. made ++ left) (paired_over variant_view own rule vs ts (length l.yielded) end)
    ∙ append-nil made)
