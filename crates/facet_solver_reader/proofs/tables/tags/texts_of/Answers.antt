use Rattle.std.proofs.Common.{◌+◌, length, refl, subst, sym, arith}
use Rattle.std.proofs.lemmas.Option.{slice_get_read}
use Rattle.facet_solver_reader.specs.Nodes.{Named, entries}
use Rattle.facet_solver_reader.proofs.TagTexts.{HoldsUpto, holds_all, holds_more}
use Rattle.facet_solver_reader.proofs.tables.tags.texts_of.Goals as goal

pub loop-k-preserved : goal.loop-k-preserved
loop-k-preserved c =
    let vs = c.args.variants.now in
    let k = c.loop-k.k in
    let v = c.index-variants-k.result in
    subst (λ (es : Named). HoldsUpto (entries es) vs (k + 1)) (sym c.in_ok-push.ensures.items)
    (holds_more c.loop-k.texts.items vs k v c.as_str.result c.as_str.ensures.value
    c.loop-k.invariant
    (slice_get_read vs (length vs) k v refl c.loop-k-test.true c.index-variants-k.is))

pub returns : goal.returns
returns c =
    holds_all (entries c.loop-k.texts.items) c.args.variants.now c.loop-k.k
    (omega (arith, c.loop-k-test.false)) c.loop-k.invariant
