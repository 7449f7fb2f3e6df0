use Rattle.std.proofs.Common.{◌+◌, ◌∙◌, ◌∷◌, [], ap, length, sym, subst, List, Option}
use Rattle.std.specs.Prelude.{IfSome}
use Rattle.std.proofs.lemmas.List.{length-append}
use Rattle.facet_solver_reader.specs.declared.tables.tags.TagTable.{TagTable}
use Rattle.facet_solver_reader.specs.Tags.{AreTags, IsTagTable}
use Rattle.facet_solver_reader.proofs.TagTexts.{tags_more}
use Rattle.facet_solver_reader.proofs.tables.tags.tags.Goals as goal

pub loop-index-preserved : goal.loop-index-preserved
loop-index-preserved c =
    let shapes = c.args.shapes.now in
    let tags = c.loop-index.tags.items in
    let x = c.in_ok-new.field-0 in
    let long = c.loop-index.invariant.0 in (
      ap (λ (ts : List (Option TagTable)). length ts) c.in_ok-push.ensures.items
          ∙ length-append tags (x ∷ []) ∙ ap (λ n. n + 1) long,
      subst (λ (ts : List (Option TagTable)). AreTags shapes ts) (sym c.in_ok-push.ensures.items)
          (tags_more shapes tags x c.loop-index.invariant.1
          (subst (λ n. IfSome x (IsTagTable shapes n)) (c.new.ensures ∙ sym long)
          c.in_ok-new.ensures)),
    )
