use Rattle.std.proofs.Common.{◌≡◌, ◌++◌, ◌∙◌, ap, drop, length, sym, subst, take, List, arith}
use Rattle.std.specs.Option.{option_copied}
use Rattle.facet_solver_shape.specs.declared.shape.Variant.{Variant}
use Rattle.facet_solver_reader.specs.Nodes.{AreByName, Named, entries}
use Rattle.facet_solver_reader.specs.Tags.{HoldsVariants, tag_of}
use Rattle.facet_solver_reader.specs.Types.{variants_at}
use Rattle.facet_solver_reader.proofs.Opened.{whole}
use Rattle.facet_solver_reader.proofs.TagTexts.{holds_sorted}
use Rattle.facet_solver_reader.proofs.tables.tags.TagTable.new.Goals as goal

pub returns : goal.returns
returns c =
    let texts = c.in_ok-by_text.by_text in
    let sorted = c.sort_by_name.new.named in
    let vs = variants_at c.args.shapes.now c.args.id in
    let all : take texts.len (sorted ++ drop (length sorted) texts.items) ≡ sorted =
    whole texts.len sorted _
    (omega (arith, c.sort_by_name.ensures.length, ap length c.deref_mut.ensures.value, texts.ok.0)) in
    let holds : HoldsVariants (entries c.deref_mut.result.now) vs =
    subst (λ (es : Named). HoldsVariants (entries es) vs) (sym c.deref_mut.ensures.value)
    (subst (λ (ws : List Variant). HoldsVariants (entries texts.items) ws) c.variants_at.ensures
    c.in_ok-by_text.ensures) in
    record {
      tag_is =
          sym (ap tag_of c.repr_at.ensures) ∙ sym c.tag_of.ensures
          ∙ ap (λ o. option_copied o) c.in-Some.is;
      variants =
          subst (λ (es : Named). HoldsVariants (entries es) vs) (sym all)
          (holds_sorted c.deref_mut.result.now sorted vs c.sort_by_name.ensures.permutation holds);
      by_text = subst AreByName (sym all) c.in-None.ensures.sorted;
    }
