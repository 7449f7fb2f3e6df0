-- The lines of a catalogue's shapes.
use Rattle.std.proofs.Common.{◌≡◌, ℕ, zero, suc, ◌+◌, ◌<◌, [], ◌∷◌, ◌++◌, codes, length, take, add-one, append_assoc, append-nil, ap, sym, ◌∙◌, arith}
use Rattle.std.specs.List.{flat_map}
use Rattle.facet_solver_shape.specs.Catalogues.{Catalogue}
use Rattle.facet_solver_tool.specs.SeparatedTexts.{behind}
use Rattle.facet_solver_tool.specs.ShapeText.{line, line_at, lines}
use Rattle.facet_solver_tool.proofs.ElementLines as each

-- behind the lines so far comes that of the shape at the next index
pub line_at_more : (shapes : Catalogue) (i : ℕ) → i < length shapes → lines (take i shapes) ++ line_at shapes i ≡ lines (take (i + 1) shapes)
line_at_more shapes i within = go shapes i within ∙ ap (λ k. lines (take k shapes)) (sym (add-one i))
  where
    go : (shapes : Catalogue) (i : ℕ) → i < length shapes → lines (take i shapes) ++ line_at shapes i ≡ lines (take (suc i) shapes)
    go [] i within = absurd (omega arith)
    go (s ∷ ss) zero within = sym (append-nil (line s))
    go (s ∷ ss) (suc i) within =
        append_assoc (line s) (flat_map (behind (codes ",") line) (take i ss)) (line_at (s ∷ ss) (suc i))
        ∙ ap (λ ys. line s ++ ys)
        (each.line_at_more (behind (codes ",") line) ss i (omega arith) ∙ ap (λ k. flat_map (behind (codes ",") line) (take k ss)) (add-one i))
