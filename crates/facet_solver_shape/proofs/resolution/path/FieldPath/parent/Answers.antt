use Rattle.std.proofs.Common.{◌≡◌, ◌-◌, map, take, length, ap, sym, ◌∙◌, arith}
use Rattle.std.proofs.lemmas.List.{take-map, length-map}
use Rattle.facet_solver_shape.specs.Paths.{segment_of}
use Rattle.facet_solver_shape.proofs.resolution.path.FieldPath.parent.Goals as goal

pub returns : goal.returns
returns c =
    let path = c.args.self.now in
    let seen : map segment_of c.deref.result.now ≡ path = ap (map segment_of) c.deref.ensures.value ∙ c.self.view_is in
    let kept : c.saturating_sub-kept.result ≡ length path - 1 = omega (arith, ap length seen, length-map c.deref.result.now segment_of, c.deref.ensures.len) in
    ap (map segment_of) c.in_ok-segments.ensures.items
    ∙ sym (take-map segment_of c.saturating_sub-kept.result c.deref.result.now)
    ∙ (λ i. take (kept i) (seen i))
