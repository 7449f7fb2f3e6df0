use Rattle.std.proofs.Common.{◌≡◌, true, ap, sym, ◌∙◌}
use Rattle.std.specs.Prelude.{nat_eq}
use Rattle.std.specs.List.{starts_with}
use Rattle.facet_solver_types.specs.Places.{byte_order_mark}
use Rattle.facet_solver_types.proofs.ByteOrderMark.{after_mark}
use Rattle.facet_solver_types.proofs.place.without_mark.Goals as goal

pub range_from-requires : goal.range_from-requires
range_from-requires c some =
    let marked : starts_with nat_eq c.args.text.now byte_order_mark ≡ true =
    ap (λ t. starts_with nat_eq t byte_order_mark) (sym c.as_bytes.ensures.value) ∙ sym c.starts_with.ensures.value ∙ c.if-starts_with.true in
    after_mark c.args.text.now c.utf8.text marked
