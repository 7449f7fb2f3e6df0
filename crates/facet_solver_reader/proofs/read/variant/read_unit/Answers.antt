use Rattle.std.proofs.Common.{◌≡◌, sym, subst, refl, ap, map, length, slice_get, Some, false}
use Rattle.std.proofs.lemmas.Option.{slice_get_read}
use Rattle.facet_solver_reader.specs.declared.count.Count.TheVariants.{One}
use Rattle.facet_solver_reader.specs.declared.reading.ReadingKind.TheVariants as kinds
use Rattle.facet_solver_reader.specs.declared.reading.ReadingKind.TheViews.{roll-Reading}
use Rattle.facet_solver_reader.specs.Choices.{a_value, a_variant}
use Rattle.facet_solver_reader.specs.Counted.{Counted}
use Rattle.facet_solver_reader.specs.Documents.{Tree, text}
use Rattle.facet_solver_reader.specs.Kinds.{is_object}
use Rattle.facet_solver_reader.specs.Nodes.{value_of}
use Rattle.facet_solver_reader.specs.Readings.{inner}
use Rattle.facet_solver_reader.specs.Rules.{NamedVariant, a_named_variant}
use Rattle.facet_solver_reader.specs.Tables.{rules_at}
use Rattle.facet_solver_reader.specs.Values.{ReadsEnd}
use Rattle.facet_solver_reader.specs.Views.{named_view}
use Rattle.facet_solver_reader.proofs.ReadOnce.{not_one_of}
use Rattle.facet_solver_reader.proofs.Seen.{seen_at}
use Rattle.facet_solver_reader.proofs.ToldVariants.{text_told}
use Rattle.facet_solver_reader.proofs.read.variant.read_unit.Goals as goal

pub returns-in_default : goal.returns-in_default
returns-in_default c =
    let rules = rules_at c.args.tables.now in
    let P = λ (v : Tree). ReadsEnd rules (inner rules)
    (a_named_variant (map named_view c.args.variants.now)) v in
    record {
      told = not_one_of (P (value_of c.args.nodes.now c.args.node)) c.count_units.result
          c.in_default.not-One
          (subst (λ v. Counted (P v) c.count_units.result) (sym c.requires.named)
          c.count_units.ensures);
    }

pub returns : goal.returns
returns c =
    let tb = c.args.tables.now in
    let rules = rules_at tb in
    let vs = map named_view c.args.variants.now in
    let v = value_of c.args.nodes.now c.args.node in
    let P = λ (u : Tree). ReadsEnd rules (inner rules) (a_named_variant vs) u in
    let k = c.unit_index.result in
    let item = c.index-variants-unit_index.result in
    let a : NamedVariant = named_view item in
    let there : slice_get vs k ≡ Some a =
    seen_at named_view c.args.variants.now k item
    (slice_get_read c.args.variants.now (length c.args.variants.now) k item refl
    c.unit_index.ensures.within c.index-variants-unit_index.is) in
    let one : Counted (P v) One =
    subst (λ u. Counted (P u) One) (sym c.requires.named)
    (subst (Counted (P (text c.args.name.now))) c.in-One.is c.count_units.ensures) in
    let reads : P v (a_variant k a_value) =
    subst (λ u. P u (a_variant k a_value)) (sym c.requires.named) c.unit_index.ensures.chosen in
    let no_object : is_object v ≡ false = ap is_object c.requires.named in
    let found = roll-Reading (record {
      variants = c.in_ok-vec.field-0;
      kind = kinds.Value c.value.result;
    }) in
    record {
      told = (
        one,
        text_told tb c.args.nodes.now c.args.node vs k a a_value c.name_of-name.result
            c.value.result found there reads no_object c.value.ensures c.name_of-name.ensures
            c.in_ok-vec.ensures.items refl,
      );
    }
