-- What is read is viable.
use Rattle.std.proofs.Common.{◌≡◌, inl, inr, refl, ap, ◌∙◌, subst, ℕ, zero, suc, Bool}
use Rattle.std.proofs.Common.{List, Option, None, slice_get, length, arith}
use Rattle.std.specs.Prelude.{if◌then◌else◌, option_and_then}
use Rattle.std.specs.Option.{option_map_or, option_or}
use Rattle.std.proofs.lemmas.Bool.{false≢true}
use Rattle.facet_solver_shape.specs.Catalogues.{Catalogue, IsChecked}
use Rattle.facet_solver_shape.specs.Keys.{Key}
use Rattle.facet_solver_shape.specs.Pointers.{pointee_of_kind}
use Rattle.facet_solver.specs.schema.Schema.{IsBuilt, SchemaView, flat_build}
use Rattle.facet_solver_reader.specs.Choices.{Choice, Reading, an_object}
use Rattle.facet_solver_reader.specs.Documents.{Member, Tree, object, members, depth}
use Rattle.facet_solver_reader.specs.Ends.{last_of, last_within, next_at, next_of}
use Rattle.facet_solver_reader.specs.Known.{Chooses, named}
use Rattle.facet_solver_reader.specs.Objects.{IsReading, Object, Reads, ReadsObject, ignoring}
use Rattle.facet_solver_reader.specs.Objects.{taking}
use Rattle.facet_solver_reader.specs.Parts.{of_shape, of_struct}
use Rattle.facet_solver_reader.specs.Readings.{ReadsValue}
use Rattle.facet_solver_reader.specs.Rules as types
use Rattle.facet_solver_reader.specs.Rules.{End, Rules}
use Rattle.facet_solver_reader.specs.Types.{end_of, end_of_kind, end_of_shape, parts_of, rules_of}
use Rattle.facet_solver_reader.specs.Values.{ReadsDown, ReadsEnd, ReadsPlainEnd, ReadsWithin}
use Rattle.facet_solver_agreement.specs.Alike.{IsKeptAlike, IsPlainRoot}
use Rattle.facet_solver_agreement.specs.Fits.{FitsByNames}
use Rattle.facet_solver_agreement.specs.Kept.{KeepsChoice, KeepsReading, TellNames}
use Rattle.facet_solver_agreement.proofs.Fitting.{keeps}
use Rattle.facet_solver_agreement.proofs.Keys.{required_found}

-- a choice by which an object is read fits it by its names
pub reading_fits : (shapes : Catalogue) (root : ℕ) (rules : Rules) (reads : Reads) (o : Object)
    (c : Choice) (reading : IsReading rules reads o (Chooses (parts_of shapes) (of_struct root)) c)
    → FitsByNames shapes root o.members reading.items
reading_fits shapes root rules reads o c reading = record {
  has_known = λ x there known. reading.known (named x) there known;
  has_required = λ x a.
      let found = required_found rules reads o reading.items reading.agrees x a in
      record { value = found.0; found = found.1 };
}

module _ (shapes : Catalogue) (root : ℕ) (schema : SchemaView) (checked : IsChecked shapes)
    (alike : IsKeptAlike shapes root) (built : IsBuilt (flat_build shapes None) root schema)
  where
    -- so its resolution is viable
    by_reading : (rules : Rules) (reads : Reads) (o : Object) (c : Choice)
        → IsReading rules reads o (Chooses (parts_of shapes) (of_struct root)) c
        → (keys : List Key) → TellNames keys o.members → KeepsChoice schema keys c
    by_reading rules reads o c reading keys told =
        keeps shapes root schema checked alike built c reading.items reading.chooses o.members
        (reading_fits shapes root rules reads o c reading) keys told

    -- strict or not
    pub read_kept : (strict : Bool) (reads : Reads) (ms : List Member) (c : Choice)
        → ReadsObject (rules_of shapes strict) reads (of_struct root) ms c
        → (keys : List Key) → TellNames keys ms → KeepsChoice schema keys c
    read_kept strict reads ms c (inl h) keys told =
        by_reading (rules_of shapes strict) reads (taking ms (of_struct root)) c h.reading keys told
    read_kept strict reads ms c (inr h) keys told =
        by_reading (rules_of shapes strict) reads (ignoring ms (of_struct root)) c h.reading keys
        told

    -- ---- a document that is read as the root is an object
    abbrev plain : IsPlainRoot shapes root
    plain = alike.taken.plain

    next_is : next_at shapes root ≡ None
    next_is =
        ap (option_and_then next_of) plain.is_there
        ∙ ap
        (λ (o : Option ℕ).
        option_or (option_or o plain.shape.proxy) (pointee_of_kind plain.shape.kind))
        plain.no_inner
        ∙ ap (λ (o : Option ℕ). option_or o (pointee_of_kind plain.shape.kind)) plain.no_proxy
        ∙ ap pointee_of_kind plain.is_struct

    last_is : last_of shapes root ≡ root
    last_is = within (length shapes)
      where
        within : (n : ℕ) → last_within shapes n root ≡ root
        within zero = refl
        within (suc n) = ap (λ (o : Option ℕ). option_map_or (last_within shapes n) o root) next_is

    end_is : end_of shapes root ≡ types.an_object (of_struct root)
    end_is =
        ap (λ (id : ℕ). end_of_shape shapes id (slice_get shapes id)) last_is
        ∙ ap (end_of_shape shapes root) plain.is_there
        ∙ ap
        (λ (b : Bool).
        if b then types.anything else end_of_kind shapes root plain.shape plain.shape.kind)
        plain.no_container
        ∙ ap (end_of_kind shapes root plain.shape) plain.is_struct

    pub document_kept : (strict : Bool) (v : Tree) (r : Reading)
        → ReadsValue (rules_of shapes strict) (of_shape root) v r → KeepsReading schema v r
    unfolding ReadsValue
    document_kept strict v r h =
        let rules = rules_of shapes strict in
        by_end v r (ReadsWithin rules (ReadsDown rules (depth v)) h.least)
        (h.holds (suc h.least) (omega arith))
      where
        by_plain : (w : Tree) (q : Reading)
            → ReadsPlainEnd (rules_of shapes strict) (ReadsDown (rules_of shapes strict) (depth v))
            (types.an_object (of_struct root)) w q
            → KeepsReading schema w q
        by_plain (object ms) (an_object c) h = record {
          inner = ms;
          choice = c;
          is_object = refl;
          is_choice = refl;
          keeps =
              read_kept strict (ReadsDown (rules_of shapes strict) (depth v)) (members ms) c h;
        }
        by_plain _ _ h = absurd (false≢true h.0)

        by_end : (w : Tree) (q : Reading) (itself : Reads)
            → ReadsEnd (rules_of shapes strict)
            (record { within = ReadsDown (rules_of shapes strict) (depth v); itself = itself })
            (end_of shapes root) w q
            → KeepsReading schema w q
        by_end w q itself reads =
            let within = ReadsDown (rules_of shapes strict) (depth v) in
            by_plain w q
            (subst
            (λ (e : End).
            ReadsEnd (rules_of shapes strict) (record { within = within; itself = itself }) e w q)
            end_is reads)
