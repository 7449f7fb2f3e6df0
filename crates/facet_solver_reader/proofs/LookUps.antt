-- What is found in a chain over fields and values is what the definitions find.
use Rattle.std.proofs.Common.{◌≡◌, ◌∙◌, ap, sym, refl, Bor, Bool, Option, Some, None}
use Rattle.std.proofs.Common.{arith, ℕ, suc, ◌+◌, ◌-◌, ◌<◌, List, length, map, take}
use Rattle.std.specs.Prelude.{◌||◌, ◌==◌, if◌then◌else◌, Vec, count_by, zip}
use Rattle.std.specs.Global.{Global}
use Rattle.std.specs.List.{find, list_any, range_with_len}
use Rattle.std.specs.Option.{option_map}
use Rattle.std.proofs.lemmas.List.{take-map, length-map}
use Rattle.facet_solver_shape.specs.Names.{Name}
use Rattle.facet_solver_shape.specs.Paths.{segment_of}
use Rattle.facet_solver_shape.specs.declared.resolution.field.VariantSelection.{VariantSelection}
use Rattle.facet_solver_shape.specs.declared.resolution.path.PathSegment.{PathSegment}
use Rattle.facet_solver_reader.specs.declared.reading.FieldPlace.{FieldPlace}
use Rattle.facet_solver_reader.specs.declared.reading.ObjectReading.{ObjectReading}
use Rattle.facet_solver_reader.specs.declared.reading.Reading.{Reading}
use Rattle.facet_solver_reader.specs.declared.reading.ReadingKind.{ReadingKind}
use Rattle.facet_solver_reader.specs.declared.reading.ReadingKind.TheVariants as kinds
use Rattle.facet_solver_reader.specs.declared.reading.ReadingKind.TheViews.{outs-Object}
use Rattle.facet_solver_reader.specs.LookUps.{fields_of, first_value, goes_on_from, has_name}
use Rattle.facet_solver_reader.specs.LookUps.{names_of, selected_at, selections_of, value_of}
use Rattle.facet_solver_reader.specs.LookUps.{values_of}
use Rattle.facet_solver_reader.specs.PathTexts.{is_text_of}

-- the fields of an object
pub fields_of_object : (o : ObjectReading) (values taken : Vec Reading Global)
    → fields_of (kinds.Object o values taken) ≡ o.fields.items
fields_of_object o values taken = rw (outs-Object o values taken, fields_of)

-- their values
pub values_of_object : (o : ObjectReading) (values taken : Vec Reading Global)
    → values_of (kinds.Object o values taken) ≡ values.items
values_of_object o values taken = rw (outs-Object o values taken, values_of)

-- the value of the first field that passes a test, of fields and values
abbrev pub first_among : (FieldPlace → Bool) → List FieldPlace → List Reading → Option Reading
first_among test fields values =
    option_map (λ f. f.1) (find (λ f. test f.0) (zip fields values))

-- that of an object
pub first_of_object : (test : FieldPlace → Bool) (o : ObjectReading)
    (values taken : Vec Reading Global) (k : ReadingKind) → k ≡ kinds.Object o values taken
    → first_among test o.fields.items values.items ≡ first_among test (fields_of k) (values_of k)
first_of_object test o values taken k is =
    let fields = fields_of_object o values taken in
    let held = values_of_object o values taken in
    sym (ap (λ (j : ReadingKind). first_among test (fields_of j) (values_of j)) is
    ∙ (λ i. first_among test (fields i) (held i)))

-- a field and its value, in memory
abbrev pub Pair : Type 0
Pair = Bor FieldPlace × Bor Reading

-- the pair that is found says the first field that passes a test, and its value
abbrev pub IsPairFound : (FieldPlace → Bool) → List FieldPlace → List Reading → Option Pair → Type 0
IsPairFound test fields values found =
    option_map (λ (p : Pair). (p.0.now, p.1.now)) found ≡ find (λ f. test f.0) (zip fields values)

value_found : (found : Option Pair) → option_map (λ (p : Pair). p.1.now) found
    ≡ option_map (λ (f : FieldPlace × Reading). f.1)
    (option_map (λ (p : Pair). (p.0.now, p.1.now)) found)
value_found None = refl
value_found (Some p) = refl

-- so its value is that of the first
pub is_first : (test : FieldPlace → Bool) (fields : List FieldPlace) (values : List Reading)
    (found : Option Pair) → IsPairFound test fields values found
    → option_map (λ (p : Pair). p.1.now) found ≡ first_among test fields values
is_first test fields values found h =
    value_found found ∙ ap (option_map (λ (f : FieldPlace × Reading). f.1)) h

-- the selection that is found at a path says the variant there
pub selected : (kind : ReadingKind) (text : Name) (found : Option (Bor VariantSelection))
    → option_map (λ (s : Bor VariantSelection). s.now) found
    ≡ find (λ s. is_text_of s.path text) (selections_of kind)
    → option_map (λ (s : Bor VariantSelection). names_of s.now) found ≡ selected_at kind text
selected kind text found h = names_found found ∙ ap (option_map names_of) h
  where
    names_found : (o : Option (Bor VariantSelection))
        → option_map (λ (s : Bor VariantSelection). names_of s.now) o
        ≡ option_map names_of (option_map (λ (s : Bor VariantSelection). s.now) o)
    names_found None = refl
    names_found (Some s) = refl

-- whether one of some beginnings of a path prints as a text
abbrev pub begins : List PathSegment → Name → ℕ → ℕ → Bool
begins path text from count =
    list_any (λ n. is_text_of (take n (map segment_of path)) text) (range_with_len from count)

-- a path goes on from a text as one of its beginnings does
pub all_beginnings : (path : List PathSegment) (text : Name)
    → goes_on_from text (map segment_of path) ≡ begins path text 0 (length path - 0)
all_beginnings path text =
    let e : length (map segment_of path) ≡ length path - 0 =
    omega (arith, length-map path segment_of) in
    ap (begins path text 0) e

-- the next beginning, and the others
pub next_beginning : (path : List PathSegment) (text : Name) (k : ℕ) → k < length path
    → begins path text k (length path - k)
    ≡ (is_text_of (map segment_of (take k path)) text
    || begins path text (k + 1) (length path - (k + 1)))
next_beginning path text k h =
    let e : length path - k ≡ suc (length path - (k + 1)) = omega arith in
    ap (begins path text k) e
    ∙ ap (λ p. is_text_of p text || begins path text (k + 1) (length path - (k + 1)))
    (take-map segment_of k path)

-- in an object a name that one field alone has is looked up as the first that has it
pub only_field : (r : Reading) (name : Name) (o : ObjectReading) (values taken : Vec Reading Global)
    → r.kind ≡ kinds.Object o values taken → count_by (has_name name) o.fields.items ≡ 1
    → first_among (has_name name) o.fields.items values.items ≡ value_of r name
only_field r name o values taken is alone =
    let e : count_by (has_name name) (fields_of r.kind) ≡ 1 =
    ap (λ k. count_by (has_name name) (fields_of k)) is
    ∙ ap (count_by (has_name name)) (fields_of_object o values taken) ∙ alone in
    first_of_object (has_name name) o values taken r.kind is
    ∙ ap (λ n. if n == 1 then first_value (has_name name) r else None) (sym e)
