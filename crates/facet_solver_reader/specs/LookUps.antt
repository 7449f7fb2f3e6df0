-- What is looked up in a reading: by the text of a path, or by a name of the document.
use Rattle.std.specs.Prelude.{List, [], Option, None, Bool, ◌||◌, ◌==◌, if◌then◌else◌}
use Rattle.std.specs.Prelude.{zip, length, take, codes, count_by, slice_get}
use Rattle.std.specs.List.{find, list_any, range_with_len}
use Rattle.std.specs.Option.{option_map, option_or}
use Rattle.facet_solver_shape.specs.Names.{Name, name_eq}
use Rattle.facet_solver_shape.specs.declared.resolution.field.VariantSelection.{VariantSelection}
use Rattle.facet_solver_reader.specs.declared.reading.FieldPlace.{FieldPlace}
use Rattle.facet_solver_reader.specs.declared.reading.Reading.{Reading}
use Rattle.facet_solver_reader.specs.declared.reading.ReadingKind.{ReadingKind}
use Rattle.facet_solver_reader.specs.declared.reading.ReadingKind.TheOpen.{ReadingKind-F}
use Rattle.facet_solver_reader.specs.declared.reading.ReadingKind.TheViews.{out-ReadingKind}
use Rattle.facet_solver_reader.specs.FieldPlaces.{Path}
use Rattle.facet_solver_reader.specs.PathTexts.{is_text_of}
use Rattle.facet_solver_reader.specs.Told.{Names, names_view}

-- where the fields of an object belong, in order; what is no object has none
abbrev pub fields_of : ReadingKind → List FieldPlace
fields_of kind =
    elim (out-ReadingKind kind) [ ReadingKind-F.Object o _ _ ↦ o.fields.items | _ ↦ [] ]

-- the values of the fields of an object, in order
abbrev pub values_of : ReadingKind → List Reading
values_of kind =
    elim (out-ReadingKind kind) [ ReadingKind-F.Object _ values _ ↦ values.items | _ ↦ [] ]

-- the variants that are selected in an object, in order
abbrev pub selections_of : ReadingKind → List VariantSelection
selections_of kind =
    elim (out-ReadingKind kind) [ ReadingKind-F.Object o _ _ ↦ o.selections.items | _ ↦ [] ]

-- the value of the first field that passes a test
abbrev pub first_value : (FieldPlace → Bool) → Reading → Option Reading
first_value test r =
    option_map (λ f. f.1) (find (λ f. test f.0) (zip (fields_of r.kind) (values_of r.kind)))

-- the value of the first field whose path prints as the text
abbrev pub value_at : Reading → Name → Option Reading
value_at r text = first_value (λ f. is_text_of f.path text) r

-- whether a field has the name in the document
abbrev pub has_name : Name → FieldPlace → Bool
has_name name f = name_eq f.name.now name

-- the value of the field that has the name in the document, if one field alone has it
abbrev pub value_of : Reading → Name → Option Reading
value_of r name =
    if count_by (has_name name) (fields_of r.kind) == 1 then first_value (has_name name) r else None

-- the names of the variant that a selection says
abbrev pub names_of : VariantSelection → Names
names_of s = (s.enum_name.now, s.variant_name.now)

-- the variant first selected at the path of a text
abbrev pub selected_at : ReadingKind → Name → Option Names
selected_at kind text =
    option_map names_of (find (λ s. is_text_of s.path text) (selections_of kind))

-- that at a path; at the empty text the outermost of the value, or else that at the root's path
abbrev pub variant_at : Reading → Name → Option Names
variant_at r [] =
    option_or (option_map names_view (slice_get r.variants.items 0))
    (selected_at r.kind (codes "<root>"))
variant_at r text = selected_at r.kind text

-- whether some beginning of a path, shorter than it, prints as the text
abbrev pub goes_on_from : Name → Path → Bool
goes_on_from text path =
    list_any (λ n. is_text_of (take n path) text) (range_with_len 0 (length path))

-- whether a variant is selected at the path of a text, or a field's path goes on from there
abbrev pub has_block : Reading → Name → Bool
has_block r text =
    list_any (λ s. is_text_of s.path text) (selections_of r.kind)
    || list_any (λ f. goes_on_from text f.path) (fields_of r.kind)
