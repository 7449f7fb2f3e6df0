-- What texts come to, or why they have no types: the definitions, row by row.
use Rattle.std.proofs.Common.{◌≡◌, List, [], ◌∷◌, length, map, Option, Some, None, Result, Ok, Err, refl, sym, ap, ◌∙◌, codes}
use Rattle.facet_solver_shape.specs.Catalogues.{HasFault, IsFirstFault}
use Rattle.facet_solver_shape.specs.declared.shape.Shape as shape
use Rattle.facet_solver_shape.specs.declared.shape.catalogue.CatalogueError.{CatalogueError}
use Rattle.facet_solver_shape.specs.declared.shape.catalogue.CatalogueError.TheVariants.{OutOfRange, NotEarlier, PointerCycle, DuplicateFieldName, DuplicateVariantName}
use Rattle.facet_solver_shape.proofs.CatalogueRows.{first_fault_holds, unsound}
use Rattle.facet_solver_types.specs.declared.error.TypesError.{TypesError}
use Rattle.facet_solver_types.specs.declared.error.TypesError.TheVariants as error
use Rattle.facet_solver_types.specs.declared.fault.Fault.{Fault}
use Rattle.facet_solver_types.specs.declared.fault.Fault.TheVariants.{At, Catalogue}
use Rattle.facet_solver_types.specs.declared.problem.Problem.TheVariants as problem
use Rattle.facet_solver_types.specs.Errors.{error_view, told_of}
use Rattle.facet_solver_types.specs.Failures.{Failure, of_text}
use Rattle.facet_solver_types.specs.GivenTypes.{IsRefused, IsTold}
use Rattle.facet_solver_types.specs.ParsedTexts.{Explains, IsExplained, Parses, types}
use Rattle.facet_solver_types.specs.ShapeViews.{Shape, shape_view, shapes_view}
use Rattle.facet_solver_types.specs.TypesViews.{Types}
use Rattle.facet_solver_types.specs.Absences.{is_taken}
use Rattle.facet_solver_types.specs.AttributeEntries.{entries_from, parts_from}
use Rattle.facet_solver_types.specs.Bodies.{variant}
use Rattle.facet_solver_types.specs.Characters.{blank_len, continues_name}
use Rattle.facet_solver_types.specs.Fields.{named_field}
use Rattle.facet_solver_types.specs.FirstParts.{first_part, first_token, gap_len}
use Rattle.facet_solver_types.specs.Flattened.{members}
use Rattle.facet_solver_types.specs.Items.{items_from, piece}
use Rattle.facet_solver_types.specs.Keywords.{is_keyword}
use Rattle.facet_solver_types.specs.MarkTokens.{mark}
use Rattle.facet_solver_types.specs.Mentions.{mentions}
use Rattle.facet_solver_types.specs.NamedItems.{alias_of, enum_of, struct_of}
use Rattle.facet_solver_types.specs.Pieces.{pieces_from}
use Rattle.facet_solver_types.specs.Prefixes.{attributes_from, begins_attribute}
use Rattle.facet_solver_types.specs.Runs.{nest_after, run_from}
use Rattle.facet_solver_types.specs.SameBracket.{same_bracket}
use Rattle.facet_solver_types.specs.Sought.{is_same}
use Rattle.facet_solver_types.specs.Starts.{begins_statement, item_len, named_call_len, path_from, path_step, qualified_start, qualifiers_len, run_and_end_len, start_of, visible_len, whole_call_len}
use Rattle.facet_solver_types.specs.Texts.{begins_character, character, opening_of, text_token}
use Rattle.facet_solver_types.specs.Tokens.{tokens_from}
use Rattle.facet_solver_types.specs.UsedTypes.{reached_from}
use Rattle.facet_solver_types.specs.Walks.{reach, with_type}
use Rattle.facet_solver_types.specs.WrittenTypes.{front_len, written_type}

-- a bracket that closes nothing
abbrev closing : Failure
closing = of_text (At 1 problem.ClosesNothing)

-- a text with one has no types, and says so
of_closing : types (codes "a)") None ≡ Err closing
unfolding alias_of attributes_from begins_attribute begins_character begins_statement blank_len character continues_name entries_from enum_of first_part first_token front_len gap_len is_keyword is_same is_taken item_len items_from mark members mentions named_call_len named_field nest_after opening_of parts_from path_from path_step piece pieces_from qualified_start qualifiers_len reach reached_from run_and_end_len run_from same_bracket start_of struct_of text_token tokens_from variant visible_len whole_call_len with_type written_type
of_closing = refl

-- a struct of no fields has a type
pub parses_holds : (found : Types) × Parses (codes "struct S;") None (Ok found)
unfolding alias_of attributes_from begins_attribute begins_character begins_statement blank_len character continues_name entries_from enum_of first_part first_token front_len gap_len is_keyword is_same is_taken item_len items_from mark members mentions named_call_len named_field nest_after opening_of parts_from path_from path_step piece pieces_from qualified_start qualifiers_len reach reached_from run_and_end_len run_from same_bracket start_of struct_of text_token tokens_from variant visible_len whole_call_len with_type written_type
parses_holds = (_, refl)

-- a text at fault has none, and an error at it tells the fault
pub parses_fails : (found : Types) → ¬ (Parses (codes "a)") None (Ok found))
parses_fails found is = let no = sym of_closing ∙ is in cc

-- memory may be refused at any time
pub explains_rows :
    Explains (codes "a)") None error.OutOfMemory
    × Parses (codes "a)") None (Err error.OutOfMemory)
    × ((e : TypesError) → error_view e ≡ told_of (codes "a)") None closing → IsExplained (codes "a)") None e)
    × (¬ (IsExplained (codes "a)") None error.OutOfMemory))
unfolding alias_of attributes_from begins_attribute begins_character begins_statement blank_len character continues_name entries_from enum_of first_part first_token front_len gap_len is_keyword is_same is_taken item_len items_from mark members mentions named_call_len named_field nest_after opening_of parts_from path_from path_step piece pieces_from qualified_start qualifiers_len reach reached_from run_and_end_len run_from same_bracket start_of struct_of text_token tokens_from variant visible_len whole_call_len with_type written_type
explains_rows = (
  tt,
  tt,
  λ e tells. record { failure = closing; of_outcome = refl; tells = tells },
  λ h. let other = h.tells ∙ ap (told_of (codes "a)") None) (sym h.of_outcome) in cc,
)

-- a failure is told as it is, and no other
pub told_rows :
    IsTold (Err closing) closing
    × (¬ (IsTold (Err closing) (of_text (At 0 problem.ClosesNothing))))
    × ((found : Types) → ¬ (IsTold (Ok found) closing))
told_rows = (refl, λ is. cc, λ found h. h)

-- shapes that have a fault are refused for the first, and without shapes there is none
pub refused_rows :
    IsRefused (shapes_view unsound) (OutOfRange 0)
    × ((refusal : CatalogueError) → ¬ (IsRefused [] refusal))
refused_rows = (
  record { list = unsound; says = refl; first = first_fault_holds },
  λ refusal h. go h.list refusal h.says h.first.present,
)
  where
    none : (refusal : CatalogueError) → ¬ (HasFault [] refusal)
    none (OutOfRange index) h = h
    none (NotEarlier index) h = h
    none (PointerCycle index) h = let no = h 1 in cc
    none (DuplicateFieldName index) h = h
    none (DuplicateVariantName index) h = h

    go : (list : List shape.Shape) (refusal : CatalogueError) → shapes_view list ≡ []
        → ¬ (HasFault list refusal)
    go [] refusal says h = none refusal h
    go (s ∷ list) refusal says h = cc
