-- Why a text was not read, with its places.
use Rattle.std.specs.Prelude.{ℕ, Bool, ◌&&◌, ◌||◌, ◌==◌, ◌-◌, nat_le, slice_index, List, [], ◌∷◌, ◌++◌, codes, length, map, min, take, drop, encode_utf8, if◌then◌else◌, flat_map, Option, unwrap_or, Result, Ok, Err}
use Rattle.std.specs.String.{string_bytes}
use Rattle.facet_solver_shape.specs.Catalogues.{refusal_text as catalogue_text}
use Rattle.facet_solver_shape.specs.Names.{Name}
use Rattle.facet_solver_shape.specs.declared.shape.catalogue.CatalogueError.{CatalogueError}
use Rattle.facet_solver_types.specs.declared.error.Invalid as code
use Rattle.facet_solver_types.specs.declared.error.TypesError.{TypesError}
use Rattle.facet_solver_types.specs.declared.error.TypesError.TheVariants as error
use Rattle.facet_solver_types.specs.declared.fault.Fault.{Fault}
use Rattle.facet_solver_types.specs.declared.fault.Fault.TheVariants as fault
use Rattle.facet_solver_types.specs.declared.place.Place.{Place}
use Rattle.facet_solver_types.specs.declared.problem.Problem.{Problem}
use Rattle.facet_solver_types.specs.declared.problem.Problem.TheVariants.{NoToken, OpenText, OpenCharacter, OpenComment, OpenBracket, ClosesNothing, Expected, Attribute, OfType, Shape}
use Rattle.facet_solver_types.specs.declared.type_problem.TypeProblem.TheVariants.{Unknown}
use Rattle.facet_solver_types.specs.declared.tokens.part.Part.{Part}
use Rattle.facet_solver_types.specs.declared.tokens.part.Part.TheVariants.{Gap, Spelled}
use Rattle.facet_solver_types.specs.Failures.{Failure, of_text, needed, of_root, roots}
use Rattle.facet_solver_types.specs.FirstParts.{first_part}
use Rattle.facet_solver_types.specs.Places.{begins_character, place_at}
use Rattle.facet_solver_types.specs.PlaceTexts.{place_text}
use Rattle.facet_solver_types.specs.ProblemTexts.{expected_text}
use Rattle.facet_solver_types.specs.Refusals.{refusal_text}
use Rattle.facet_solver_types.specs.TypeProblems.{type_problem_text}
use Rattle.facet_solver_types.specs.ShapeProblems.{shape_problem_text}

-- what is met: these bytes, or the end
abbrev pub met_text : List ℕ → List ℕ
met_text met =
    if length met == 0 then codes "the end" else codes "'" ++ (met ++ codes "'")

-- what is wrong, where this is met
abbrev pub problem_text : Problem → List ℕ → List ℕ
problem_text (NoToken byte) met = codes "'" ++ (encode_utf8 byte ++ codes "' begins no token")
problem_text OpenText met = codes "text is not closed"
problem_text OpenCharacter met = codes "character is not closed"
problem_text OpenComment met = codes "comment is not closed"
problem_text OpenBracket met = codes "'" ++ (met ++ codes "' is not closed")
problem_text ClosesNothing met = codes "'" ++ (met ++ codes "' closes nothing")
problem_text (Expected expected) met =
    codes "expected " ++ (expected_text expected ++ (codes ", met " ++ met_text met))
problem_text (Attribute refusal) met = refusal_text refusal met
problem_text (OfType problem) met = type_problem_text problem met
problem_text (Shape problem) met = shape_problem_text problem met

-- what is wrong at a place, the place first
abbrev pub invalid_text : code.Invalid → List ℕ
invalid_text i = place_text i.place ++ (codes ": " ++ problem_text i.problem i.met.now)

-- what is wrong at a place, behind another in a line of its own
abbrev pub next_line : code.Invalid → List ℕ
next_line i = codes "\n" ++ invalid_text i

-- what is wrong at places, a line for each
abbrev pub lines_text : List code.Invalid → List ℕ
lines_text [] = []
lines_text (first ∷ others) = invalid_text first ++ flat_map next_line others

-- why a root is no type, where this is met
abbrev pub root_text : Problem → List ℕ → List ℕ
root_text (OfType Unknown) met = codes "unknown type '" ++ (met ++ codes "'")
root_text problem met = problem_text problem met

-- a name behind another
abbrev pub next_name : Name → List ℕ
next_name name = codes ", " ++ name

-- that not just one type stands by itself: these do
abbrev pub roots_text : List Name → List ℕ
roots_text [] = codes "no type stands by itself; name the root"
roots_text (first ∷ others) =
    codes "several types stand by themselves: " ++ (first
    ++ (flat_map next_name others ++ codes "; name the root"))

-- why a text was not read
abbrev pub error_text : TypesError → List ℕ
error_text (error.Invalid invalid) = lines_text invalid.items
error_text (error.Root problem met) = root_text problem met.now
error_text (error.Roots names) = roots_text (map string_bytes names.items)
error_text (error.Catalogue refusal) = catalogue_text refusal
error_text error.OutOfMemory = codes "out of memory"

-- a token, as it is written
abbrev pub spelled_text : List ℕ → Result Part Problem → List ℕ
spelled_text text (Ok (Spelled token)) = take token.len text
spelled_text text (Ok (Gap len)) = []
spelled_text text (Err problem) = []

-- the token that stands first, as it is written, or nothing
abbrev pub first_written : List ℕ → List ℕ
first_written text = if length text == 0 then [] else spelled_text text (first_part text)

-- whether a character begins at an offset, or the text ends there
abbrev pub is_boundary : ℕ → List ℕ → Bool
is_boundary offset text =
    nat_le offset (length text)
    && (offset == length text || begins_character (slice_index text offset))

-- the token that stands at an offset, as it is written, or nothing
abbrev pub met_at : ℕ → List ℕ → List ℕ
met_at offset text = if is_boundary offset text then first_written (drop offset text) else []

-- what is wrong at a place of a text, and the token that stands there
pub record Invalid : Type 0 where
  pub place : Place
  pub problem : Problem
  pub met : List ℕ

-- what is seen of it
abbrev pub invalid_view : code.Invalid → Invalid
invalid_view i = record { place = i.place; problem = i.problem; met = i.met.now }

-- what an error tells
pub data Told : Type 0 where
  invalid : List Invalid → Told
  no_root : Problem → List ℕ → Told
  several : List Name → Told
  no_catalogue : CatalogueError → Told
  out_of_memory : Told

-- what is seen of an error
abbrev pub error_view : TypesError → Told
error_view (error.Invalid found) = invalid (map invalid_view found.items)
error_view (error.Root problem met) = no_root problem met.now
error_view (error.Roots names) = several (map string_bytes names.items)
error_view (error.Catalogue refusal) = no_catalogue refusal
error_view error.OutOfMemory = out_of_memory

-- what is wrong at an offset of a text
abbrev pub invalid_at : List ℕ → ℕ → Problem → Invalid
invalid_at text offset problem = record {
  place = place_at (min offset (length text)) text;
  problem = problem;
  met = met_at offset text;
}

-- what is wrong at one offset of a text, alone
abbrev pub one_invalid : List ℕ → ℕ → Problem → Told
one_invalid text offset problem = invalid (invalid_at text offset problem ∷ [])

-- what a fault tells of a text, where it stands in it
abbrev pub invalid_by : List ℕ → Fault → List Invalid
invalid_by text (fault.At offset problem) = invalid_at text offset problem ∷ []
invalid_by text other = []

-- what faults tell of a text
abbrev pub all_invalid : List ℕ → List Fault → List Invalid
all_invalid text faults = flat_map (invalid_by text) faults

-- what a fault of a text tells
abbrev pub text_error : List ℕ → Fault → Told
text_error text (fault.At offset problem) = one_invalid text offset problem
text_error text (fault.Catalogue refusal) = no_catalogue refusal
text_error text fault.OutOfMemory = out_of_memory

-- what a fault of a root tells, whose tokens stand behind those of a text
abbrev pub root_error : List ℕ → List ℕ → Fault → Told
root_error text root (fault.At offset problem) =
    if nat_le (length text) offset
    then no_root problem (met_at (offset - length text) root)
    else one_invalid text offset problem
root_error text root other = text_error text other

-- what a failure of a text and of a root tells
abbrev pub told_of : List ℕ → Option Name → Failure → Told
told_of text root (of_text fault) = text_error text fault
told_of text root (needed faults) = invalid (all_invalid text faults)
told_of text root (of_root fault) = root_error text (unwrap_or root []) fault
told_of text root (roots names) = several names
