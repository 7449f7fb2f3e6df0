-- What is replied to an input.
use Rattle.std.specs.Prelude.{ℕ, ◌++◌, List, codes, string_bytes}
use Rattle.std.specs.Fmt.{decimal}
use Rattle.facet_solver.specs.Catalogues.{number_of}
use Rattle.facet_solver_program.specs.declared.reply.Reply.{Reply}
use Rattle.facet_solver_program.specs.declared.reply.Reply.TheVariants.{Resolved, Reported, TooManyResolutions, DuplicateField, BadCatalogue, BadInput, OutOfMemory}

-- the status of a reply
abbrev pub status : Reply → ℕ
status (Resolved index description) = 0
status (Reported report) = 1
status TooManyResolutions = 2
status (DuplicateField report) = 2
status (BadCatalogue fault) = 3
status BadInput = 4
status OutOfMemory = 5

-- its text
abbrev pub text : Reply → List ℕ
text (Resolved index description) =
    codes "resolved " ++ (decimal index ++ (codes ": " ++ string_bytes description))
text (Reported report) = string_bytes report
text TooManyResolutions = codes "too many resolutions"
text (DuplicateField report) = string_bytes report
text (BadCatalogue fault) = codes "bad catalogue " ++ decimal (number_of fault)
text BadInput = codes "bad input"
text OutOfMemory = codes "out of memory"
