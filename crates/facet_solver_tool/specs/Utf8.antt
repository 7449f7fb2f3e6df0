-- What is answered where bytes are no UTF-8.
use Rattle.std.specs.Prelude.{ℕ, List, ◌++◌, codes}
use Rattle.std.specs.Fmt.{decimal}
use Rattle.std.specs.Str.Lossy.{utf8_valid_len}
use Rattle.facet_solver_shape.specs.Names.{Name}
use Rattle.facet_solver_json.specs.Places.{line_at}

-- what the bytes are called, the line and the offset of the first byte that is none
abbrev pub no_utf8_text : Name → List ℕ → List ℕ
no_utf8_text name bytes =
    let offset = utf8_valid_len bytes in
    name ++ (codes ":" ++ (decimal (line_at offset bytes)
    ++ (codes ": no UTF-8 at byte " ++ decimal offset)))
