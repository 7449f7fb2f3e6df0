-- The keywords of Rust.
use Rattle.std.specs.Prelude.{ℕ, Bool, List, [], ◌∷◌, codes}
use Rattle.std.specs.List.{list_any}
use Rattle.std.specs.Str.{bytes_eq}

-- the keywords of Rust's edition of 2021, those in use, then those that are kept free, and `_`
abbrev pub keywords : List (List ℕ)
keywords =
    codes "as" ∷ codes "break" ∷ codes "const" ∷ codes "continue" ∷ codes "crate" ∷ codes "else"
    ∷ codes "enum" ∷ codes "extern" ∷ codes "false" ∷ codes "fn" ∷ codes "for" ∷ codes "if"
    ∷ codes "impl" ∷ codes "in" ∷ codes "let" ∷ codes "loop" ∷ codes "match" ∷ codes "mod"
    ∷ codes "move" ∷ codes "mut" ∷ codes "pub" ∷ codes "ref" ∷ codes "return" ∷ codes "self"
    ∷ codes "Self" ∷ codes "static" ∷ codes "struct" ∷ codes "super" ∷ codes "trait"
    ∷ codes "true" ∷ codes "type" ∷ codes "unsafe" ∷ codes "use" ∷ codes "where"
    ∷ codes "while" ∷ codes "async" ∷ codes "await" ∷ codes "dyn"
    ∷ codes "abstract" ∷ codes "become" ∷ codes "box" ∷ codes "do" ∷ codes "final"
    ∷ codes "macro" ∷ codes "override" ∷ codes "priv" ∷ codes "try" ∷ codes "typeof"
    ∷ codes "unsized" ∷ codes "virtual" ∷ codes "yield"
    ∷ codes "_" ∷ []

-- whether a word is a keyword
unfoldable pub is_keyword : List ℕ → Bool
is_keyword word = list_any (λ keyword. bytes_eq keyword word) keywords
