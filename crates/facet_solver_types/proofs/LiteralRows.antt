-- What text tokens say, as Rust reads them: the definitions, row by row.
use Rattle.std.proofs.Common.{◌≡◌, Some, None, codes, refl, [], ◌∷◌}
use Rattle.std.specs.Str.{chars}
use lib.Utf8.{encode}
use Rattle.facet_solver_types.specs.Literals.{quoted_value, raw_value}

-- texts that say something
pub quoted_rows :
    (quoted_value ([]) ≡ Some ([]))
    × (quoted_value (codes "name") ≡ Some (codes "name"))
    × (quoted_value (codes "a b") ≡ Some (codes "a b"))
    × (quoted_value (codes "\\n\\r\\t\\\\\\0\\'\\\"") ≡ Some (10 ∷ 13 ∷ 9 ∷ 92 ∷ 0 ∷ 39 ∷ 34 ∷ []))
    × (quoted_value (codes "a\\\"b") ≡ Some (codes "a\"b"))
    × (quoted_value (codes "\\x41\\x7f\\x7F") ≡ Some (65 ∷ 127 ∷ 127 ∷ []))
    × (quoted_value (codes "\\u{41}") ≡ Some (codes "A"))
    × (quoted_value (codes "\\u{1F600}") ≡ Some (240 ∷ 159 ∷ 152 ∷ 128 ∷ []))
    × (quoted_value (codes "\\u{1_F6_00_}") ≡ Some (240 ∷ 159 ∷ 152 ∷ 128 ∷ []))
    × (quoted_value (codes "\\u{00e9}") ≡ Some (195 ∷ 169 ∷ []))
    × (quoted_value (codes "\\u{000041}") ≡ Some (codes "A"))
    × (quoted_value (codes "\\u{10FFFF}") ≡ Some (244 ∷ 143 ∷ 191 ∷ 191 ∷ []))
    × (quoted_value (111 ∷ 110 ∷ 101 ∷ 10 ∷ 116 ∷ 119 ∷ 111 ∷ []) ≡ Some (111 ∷ 110 ∷ 101 ∷ 10 ∷ 116 ∷ 119 ∷ 111 ∷ []))
    × (quoted_value (111 ∷ 110 ∷ 101 ∷ 13 ∷ 10 ∷ 116 ∷ 119 ∷ 111 ∷ []) ≡ Some (111 ∷ 110 ∷ 101 ∷ 10 ∷ 116 ∷ 119 ∷ 111 ∷ []))
    × (quoted_value (111 ∷ 110 ∷ 101 ∷ 92 ∷ 10 ∷ 32 ∷ 32 ∷ 32 ∷ 32 ∷ 116 ∷ 119 ∷ 111 ∷ []) ≡ Some (codes "onetwo"))
    × (quoted_value (111 ∷ 110 ∷ 101 ∷ 92 ∷ 13 ∷ 10 ∷ 32 ∷ 9 ∷ 32 ∷ 116 ∷ 119 ∷ 111 ∷ []) ≡ Some (codes "onetwo"))
    × (quoted_value (111 ∷ 110 ∷ 101 ∷ 92 ∷ 10 ∷ 10 ∷ 10 ∷ 32 ∷ 116 ∷ 119 ∷ 111 ∷ []) ≡ Some (codes "onetwo"))
    × (quoted_value (111 ∷ 110 ∷ 101 ∷ 92 ∷ 10 ∷ 32 ∷ 13 ∷ 32 ∷ 116 ∷ 119 ∷ 111 ∷ []) ≡ Some (codes "onetwo"))
    × (quoted_value (111 ∷ 110 ∷ 101 ∷ 32 ∷ 92 ∷ 10 ∷ []) ≡ Some (codes "one "))
    × (quoted_value (111 ∷ 110 ∷ 101 ∷ 92 ∷ 10 ∷ 92 ∷ 110 ∷ []) ≡ Some (111 ∷ 110 ∷ 101 ∷ 10 ∷ []))
    × (quoted_value (195 ∷ 169 ∷ 116 ∷ 195 ∷ 169 ∷ []) ≡ Some (195 ∷ 169 ∷ 116 ∷ 195 ∷ 169 ∷ []))
    × (quoted_value (111 ∷ 110 ∷ 101 ∷ 92 ∷ 10 ∷ 194 ∷ 160 ∷ 116 ∷ 119 ∷ 111 ∷ []) ≡ Some (111 ∷ 110 ∷ 101 ∷ 194 ∷ 160 ∷ 116 ∷ 119 ∷ 111 ∷ []))
unfolding chars encode
quoted_rows = (refl, refl, refl, refl, refl, refl, refl, refl, refl, refl, refl, refl, refl, refl, refl, refl, refl, refl, refl, refl, refl, refl)

-- texts that Rust reads as none
pub refused_rows :
    (quoted_value (codes "\\x80") ≡ None)
    × (quoted_value (codes "\\xff") ≡ None)
    × (quoted_value (codes "\\x4") ≡ None)
    × (quoted_value (codes "\\x") ≡ None)
    × (quoted_value (codes "\\xg0") ≡ None)
    × (quoted_value (codes "\\u{0000041}") ≡ None)
    × (quoted_value (codes "\\u{}") ≡ None)
    × (quoted_value (codes "\\u{_41}") ≡ None)
    × (quoted_value (codes "\\u{d800}") ≡ None)
    × (quoted_value (codes "\\u{DFFF}") ≡ None)
    × (quoted_value (codes "\\u{110000}") ≡ None)
    × (quoted_value (codes "\\u41") ≡ None)
    × (quoted_value (codes "\\u{41") ≡ None)
    × (quoted_value (codes "\\u{4 1}") ≡ None)
    × (quoted_value (codes "a\\") ≡ None)
    × (quoted_value (codes "\\q") ≡ None)
    × (quoted_value (codes "\\N") ≡ None)
    × (quoted_value (codes "a\"b") ≡ None)
    × (quoted_value (111 ∷ 110 ∷ 101 ∷ 13 ∷ 116 ∷ 119 ∷ 111 ∷ []) ≡ None)
    × (quoted_value (111 ∷ 110 ∷ 101 ∷ 92 ∷ 13 ∷ 32 ∷ 116 ∷ 119 ∷ 111 ∷ []) ≡ None)
    × (quoted_value (codes "one\\ two") ≡ None)
unfolding chars encode
refused_rows = (refl, refl, refl, refl, refl, refl, refl, refl, refl, refl, refl, refl, refl, refl, refl, refl, refl, refl, refl, refl, refl)

-- raw texts
pub raw_rows :
    (raw_value ([]) ≡ Some ([]))
    × (raw_value (codes "a\\n") ≡ Some (codes "a\\n"))
    × (raw_value (codes "a\"b") ≡ Some (codes "a\"b"))
    × (raw_value (97 ∷ 13 ∷ 10 ∷ 98 ∷ []) ≡ Some (97 ∷ 10 ∷ 98 ∷ []))
    × (raw_value (97 ∷ 13 ∷ 13 ∷ 10 ∷ 98 ∷ []) ≡ None)
    × (raw_value (97 ∷ 13 ∷ 98 ∷ []) ≡ None)
    × (raw_value (codes "\\") ≡ Some (codes "\\"))
    × (raw_value (195 ∷ 169 ∷ []) ≡ Some (195 ∷ 169 ∷ []))
unfolding chars encode
raw_rows = (refl, refl, refl, refl, refl, refl, refl, refl)
