-- The score of a shape by its type identifier.
use Rattle.std.specs.Prelude.{ℕ, List, [], ◌∷◌, codes, unwrap_or, nat_eq}
use lib.Pointwise.{pointwise}
use Rattle.std.specs.Map.{lookup}
use Rattle.facet_solver_shape.specs.Names.{Name}

-- the scores of numbers: their width in bits
abbrev pub score_table : List (Name × ℕ)
score_table =
    (codes "u8", 8) ∷ (codes "i8", 8) ∷ (codes "u16", 16) ∷ (codes "i16", 16)
    ∷ (codes "u32", 32) ∷ (codes "i32", 32) ∷ (codes "f32", 32)
    ∷ (codes "u64", 64) ∷ (codes "i64", 64) ∷ (codes "f64", 64)
    ∷ (codes "usize", 64) ∷ (codes "isize", 64)
    ∷ (codes "u128", 128) ∷ (codes "i128", 128) ∷ []

-- by the table, and 1000 for any other name
abbrev pub score_of : Name → ℕ
score_of name = unwrap_or (lookup (pointwise nat_eq name) score_table) 1000
