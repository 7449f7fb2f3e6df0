-- Letters of ASCII names.
use Rattle.std.proofs.Common.{◌≡◌, ℕ, suc, ◌<◌, List, ◌∷◌, get_or, subst, IsAscii, ◌∙◌, sym}
use Rattle.std.specs.Char.{to_ascii_lowercase}
use Rattle.std.proofs.lemmas.Str.Ascii.{lowercase_ascii}

-- the first letter is ASCII, also small
pub first_ascii : (name bytes rest : List ℕ) (b small : ℕ) → bytes ≡ name → bytes ≡ b ∷ rest → IsAscii name → small ≡ to_ascii_lowercase b → small < 128
first_ascii name bytes rest b small same e all is =
    let first : b < 128 = subst (λ (xs : List ℕ). get_or xs 0 0 < 128) (sym same ∙ e) (all 0) in
    subst (λ n. n < 128) (sym is) (lowercase_ascii b first)

-- and so is each behind it
pub behind_ascii : (name bytes rest : List ℕ) (b i : ℕ) → bytes ≡ name → bytes ≡ b ∷ rest → IsAscii name → get_or rest i 0 < 128
behind_ascii name bytes rest b i same e all =
    subst (λ (xs : List ℕ). get_or xs (suc i) 0 < 128) (sym same ∙ e) (all (suc i))
