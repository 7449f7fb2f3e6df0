-- What the items of a list say, while they are gone through.
use Rattle.std.proofs.Common.{◌++◌, List, Option, option_map}

-- what came before, and what the rest says
abbrev pub behind : {A : Type 0} → List A → Option (List A) → Option (List A)
behind before rest = option_map (λ xs. before ++ xs) rest
