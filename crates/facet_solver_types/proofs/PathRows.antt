-- Where the paths of types lead: the definitions, row by row.
use Rattle.std.proofs.Common.{◌≡◌, ℕ, List, [], length, Option, Some, None, Result, Ok, codes, refl}
use Rattle.facet_solver_types.specs.declared.fault.Fault.{Fault}
use Rattle.facet_solver_types.specs.Characters.{blank_len, continues_name}
use Rattle.facet_solver_types.specs.FirstParts.{first_part, first_token, gap_len}
use Rattle.facet_solver_types.specs.Keywords.{is_keyword}
use Rattle.facet_solver_types.specs.MarkTokens.{mark}
use Rattle.facet_solver_types.specs.Origins.{Origin, here, above, within, beside, known, elsewhere}
use Rattle.facet_solver_types.specs.Pieces.{and_then, pieces_from}
use Rattle.facet_solver_types.specs.Runs.{nest_after, run_from}
use Rattle.facet_solver_types.specs.SameBracket.{same_bracket}
use Rattle.facet_solver_types.specs.Texts.{begins_character, character, opening_of, text_token}
use Rattle.facet_solver_types.specs.Tokens.{tokens, tokens_from}
use Rattle.facet_solver_types.specs.WrittenTypes.{Written, front_len, named, written_type}

-- where the path of a type leads, if it has a name
abbrev origin_in : Written → Option Origin
origin_in (named n) = Some n.origin
origin_in other = None

-- where the path of the type leads that a text is
abbrev origin : List ℕ → Result (Option Origin) Fault
origin text =
    and_then (tokens text) (λ ts.
    and_then (written_type (record { tokens = ts; end = length text })) (λ w. Ok (origin_in w)))

-- paths
pub origin_rows :
    (origin (codes "T") ≡ Ok (Some here))
    × (origin (codes "crate::T") ≡ Ok (Some (within [])))
    × (origin (codes "self::T") ≡ Ok (Some here))
    × (origin (codes "self::super::super::T") ≡ Ok (Some above))
    × (origin (codes "self::m::T<U>") ≡ Ok (Some (within (codes "m"))))
    × (origin (codes "crate::a::m::T") ≡ Ok (Some (within (codes "m"))))
    × (origin (codes "m::T<U>") ≡ Ok (Some (beside (codes "m"))))
    × (origin (codes "serde_json::Value") ≡ Ok (Some known))
    × (origin (codes "std::a::T") ≡ Ok (Some known))
    × (origin (codes "::m::T") ≡ Ok (Some elsewhere))
    × (origin (codes "a::m::T") ≡ Ok (Some elsewhere))
    × (origin (codes "(m::T)") ≡ Ok None)
unfolding tokens_from first_part first_token gap_len blank_len continues_name is_keyword mark opening_of text_token begins_character character same_bracket run_from nest_after pieces_from front_len written_type
origin_rows = (refl, refl, refl, refl, refl, refl, refl, refl, refl, refl, refl, refl)
