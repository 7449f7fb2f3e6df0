-- Where the path of a type leads.
use Rattle.std.specs.Prelude.{ℕ, Bool, ◌||◌, ◌-◌, ◌==◌, if◌then◌else◌, List, [], ◌∷◌, codes, drop}
use Rattle.std.specs.List.{list_any}
use Rattle.facet_solver_shape.specs.Names.{Name, name_eq}
use Rattle.facet_solver_types.specs.declared.grammar.origin.Origin as declared
use Rattle.facet_solver_types.specs.declared.grammar.origin.Origin.TheVariants as code
use Rattle.facet_solver_types.specs.FirstTokens.{sees_word}
use Rattle.facet_solver_types.specs.Tokens.{Token}

-- where a path leads, as far as it tells: nowhere, where there is none or it ends with `self`; out
-- of the module, where it ends with `super`; in the crate, or by its name alone, into a module; into
-- a crate whose types are known; or elsewhere
pub data Origin : Type 0 where
  here : Origin
  above : Origin
  within : Name → Origin
  beside : Name → Origin
  known : Origin
  elsewhere : Origin

-- what is seen of it
abbrev pub origin_view : declared.Origin → Origin
origin_view code.Here = here
origin_view code.Above = above
origin_view (code.Within module_name) = within module_name.now
origin_view (code.Beside module_name) = beside module_name.now
origin_view code.Known = known
origin_view code.Elsewhere = elsewhere

-- whether a path begins in the crate of the text
abbrev pub is_own : List Token → Bool
is_own tokens =
    sees_word (codes "crate") tokens || sees_word (codes "self") tokens
    || sees_word (codes "super") tokens

-- the text of the first token, or nothing
abbrev pub first_text : List Token → Name
first_text [] = []
first_text (token ∷ tokens) = token.text

-- whether this is a crate whose types are known
abbrev pub is_known : Name → Bool
is_known name =
    list_any (λ one. name_eq name one)
    (codes "std" ∷ codes "core" ∷ codes "alloc" ∷ codes "serde_json" ∷ [])

-- where a path leads that begins in the crate of the text, by the last word of its front
abbrev pub own_origin : List Token → Origin
own_origin tokens =
    if sees_word (codes "self") tokens then here
    else (if sees_word (codes "super") tokens then above
    else (if sees_word (codes "crate") tokens then within [] else within (first_text tokens)))

-- where the path leads with which tokens begin, whose front is so long
abbrev pub origin_of : ℕ → List Token → Origin
origin_of front tokens =
    if front == 0 then here
    else (if is_own tokens then own_origin (drop (front - 2) tokens)
    else (if is_known (first_text tokens) then known
    else (if front == 2 then beside (first_text tokens) else elsewhere)))
