-- Types and what stands in for others, as one text.
use Rattle.std.specs.Prelude.{◌≡◌, ℕ, ◌+◌, ◌-◌, ◌≤◌, List, ◌++◌, codes, length, if◌then◌else◌, ◌==◌, ◌&&◌, nat_le}
use Rattle.facet_solver_types.specs.Modules.{stand_ins}
use Rattle.facet_solver_types.specs.Places.{place_at, without_mark}
use Rattle.facet_solver_types.specs.declared.place.Place.{Place}
use Rattle.facet_solver_types.specs.declared.sources.SourcePlace.{SourcePlace}
use Rattle.facet_solver_types.specs.declared.sources.SourcePlace.TheVariants.{StandIns, Types}

-- what stands between the types and the stand-ins: a line that begins a module
abbrev pub module_begin : List ℕ
module_begin = codes "\nmod " ++ (stand_ins ++ codes " {\n")

-- what stands behind the stand-ins: a line that ends it
abbrev pub module_end : List ℕ
module_end = codes "\n}\n"

-- the types, and behind them the stand-ins in a module
abbrev pub text : List ℕ → List ℕ → List ℕ
text types standing = types ++ (module_begin ++ (without_mark standing ++ module_end))

-- the place behind the last character of a text
abbrev pub end_place : List ℕ → Place
end_place text = let bare = without_mark text in place_at (length bare) bare

-- the place in the stand-ins of a place in the lines of the module, whose own is the line 0: of
-- one that they have not, where they begin or end
abbrev pub stand_in_place : List ℕ → Place → Place
stand_in_place standing told =
    if told.line == 0 then record { line = 1; column = 1 }
    else (if nat_le told.line (end_place standing).line then told else end_place standing)

-- where a place in the text stands: the module's begin is the types' end
abbrev pub place : List ℕ → List ℕ → Place → SourcePlace
place types standing told =
    let last = end_place types in
    let line = told.line - last.line - 1 in
    if nat_le told.line last.line then Types told
    else (if line == 0 && nat_le told.column 1 then Types last
    else StandIns (stand_in_place standing (record { line = line; column = told.column })))

-- a place of an offset in the text leads to that of the same byte in its source
pub record LeadsBack (types standing : List ℕ) (told : Place) (found : SourcePlace) : Type 0 where
  pub in_types : (offset : ℕ) → offset ≤ length (without_mark types)
      → told ≡ place_at offset (without_mark (text types standing))
      → found ≡ Types (place_at offset (without_mark types))
  pub in_stand_ins : (offset : ℕ) → offset ≤ length (without_mark standing)
      → told ≡ place_at (length (without_mark types) + (length module_begin + offset))
      (without_mark (text types standing))
      → found ≡ StandIns (place_at offset (without_mark standing))
