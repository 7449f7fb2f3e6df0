-- Types of std that documents have as a struct or an enum.
use Rattle.std.specs.Prelude.{ℕ, List, [], ◌∷◌, codes}
use Rattle.facet_solver_shape.specs.Names.{Name}
use Rattle.facet_solver_shape.specs.declared.shape.ScalarType.TheVariants as scalars
use Rattle.facet_solver_types.specs.declared.standard.Standard.{Standard}
use Rattle.facet_solver_types.specs.declared.standard.Standard.TheVariants.{Duration, SystemTime, Range, RangeFrom, RangeTo, Result, Bound, OsString}
use Rattle.facet_solver_types.specs.TypeEntries.{TypeEntry, list, scalar}

-- how many types it takes
abbrev pub count_of : Standard → ℕ
count_of Duration = 0
count_of SystemTime = 0
count_of OsString = 0
count_of Result = 2
count_of kind = 1

-- the types of what stands in it, where it takes these
abbrev pub inner_ids : Standard → List Name → List Name
inner_ids Duration ids = codes "u64" ∷ codes "u32" ∷ []
inner_ids SystemTime ids = codes "u64" ∷ codes "u32" ∷ []
inner_ids OsString ids = codes "Vec<u8>" ∷ codes "Vec<u16>" ∷ []
inner_ids kind ids = ids

-- what stands in it whatever it takes, each outer before inner
abbrev pub inner_entries : Standard → List TypeEntry
inner_entries Duration =
    record { id = codes "u64"; form = scalar scalars.U64 }
    ∷ record { id = codes "u32"; form = scalar scalars.U32 } ∷ []
inner_entries SystemTime =
    record { id = codes "u64"; form = scalar scalars.U64 }
    ∷ record { id = codes "u32"; form = scalar scalars.U32 } ∷ []
inner_entries OsString =
    record { id = codes "Vec<u8>"; form = list (codes "u8") }
    ∷ record { id = codes "u8"; form = scalar scalars.U8 }
    ∷ record { id = codes "Vec<u16>"; form = list (codes "u16") }
    ∷ record { id = codes "u16"; form = scalar scalars.U16 } ∷ []
inner_entries kind = []
