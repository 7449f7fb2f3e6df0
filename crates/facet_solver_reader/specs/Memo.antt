-- Counts that are known.
use Rattle.std.specs.Prelude.{◌≡◌, ◌⊎◌, ℕ, List, Any}
use Rattle.facet_solver_reader.specs.declared.count.Count.{Count}
use Rattle.facet_solver_reader.specs.declared.count.memo.Asked as code_asked
use Rattle.facet_solver_reader.specs.declared.count.memo.MemoEntry.{MemoEntry}
use Rattle.facet_solver_reader.specs.Parts.{Target, of_shape, of_content}

-- what a value was read as
abbrev pub asked_view : code_asked.Asked → Target
asked_view (code_asked.TheVariants.Shape id) = of_shape id
asked_view (code_asked.TheVariants.Content id k) = of_content id k

-- an entry says how often a value is read as a target
pub record Notes (node : ℕ) (target : Target) (count : Count) (e : MemoEntry) : Type 0 where
  pub same_node : e.node ≡ node
  pub same_target : asked_view e.asked ≡ target
  pub same_count : e.count ≡ count

-- one of the entries says so
abbrev pub IsNoted : List MemoEntry → ℕ → Target → Count → Type 0
IsNoted entries node target count = Any (Notes node target count) entries

-- what stands before an entry does not count: each says so
pub record IsEntryAdded (node : ℕ) (target : Target) (count : Count) (old new : List MemoEntry)
    : Type 0
  where
    pub kept : (n : ℕ) (t : Target) (c : Count) → IsNoted new n t c
        → IsNoted old n t c ⊎ ((n ≡ node) × (t ≡ target) × (c ≡ count))
