-- How many documents had which end.
use Rattle.std.specs.Prelude.{◌≡◌, ◌==◌, ◌++◌, ◌^◌, ◌-◌, Bool, ℕ, List, [], codes, filter, length, min, nat_lt, if◌then◌else◌}
use Rattle.std.specs.Fmt.{decimal}
use Rattle.facet_solver_tool.specs.declared.count.Count.{Count}
use Rattle.facet_solver_tool.specs.declared.status.Status.{Status}
use Rattle.facet_solver_tool.specs.declared.status.Status.TheVariants.{Answered, NoReading, SeveralReadings, BadDocument, OutOfMemory}
use Rattle.facet_solver_tool.specs.Answer.{Answer}
use Rattle.facet_solver_tool.specs.Status.{code}

-- whether an answer has a status, by its number
abbrev pub has_status : ℕ → Answer → Bool
has_status status a = code a.status == status

-- how many answers have a status
abbrev pub how_many : ℕ → List Answer → ℕ
how_many status answers = length (filter (has_status status) answers)

-- a number as it is counted, which stops at the largest that fits
abbrev pub counted : ℕ → ℕ
counted n = min n (2 ^ 64 - 1)

-- a count tells how many answers there are, and how many of each status
pub record Counts (c : Count) (answers : List Answer) : Type 0 where
  pub documents : c.documents ≡ counted (length answers)
  pub read : c.read ≡ counted (how_many 0 answers)
  pub no_reading : c.no_reading ≡ counted (how_many 1 answers)
  pub several : c.several ≡ counted (how_many 2 answers)
  pub at_fault : c.at_fault ≡ counted (how_many 4 answers)
  pub out_of_memory : c.out_of_memory ≡ counted (how_many 5 answers)

-- the first of the statuses 5, 4, 2 and 1 that an answer has, and else 0
abbrev pub worst : List Answer → Status
worst answers =
    if nat_lt 0 (how_many 5 answers) then OutOfMemory
    else if nat_lt 0 (how_many 4 answers) then BadDocument
    else if nat_lt 0 (how_many 2 answers) then SeveralReadings
    else if nat_lt 0 (how_many 1 answers) then NoReading
    else Answered

-- how many documents had an end, behind a comma; nothing where none had it
abbrev pub part : ℕ → List ℕ → List ℕ
part count end =
    if count == 0 then []
    else codes ", " ++ (decimal count ++ (codes " " ++ end))

-- the text of a count
abbrev pub count_text : Count → List ℕ
count_text c =
    decimal c.read ++ (codes " of " ++ (decimal c.documents ++ (codes " documents read"
    ++ (part c.no_reading (codes "without a reading")
    ++ (part c.several (codes "with several")
    ++ (part c.at_fault (codes "at fault")
    ++ part c.out_of_memory (codes "out of memory")))))))
