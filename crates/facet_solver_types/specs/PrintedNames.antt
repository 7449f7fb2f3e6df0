-- The names under which variants are declared.
use Rattle.std.specs.Prelude.{ℕ, Bool, List, ◌++◌, codes, ◌+◌, zero, suc, length, replicate, if◌then◌else◌}
use Rattle.std.specs.Fmt.{decimal}
use Rattle.std.specs.List.{list_any}
use Rattle.facet_solver_shape.specs.Names.{Name, name_eq}
use Rattle.facet_solver_types.specs.Cases.{underscore}
use Rattle.facet_solver_types.specs.PrintedTexts.{is_plain_name}

-- `V`, a number and so many `_`
abbrev pub numbered : ℕ → ℕ → Name
numbered number marks = codes "V" ++ (decimal number ++ replicate marks underscore)

-- whether one of names is a number with so many `_`
abbrev pub is_taken : List Name → ℕ → ℕ → Bool
is_taken names number marks = list_any (λ name. name_eq name (numbered number marks)) names

-- how many `_` from so many on make a number that none of names is, in so many tries
abbrev pub marks_from : List Name → ℕ → ℕ → ℕ → ℕ
marks_from names number marks zero = marks
marks_from names number marks (suc tries) =
    if is_taken names number marks then marks_from names number (marks + 1) tries else marks

-- how many `_` make a number that none of names is: of one more tries than names one is free
abbrev pub marks_of : List Name → ℕ → ℕ
marks_of names number = marks_from names number 0 (length names)

-- the name under which a variant of a number is declared, among the names of all
abbrev pub variant_name : List Name → ℕ → Name → Name
variant_name names number name =
    if is_plain_name name then name else numbered number (marks_of names number)
