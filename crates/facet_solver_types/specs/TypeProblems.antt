-- The text of what is wrong with a type, or with a name that is declared.
use Rattle.std.specs.Prelude.{ℕ, ◌==◌, if◌then◌else◌, List, ◌++◌, codes, decimal}
use Rattle.facet_solver_types.specs.declared.type_problem.TypeProblem.{TypeProblem}
use Rattle.facet_solver_types.specs.declared.type_problem.TypeProblem.TheVariants as problem

-- so many types
abbrev pub count_text : ℕ → List ℕ
count_text count =
    if count == 0 then codes "no types"
    else (if count == 1 then codes "1 type" else decimal count ++ codes " types")

-- what to write where a type of this name cannot be read from its declaration
abbrev pub in_its_place : List ℕ → List ℕ
in_its_place met =
    codes "skip its field, put #[facet(proxy = String)] on it, or declare in its place what "
    ++ (codes "documents have, as 'type " ++ (met ++ codes " = String;'"))

-- what is wrong with a type or a name, where this is met
abbrev pub type_problem_text : TypeProblem → List ℕ → List ℕ
type_problem_text problem.Unknown met =
    codes "unknown type '" ++ (met
    ++ (codes "': skip its field, put #[facet(proxy = String)] on it, or say 'type "
    ++ (met ++ codes " = String;'")))
type_problem_text (problem.Takes count) met =
    codes "'" ++ (met ++ (codes "' takes " ++ count_text count))
type_problem_text problem.TooDeep met = codes "the type is nested too deeply"
type_problem_text problem.Twice met = codes "'" ++ (met ++ codes "' is declared twice")
type_problem_text problem.ReadTwice met =
    codes "'" ++ (met ++ codes "' goes by the name of one before it")
type_problem_text problem.OtherType met =
    codes "'" ++ (met ++ codes "' says another type than one before it")
type_problem_text problem.Underived met =
    codes "'" ++ (met ++ (codes "' derives no Deserialize: " ++ in_its_place met))
type_problem_text problem.OwnImpl met =
    codes "'" ++ (met ++ (codes "' has its own impl of Deserialize: " ++ in_its_place met))
