-- The text of what is expected.
use Rattle.std.specs.Prelude.{ℕ, List, codes}
use Rattle.facet_solver_types.specs.declared.problem.Expected.{Expected}
use Rattle.facet_solver_types.specs.declared.problem.Expected.TheVariants as expected

-- what is expected
abbrev pub expected_text : Expected → List ℕ
expected_text expected.Name = codes "a name"
expected_text expected.FieldType = codes "a type"
expected_text expected.Item = codes "an item"
expected_text expected.ParameterEnd = codes "',' or '>'"
expected_text expected.Equals = codes "'='"
expected_text expected.Body = codes "'{', '(' or ';'"
expected_text expected.Braces = codes "'{'"
expected_text expected.Colon = codes "':'"
expected_text expected.Semicolon = codes "';'"
expected_text expected.HeadEnd = codes "';' or '{'"
expected_text expected.Bracket = codes "a bracket"
expected_text expected.VariantEnd = codes "',' or '}'"
expected_text expected.Attribute = codes "the name of an attribute"
expected_text expected.AttributeList = codes "'('"
expected_text expected.AttributeEnd = codes "'=', '(' or ','"
