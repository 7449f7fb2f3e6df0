-- What a value is: null, a truth value, a number, a text, a list or an object.
use Rattle.std.specs.Prelude.{◌==◌, ℕ, Bool, true, false}
use Rattle.facet_solver_uses.specs.declared.untagged.ValueKind.{ValueKind}
use Rattle.facet_solver_uses.specs.declared.untagged.ValueKind.TheVariants.{Null, Bool as TruthValue, WholeNumber, OtherNumber, Text, List as ListOf, Object}

-- whether a value is null
abbrev pub is_null : ValueKind → Bool
is_null Null = true
is_null value = false

-- whether a value is a truth value
abbrev pub is_truth_value : ValueKind → Bool
is_truth_value TruthValue = true
is_truth_value value = false

-- whether a value is a whole number
abbrev pub is_whole_number : ValueKind → Bool
is_whole_number WholeNumber = true
is_whole_number value = false

-- whether a value is a number
abbrev pub is_number : ValueKind → Bool
is_number WholeNumber = true
is_number OtherNumber = true
is_number value = false

-- whether a value is a text
abbrev pub is_text : ValueKind → Bool
is_text Text = true
is_text value = false

-- whether a value is a list
abbrev pub is_list : ValueKind → Bool
is_list (ListOf count) = true
is_list value = false

-- whether a value is a list of so many items
abbrev pub is_list_of : ℕ → ValueKind → Bool
is_list_of arity (ListOf count) = count == arity
is_list_of arity value = false

-- whether a value is an object
abbrev pub is_object : ValueKind → Bool
is_object Object = true
is_object value = false

-- whether a value is a scalar: neither a list nor an object
abbrev pub is_scalar : ValueKind → Bool
is_scalar (ListOf count) = false
is_scalar Object = false
is_scalar value = true
