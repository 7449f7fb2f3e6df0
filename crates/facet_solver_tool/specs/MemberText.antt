-- Members of an object that stand behind others, where they apply.
use Rattle.std.specs.Prelude.{ℕ, Bool, [], ◌++◌, Option, codes, if◌then◌else◌}
use Rattle.std.specs.Fmt.{decimal}
use Rattle.std.specs.Option.{option_map_or}
use Rattle.std.specs.String.{string_bytes}
use Rattle.std.specs.declared.alloc.Global.{Global}
use Rattle.std.specs.declared.string.String.{String}
use Rattle.facet_solver_shape.specs.Names.{Name}
use Rattle.facet_solver_tool.specs.QuotedText.{quoted}

-- a key behind another member, with its value
abbrev pub member : Name → Name → Name
member key value = codes ", \"" ++ (key ++ (codes "\": " ++ value))

-- a member that says a text, where there is one
abbrev pub text_member : Name → Option (String Global) → Name
text_member key text = option_map_or (λ t. member key (quoted (string_bytes t))) text []

-- one that says a word, where there is one
abbrev pub word_member : Name → Option Name → Name
word_member key word =
    option_map_or (λ w. member key (codes "\"" ++ (w ++ codes "\""))) word []

-- one that says the index of a shape, where there is one
abbrev pub index_member : Name → Option ℕ → Name
index_member key index = option_map_or (λ i. member key (decimal i)) index []

-- one that says `true`, where a flag is set
abbrev pub flag_member : Name → Bool → Name
flag_member key is_set = if is_set then member key (codes "true") else []
