-- Attributes that exclude each other.
use Rattle.std.specs.Prelude.{Bool, true, false, ◌&&◌, ◌||◌}
use Rattle.facet_solver_types.specs.declared.attribute.meaning.Meaning.{Meaning}
use Rattle.facet_solver_types.specs.declared.attribute.meaning.Meaning.TheVariants.{Default, Rename, RenameAll, RenameAllFields, Tag, Content, Untagged, Transparent, Proxy, Dom}

-- whether the first of two meanings excludes the second
abbrev pub excludes : Meaning → Meaning → Bool
excludes Untagged Tag = true
excludes Untagged Content = true
excludes Transparent Proxy = true
excludes Transparent Default = true
excludes (Dom one) (Dom other) = true
excludes one other = false

-- whether two meanings are one of those that only one text may have
abbrev pub are_one_text : Meaning → Meaning → Bool
are_one_text Rename Rename = true
are_one_text RenameAll RenameAll = true
are_one_text RenameAllFields RenameAllFields = true
are_one_text Tag Tag = true
are_one_text Content Content = true
are_one_text one other = false

-- whether two attributes of these meanings exclude each other, by whether they say texts that
-- differ
abbrev pub clash : Meaning → Meaning → Bool → Bool
clash one other differ =
    (are_one_text one other && differ) || excludes one other || excludes other one
