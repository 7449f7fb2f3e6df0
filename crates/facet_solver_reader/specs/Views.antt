-- Parts and ends in memory, wherever their names lie.
use Rattle.std.specs.Prelude.{List, map}
use Rattle.facet_solver_reader.specs.declared.part.Target as code_target
use Rattle.facet_solver_reader.specs.declared.part.ListId as code_list
use Rattle.facet_solver_reader.specs.declared.part.MemberPart as code_member
use Rattle.facet_solver_reader.specs.declared.part.Selection as code_selection
use Rattle.facet_solver_reader.specs.declared.part.CatchAll as code_catch_all
use Rattle.facet_solver_reader.specs.declared.part.Part as code_part
use Rattle.facet_solver_reader.specs.declared.end.End as code_end
use Rattle.facet_solver_reader.specs.declared.end.NamedVariant as code_named
use Rattle.facet_solver_reader.specs.declared.end.AlternativeKind as code_kind
use Rattle.facet_solver_reader.specs.declared.end.Alternative as code_alternative
use Rattle.facet_solver_reader.specs.declared.end.Content as code_content
use Rattle.facet_solver_reader.specs.Parts.{CatchAll, ListId, MemberPart, Part, Selection, Target, of_shape, of_content, of_tag, of_struct, of_enum, of_joined, of_branch, of_fields, a_member, a_selection, a_catch_all, of_map, of_anything}
use Rattle.facet_solver_reader.specs.Rules.{Alternative, AlternativeKind, Content, End, NamedVariant, an_option, a_truth, a_text, a_character, a_list, a_tuple, a_map, an_object, a_named_variant, an_untagged_variant, anything, joins, a_fallback, other, no_content, as_shape, as_tuple, as_object}
use Rattle.facet_solver_reader.specs.Rules as rules

-- a target
abbrev pub target_view : code_target.Target → Target
target_view (code_target.TheVariants.Shape id) = of_shape id
target_view (code_target.TheVariants.Content id k) = of_content id k
target_view (code_target.TheVariants.Tag name) = of_tag name.now

-- the name of a list of parts
abbrev pub list_view : code_list.ListId → ListId
list_view (code_list.TheVariants.Struct id) = of_struct id
list_view (code_list.TheVariants.Enum id) = of_enum id
list_view (code_list.TheVariants.Joined id) = of_joined id
list_view (code_list.TheVariants.Branch id k) = of_branch id k
list_view (code_list.TheVariants.Fields id k) = of_fields id k

-- a member of an object
abbrev pub member_view : code_member.MemberPart → MemberPart
member_view m =
    record { name = m.name.now; required = m.required; target = target_view m.target }

-- a selection
abbrev pub selection_view : code_selection.Selection → Selection
selection_view s = record { optional = s.optional; branches = map list_view s.branches.items }

-- a catch-all
abbrev pub catch_all_view : code_catch_all.CatchAll → CatchAll
catch_all_view (code_catch_all.TheVariants.Map key value) = of_map key value
catch_all_view code_catch_all.TheVariants.Anything = of_anything

-- a part
abbrev pub part_view : code_part.Part → Part
part_view (code_part.TheVariants.Member m) = a_member (member_view m)
part_view (code_part.TheVariants.Selection s) = a_selection (selection_view s)
part_view (code_part.TheVariants.CatchAll k) = a_catch_all (catch_all_view k)

-- parts
abbrev pub parts_view : List code_part.Part → List Part
parts_view ps = map part_view ps

-- a variant that is named
abbrev pub named_view : code_named.NamedVariant → NamedVariant
named_view v = record { name = v.name.now; is_unit = v.is_unit; content = target_view v.content }

-- how a variant of an untagged enum reads a value
abbrev pub kind_view : code_kind.AlternativeKind → AlternativeKind
kind_view code_kind.TheVariants.Joins = joins
kind_view code_kind.TheVariants.Null = rules.null_alone
kind_view (code_kind.TheVariants.Whole range) = rules.a_whole range
kind_view code_kind.TheVariants.Float = rules.a_float
kind_view code_kind.TheVariants.Fallback = a_fallback
kind_view code_kind.TheVariants.Other = other

-- a variant of an untagged enum
abbrev pub alternative_view : code_alternative.Alternative → Alternative
alternative_view a = record { kind = kind_view a.kind; content = target_view a.content }

-- what a shape comes to
abbrev pub end_view : code_end.End → End
end_view (code_end.TheVariants.Option id) = an_option id
end_view code_end.TheVariants.Null = rules.null_alone
end_view code_end.TheVariants.Truth = a_truth
end_view (code_end.TheVariants.Whole range) = rules.a_whole range
end_view code_end.TheVariants.Float = rules.a_float
end_view code_end.TheVariants.Text = a_text
end_view code_end.TheVariants.Character = a_character
end_view (code_end.TheVariants.List id) = a_list id
end_view (code_end.TheVariants.Tuple ids) = a_tuple ids.items
end_view (code_end.TheVariants.Map key value) = a_map key value
end_view (code_end.TheVariants.Object id) = an_object (list_view id)
end_view (code_end.TheVariants.NamedVariant vs) = a_named_variant (map named_view vs.items)
end_view (code_end.TheVariants.UntaggedVariant id vs) =
    an_untagged_variant (list_view id) (map alternative_view vs.items)
end_view code_end.TheVariants.Anything = anything

-- the content of a variant
abbrev pub content_view : code_content.Content → Content
content_view code_content.TheVariants.None = no_content
content_view (code_content.TheVariants.Shape id) = as_shape id
content_view (code_content.TheVariants.Tuple ids) = as_tuple ids.items
content_view (code_content.TheVariants.Object id) = as_object (list_view id)
