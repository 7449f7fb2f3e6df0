-- What items texts have, or why they have none: the definitions, row by row.
use Rattle.std.proofs.Common.{◌≡◌, ℕ, Bool, true, false, List, [], ◌∷◌, length, map, Option, Some, None, Result, Ok, Err, codes, refl}
use Rattle.std.specs.List.{flat_map}
use Rattle.facet_solver_shape.specs.Names.{Name}
use Rattle.facet_solver_types.specs.declared.fault.Fault.{Fault}
use Rattle.facet_solver_types.specs.declared.fault.Fault.TheVariants.{At}
use Rattle.facet_solver_types.specs.declared.problem.Expected.TheVariants as expected
use Rattle.facet_solver_types.specs.declared.problem.Problem.TheVariants as problem
use Rattle.facet_solver_types.specs.Declarations.{Item, ModuleItem, Parameter, alias, enum, faulty, implements, struct}
use Rattle.facet_solver_types.specs.Bodies.{variant}
use Rattle.facet_solver_types.specs.Characters.{blank_len, continues_name}
use Rattle.facet_solver_types.specs.Fields.{named_field}
use Rattle.facet_solver_types.specs.FirstParts.{first_part, first_token, gap_len}
use Rattle.facet_solver_types.specs.Items.{items, items_from, piece}
use Rattle.facet_solver_types.specs.Keywords.{is_keyword}
use Rattle.facet_solver_types.specs.MarkTokens.{mark}
use Rattle.facet_solver_types.specs.NamedItems.{alias_of, enum_of, struct_of}
use Rattle.facet_solver_types.specs.Pieces.{and_then, pieces_from}
use Rattle.facet_solver_types.specs.Prefixes.{attributes_from, begins_attribute}
use Rattle.facet_solver_types.specs.Runs.{nest_after, run_from}
use Rattle.facet_solver_types.specs.SameBracket.{same_bracket}
use Rattle.facet_solver_types.specs.Starts.{begins_statement, item_len, named_call_len, path_from, path_step, qualified_start, qualifiers_len, run_and_end_len, start_of, visible_len, whole_call_len}
use Rattle.facet_solver_types.specs.Texts.{begins_character, character, opening_of, text_token}
use Rattle.facet_solver_types.specs.Tokens.{tokens, tokens_from}
use Rattle.facet_solver_types.specs.WrittenTypes.{front_len}

-- the items of a text, or the first fault
abbrev read : List ℕ → Result (List ModuleItem) Fault
read text = and_then (tokens text) (λ ts. items (record { tokens = ts; end = length text }))

-- the name of a declaration that cannot be read, and why
abbrev fault_of : Item → List (Name × Fault)
fault_of (faulty attributes name fault) = (name.text, fault) ∷ []
fault_of item = []

-- the names of the declarations of a text that cannot be read, and why
abbrev faults : List ℕ → Result (List (Name × Fault)) Fault
faults text = and_then (read text) (λ found. Ok (flat_map (λ (m : ModuleItem). fault_of m.item) found))

-- the names of parameters, and which stand for values
abbrev seen : List Parameter → List (List (Name × Bool))
seen parameters = map (λ p. (p.name.text, p.is_const)) parameters ∷ []

-- the parameters of a declaration
abbrev parameters_of : Item → List (List (Name × Bool))
parameters_of (struct attributes name parameters body) = seen parameters
parameters_of (enum attributes name parameters variants) = seen parameters
parameters_of (alias attributes name parameters written) = seen parameters
parameters_of item = []

-- the parameters of the declarations of a text
abbrev parameters : List ℕ → Result (List (List (Name × Bool))) Fault
parameters text = and_then (read text) (λ found. Ok (flat_map (λ (m : ModuleItem). parameters_of m.item) found))

-- the name of a declaration, or of the type of an impl
abbrev name_of : Item → List Name
name_of (struct attributes name parameters body) = name.text ∷ []
name_of (enum attributes name parameters variants) = name.text ∷ []
name_of (alias attributes name parameters written) = name.text ∷ []
name_of (implements name) = name.text ∷ []
name_of item = []

-- the names of the declarations of a text, and of the types of its impls
abbrev names : List ℕ → Result (List Name) Fault
names text = and_then (read text) (λ found. Ok (flat_map (λ (m : ModuleItem). name_of m.item) found))

-- the names of the modules in which the items of a text stand, and each module itself
abbrev module_names : List ℕ → Result (List Name) Fault
module_names text = and_then (read text) (λ found. Ok (map (λ (m : ModuleItem). m.site.module_name) found))

-- where the braces stand of the blocks in which the items of a text are
abbrev blocks : List ℕ → Result (List (Option ℕ)) Fault
blocks text = and_then (read text) (λ found. Ok (map (λ (m : ModuleItem). m.site.block) found))

-- faults of tokens
pub token_rows :
    (read (codes "\\") ≡ Err (At 0 (problem.NoToken 92)))
    × (read (codes "a \"b") ≡ Err (At 2 problem.OpenText))
    × (read (codes "r#\"a\"") ≡ Err (At 0 problem.OpenText))
    × (read (codes "'\\n") ≡ Err (At 0 problem.OpenCharacter))
    × (read (codes "a)") ≡ Err (At 1 problem.ClosesNothing))
    × (read (codes "( ]") ≡ Err (At 2 problem.ClosesNothing))
    × (read (codes "{ ( [ ] )") ≡ Err (At 0 problem.OpenBracket))
    × (read (codes "a) \"x") ≡ Err (At 1 problem.ClosesNothing))
    × (read (codes "( \"x") ≡ Err (At 2 problem.OpenText))
unfolding alias_of attributes_from begins_attribute begins_character begins_statement blank_len character continues_name enum_of first_part first_token front_len gap_len is_keyword item_len items_from mark named_call_len named_field nest_after opening_of path_from path_step piece pieces_from qualified_start qualifiers_len run_and_end_len run_from same_bracket start_of struct_of text_token tokens_from variant visible_len whole_call_len
token_rows = (refl, refl, refl, refl, refl, refl, refl, refl, refl)

-- type and const parameters, and `where`
pub parameter_rows :
    (parameters (codes "struct S<'a, T: X<u8> + 'a = u8, const N: usize> where T: X { }")
    ≡ Ok (((codes "T", false) ∷ (codes "N", true) ∷ []) ∷ []))
    × (parameters (codes "struct S<'a>; struct S<> where T: X;") ≡ Ok ([] ∷ [] ∷ []))
    × (parameters (codes "struct S<T>(T) where T: X;") ≡ Ok (((codes "T", false) ∷ []) ∷ []))
    × (parameters (codes "enum E<T,> where T: X {}") ≡ Ok (((codes "T", false) ∷ []) ∷ []))
    × (parameters (codes "type A<T> where T: X<Y = u8> = T;") ≡ Ok (((codes "T", false) ∷ []) ∷ []))
unfolding alias_of attributes_from begins_attribute begins_character begins_statement blank_len character continues_name enum_of first_part first_token front_len gap_len is_keyword item_len items_from mark named_call_len named_field nest_after opening_of path_from path_step piece pieces_from qualified_start qualifiers_len run_and_end_len run_from same_bracket start_of struct_of text_token tokens_from variant visible_len whole_call_len
parameter_rows = (refl, refl, refl, refl, refl)

-- structs
pub struct_rows :
    (read (codes "struct") ≡ Err (At 6 (problem.Expected expected.Name)))
    × (read (codes "struct fn;") ≡ Err (At 7 (problem.Expected expected.Name)))
    × (faults (codes "struct S") ≡ Ok ((codes "S", At 8 (problem.Expected expected.Body)) ∷ []))
    × (faults (codes "struct S = 3;") ≡ Ok ((codes "S", At 9 (problem.Expected expected.Body)) ∷ []))
    × (faults (codes "struct S(u8)") ≡ Ok ((codes "S", At 12 (problem.Expected expected.Semicolon)) ∷ []))
    × (faults (codes "struct S { a }") ≡ Ok ((codes "S", At 13 (problem.Expected expected.Colon)) ∷ []))
    × (faults (codes "struct S { a: }") ≡ Ok ((codes "S", At 14 (problem.Expected expected.FieldType)) ∷ []))
    × (faults (codes "struct S { a: , }") ≡ Ok ((codes "S", At 14 (problem.Expected expected.FieldType)) ∷ []))
    × (faults (codes "struct S { , }") ≡ Ok ((codes "S", At 11 (problem.Expected expected.Name)) ∷ []))
    × (faults (codes "struct S { \"a\": u8 }") ≡ Ok ((codes "S", At 11 (problem.Expected expected.Name)) ∷ []))
    × (faults (codes "struct S<'a 'b>;") ≡ Ok ((codes "S", At 12 (problem.Expected expected.ParameterEnd)) ∷ []))
    × (faults (codes "struct S<'a") ≡ Ok ((codes "S", At 11 (problem.Expected expected.ParameterEnd)) ∷ []))
    × (faults (codes "struct S<8>;") ≡ Ok ((codes "S", At 9 (problem.Expected expected.Name)) ∷ []))
    × (faults (codes "struct A { a } struct B; struct C { c }")
    ≡ Ok ((codes "A", At 13 (problem.Expected expected.Colon)) ∷ (codes "C", At 38 (problem.Expected expected.Colon)) ∷ []))
    × (read (codes "struct A {};") ≡ Err (At 11 (problem.Expected expected.Item)))
unfolding alias_of attributes_from begins_attribute begins_character begins_statement blank_len character continues_name enum_of first_part first_token front_len gap_len is_keyword item_len items_from mark named_call_len named_field nest_after opening_of path_from path_step piece pieces_from qualified_start qualifiers_len run_and_end_len run_from same_bracket start_of struct_of text_token tokens_from variant visible_len whole_call_len
struct_rows = (refl, refl, refl, refl, refl, refl, refl, refl, refl, refl, refl, refl, refl, refl, refl)

-- enums
pub enum_rows :
    (faults (codes "enum E { A B }") ≡ Ok ((codes "E", At 11 (problem.Expected expected.VariantEnd)) ∷ []))
    × (faults (codes "enum E { pub A }") ≡ Ok ((codes "E", At 9 (problem.Expected expected.Name)) ∷ []))
    × (faults (codes "enum E { A { pub x: u8 } }") ≡ Ok ((codes "E", At 13 (problem.Expected expected.Name)) ∷ []))
    × (faults (codes "enum E;") ≡ Ok ((codes "E", At 6 (problem.Expected expected.Braces)) ∷ []))
unfolding alias_of attributes_from begins_attribute begins_character begins_statement blank_len character continues_name enum_of first_part first_token front_len gap_len is_keyword item_len items_from mark named_call_len named_field nest_after opening_of path_from path_step piece pieces_from qualified_start qualifiers_len run_and_end_len run_from same_bracket start_of struct_of text_token tokens_from variant visible_len whole_call_len
enum_rows = (refl, refl, refl, refl)

-- other items
pub other_rows :
    (faults (codes "type X = u8") ≡ Ok ((codes "X", At 11 (problem.Expected expected.Semicolon)) ∷ []))
    × (faults (codes "type X;") ≡ Ok ((codes "X", At 6 (problem.Expected expected.Equals)) ∷ []))
    × (read (codes "use a") ≡ Err (At 5 (problem.Expected expected.Semicolon)))
    × (read (codes "fn f") ≡ Err (At 4 (problem.Expected expected.HeadEnd)))
    × (read (codes "foo") ≡ Err (At 0 (problem.Expected expected.Item)))
    × (read (codes ";") ≡ Err (At 0 (problem.Expected expected.Item)))
    × (read (codes "#[a]") ≡ Err (At 4 (problem.Expected expected.Item)))
    × (read (codes "# a") ≡ Err (At 0 (problem.Expected expected.Item)))
    × (read (codes "foo!") ≡ Err (At 4 (problem.Expected expected.Bracket)))
    × (read (codes "foo! x;") ≡ Err (At 6 (problem.Expected expected.Bracket)))
    × (read (codes "foo!(x)") ≡ Err (At 7 (problem.Expected expected.Semicolon)))
unfolding alias_of attributes_from begins_attribute begins_character begins_statement blank_len character continues_name enum_of first_part first_token front_len gap_len is_keyword item_len items_from mark named_call_len named_field nest_after opening_of path_from path_step piece pieces_from qualified_start qualifiers_len run_and_end_len run_from same_bracket start_of struct_of text_token tokens_from variant visible_len whole_call_len
other_rows = (refl, refl, refl, refl, refl, refl, refl, refl, refl, refl, refl)

-- those in modules and functions, and impls
pub enclosed_rows :
    (names (codes "mod a { #![b] struct A; mod c { struct B; } struct C; } struct D;")
    ≡ Ok (codes "A" ∷ codes "B" ∷ codes "C" ∷ codes "D" ∷ []))
    × (names (codes "fn f(a: T<U>) -> T { let a = S { b: 1 }; struct A; if a != c { struct B; } }")
    ≡ Ok (codes "A" ∷ codes "B" ∷ []))
    × (names (codes "fn f() { a!(struct A;).b(|| { struct B; }); impl C { fn d() { struct D; } } }")
    ≡ Ok (codes "B" ∷ codes "D" ∷ []))
    × (names (codes "impl A { type B = { }; const C: D<{ 1 }> = { 2 }; e! { fn f() { struct G; } } pub fn h() { struct I; } }")
    ≡ Ok (codes "I" ∷ []))
    × (names (codes "impl Facet<'_> for A { #[b] unsafe fn c() { impl Facet<'_> for D { } } struct E; } struct F;")
    ≡ Ok (codes "A" ∷ codes "D" ∷ codes "F" ∷ []))
    × (names (codes "fn f() { let a = b as extern \"C\" fn(); g(h as unsafe extern fn(u8)); struct I; }")
    ≡ Ok (codes "I" ∷ []))
    × (blocks (codes "struct A; fn f() { struct B; { struct C; } struct D; mod e { struct F; } } impl G { fn h() { struct I; } }")
    ≡ Ok (None ∷ Some 17 ∷ Some 29 ∷ Some 17 ∷ None ∷ None ∷ Some 91 ∷ []))
    × (names (codes "mod a { struct A; fn f() { mod b { struct B; } struct C; } } struct D;")
    ≡ Ok (codes "A" ∷ codes "B" ∷ codes "C" ∷ codes "D" ∷ []))
    × (names (codes "impl<'a, T: X<T>> a::Deserialize<'a> for b::C<T> { } unsafe impl Facet<'_> for D { }")
    ≡ Ok (codes "C" ∷ codes "D" ∷ []))
    × (names (codes "impl A { } impl B for C { } impl Facet<'_> for (D, E) { }") ≡ Ok [])
    × (module_names (codes "struct A; mod a { struct B; fn f() { struct C; mod b { struct D; } } } enum E {}")
    ≡ Ok ([] ∷ codes "a" ∷ codes "a" ∷ codes "a" ∷ codes "b" ∷ codes "b" ∷ [] ∷ []))
    × (read (codes "mod a { b }") ≡ Err (At 8 (problem.Expected expected.Item)))
    × (read (codes "mod { }") ≡ Err (At 4 (problem.Expected expected.Name)))
    × (read (codes "mod a b { }") ≡ Err (At 6 (problem.Expected expected.HeadEnd)))
unfolding alias_of attributes_from begins_attribute begins_character begins_statement blank_len character continues_name enum_of first_part first_token front_len gap_len is_keyword item_len items_from mark named_call_len named_field nest_after opening_of path_from path_step piece pieces_from qualified_start qualifiers_len run_and_end_len run_from same_bracket start_of struct_of text_token tokens_from variant visible_len whole_call_len
enclosed_rows = (refl, refl, refl, refl, refl, refl, refl, refl, refl, refl, refl, refl, refl, refl)
