-- A value as a tree, a level at a time.
use Rattle.std.proofs.Common.{◌≡◌, ◌∙◌, [], ◌∷◌, Bool, Global, List, Vec, ap, map, refl, rules, sym}
use Rattle.std.specs.Borrow.{Bor}
use Rattle.std.specs.Prelude.{String, string_bytes}
use Rattle.facet_solver_shape.specs.Names.{Name}
use Rattle.facet_solver_reader.specs.declared.document.Document.{Document}
use Rattle.facet_solver_reader.specs.Documents.{Members, Tree, items_of, list, member, members_view}
use Rattle.facet_solver_reader.specs.Documents.{no_members, null, number, object, text, truth, view}
use Rattle.facet_solver_reader.specs.Numbers.{number_of}
use Rattle.facet_solver_witnesses.specs.Trees.{named_members, tree}
use Rattle.facet_solver_witnesses.specs.declared.value.Value.{Value, Null, Bool as Truth}
use Rattle.facet_solver_witnesses.specs.declared.value.Value.{Number as Numeric, Text}
use Rattle.facet_solver_witnesses.specs.declared.value.Value.{List as Listed, Object, the_lemmas}

pub tree-Null : tree Null ≡ null
tree-Null = search (rules, the_lemmas)

pub tree-Bool : (b : Bool) → tree (Truth b) ≡ truth b
tree-Bool b = search (rules, the_lemmas)

pub tree-Number : (s : String Global) → tree (Numeric s) ≡ number (number_of (string_bytes s))
tree-Number s = search (rules, the_lemmas)

pub tree-Text : (s : String Global) → tree (Text s) ≡ text (string_bytes s)
tree-Text s = search (rules, the_lemmas)

pub tree-List : (v : Vec Value Global) → tree (Listed v) ≡ list (items_of (map tree v.items))
tree-List v = search (rules, the_lemmas)

pub tree-Object : (v : Vec (String Global × Value) Global)
    → tree (Object v) ≡ object (named_members (map (λ m. (m.0, tree m.1)) v.items))
tree-Object v = search (rules, the_lemmas)

-- ---- members, by their names and trees

-- members of names and trees
abbrev paired : List (Name × Tree) → Members
paired [] = no_members
paired (p ∷ ps) = member p.0 p.1 (paired ps)

-- a member of a document
abbrev pub seen_member : Bor Name × Document → Name × Tree
seen_member m = (m.0.now, view m.1)

-- a member of a value
abbrev pub own_member : String Global × Value → Name × Tree
own_member m = (string_bytes m.0, tree m.1)

seen_paired : (ds : List (Bor Name × Document)) → members_view ds ≡ paired (map seen_member ds)
seen_paired [] = refl
seen_paired (d ∷ ds) = ap (member d.0.now (view d.1)) (seen_paired ds)

own_paired : (ms : List (String Global × Value))
    → named_members (map (λ m. (m.0, tree m.1)) ms) ≡ paired (map own_member ms)
own_paired [] = refl
own_paired (m ∷ ms) = ap (member (string_bytes m.0) (tree m.1)) (own_paired ms)

-- members that are seen alike
pub members_alike : (ds : List (Bor Name × Document)) (ms : List (String Global × Value))
    → map seen_member ds ≡ map own_member ms
    → members_view ds ≡ named_members (map (λ m. (m.0, tree m.1)) ms)
members_alike ds ms same = seen_paired ds ∙ ap paired same ∙ sym (own_paired ms)
