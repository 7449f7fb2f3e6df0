-- Which shapes and lists of parts a document that is read as a root can come to, so that what is
-- wrong with one is wrong with the root.
use Rattle.std.specs.Prelude.{◌≡◌, ◌⊎◌, ℕ, zero, suc, Bool, List, [], map, Any, Some, slice_get}
use Rattle.facet_solver_shape.specs.Catalogues.{Catalogue}
use Rattle.facet_solver_reader.specs.declared.tables.every.EveryList.{EveryList}
use Rattle.facet_solver_reader.specs.declared.tables.every.Listed.{Listed}
use Rattle.facet_solver_reader.specs.declared.tables.marks.Marks.{Marks}
use Rattle.facet_solver_reader.specs.EveryList.{AreEveryList, IsChosen}
use Rattle.facet_solver_reader.specs.Leads.{ContentHas, EndHas, PartHas, TargetHas}
use Rattle.facet_solver_reader.specs.OrderedLists.{ComesIn, IsMarked}
use Rattle.facet_solver_reader.specs.Parts.{ListId, Part, Target, of_shape, of_content, of_tag}
use Rattle.facet_solver_reader.specs.Reached.{LeadsTo, list_of}
use Rattle.facet_solver_reader.specs.Rules.{Content, End, Rules, an_untagged_variant}
use Rattle.facet_solver_reader.specs.Types.{content_at, rules_of}
use Rattle.facet_solver_reader.specs.Views.{list_view}

-- the contents of the variants of an untagged enum, by its end
abbrev pub variants_of_end : End → List Target
variants_of_end (an_untagged_variant joined alone) = map (λ a. a.content) alone
variants_of_end _ = []

-- the contents of the variants of an untagged enum
abbrev pub variants_of : Rules → Target → List Target
variants_of rules (of_shape s) = variants_of_end (rules.end_of s)
variants_of rules (of_content s k) = []
variants_of rules (of_tag name) = []

-- a document that is read as a target has a value that is read as another. The content of each
-- variant of an untagged enum counts as read by itself, of one that joins others too
abbrev pub MeetsNext : Rules → Target → Target → Type 0
MeetsNext rules from t = LeadsTo rules from t ⊎ Any (λ u. u ≡ t) (variants_of rules from)

-- a target is met from another in so many steps
abbrev pub IsMetIn : ℕ → Rules → Target → Target → Type 0
IsMetIn zero rules root t = root ≡ t
IsMetIn (suc n) rules root t =
    (u : Target) × IsMetIn n rules root u × MeetsNext rules u t

-- a document that is read as a target can come to another
abbrev pub IsMet : Rules → Target → Target → Type 0
IsMet rules root t = (n : ℕ) × IsMetIn n rules root t

-- a document that is read as the root can come to a value that is read as the shape
abbrev pub ShapeIsMet : Catalogue → Bool → ℕ → ℕ → Type 0
ShapeIsMet shapes strict root id =
    IsMet (rules_of shapes strict) (of_shape root) (of_shape id)

-- choices of the list by which an object is read go through another: from list to branch, each of
-- which some choice has
pub record ListIsMet (shapes : Catalogue) (strict : Bool) (root : ℕ) (id : ListId) : Type 0 where
  pub from : Target
  pub from_met : IsMet (rules_of shapes strict) (of_shape root) from
  pub list : ListId
  pub list_is : list_of (rules_of shapes strict) from ≡ Some list
  pub chosen : IsChosen shapes list
  pub steps : ℕ
  pub through : ComesIn steps shapes list id

-- the same, if some choice has the list
abbrev pub IfChosen : Catalogue → Bool → ℕ → ListId → Type 0
IfChosen shapes strict root id = IsChosen shapes id → ListIsMet shapes strict root id

-- what content leads to is met
abbrev pub ContentIsMet : Catalogue → Bool → ℕ → Content → Type 0
ContentIsMet shapes strict root c =
    ContentHas (ShapeIsMet shapes strict root) (IfChosen shapes strict root) c

-- what a target leads to is met
abbrev pub TargetIsMet : Catalogue → Bool → ℕ → Target → Type 0
TargetIsMet shapes strict root t =
    TargetHas (ShapeIsMet shapes strict root) (IfChosen shapes strict root) (content_at shapes) t

-- what an end leads to is met
abbrev pub EndIsMet : Catalogue → Bool → ℕ → End → Type 0
EndIsMet shapes strict root e =
    EndHas (ShapeIsMet shapes strict root) (IfChosen shapes strict root) (content_at shapes) e

-- what a part leads to is met
abbrev pub PartIsMet : Catalogue → Bool → ℕ → Part → Type 0
PartIsMet shapes strict root p =
    PartHas (ShapeIsMet shapes strict root) (IfChosen shapes strict root) (content_at shapes) p

-- a list of a number is met
abbrev pub NumberIsMet : Catalogue → EveryList → Bool → ℕ → ℕ → Type 0
NumberIsMet shapes every strict root k =
    (l : Listed) → slice_get every.lists.items k ≡ Some l
    → ListIsMet shapes strict root (list_view l.id)

-- all that is marked is met
pub record AreMet (shapes : Catalogue) (every : EveryList) (strict : Bool) (root : ℕ) (m : Marks)
    : Type 0 where
  pub of_shapes : (id : ℕ) → IsMarked m.shapes.items id → ShapeIsMet shapes strict root id
  pub of_lists : (k : ℕ) → IsMarked m.lists.items k → NumberIsMet shapes every strict root k

-- all that is marked stays met, where something is
abbrev pub StayMet : Catalogue → EveryList → Marks → Marks → (Bool → ℕ → Type 0) → Type 0
StayMet shapes every old new P =
    (strict : Bool) (root : ℕ) → AreEveryList shapes every → P strict root
    → AreMet shapes every strict root old → AreMet shapes every strict root new
