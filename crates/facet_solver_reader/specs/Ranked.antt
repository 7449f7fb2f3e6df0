-- Which shapes have a rank: every way of asking the same value on from them has an end.
use Rattle.std.specs.Prelude.{◌≡◌, ℕ, ◌<◌, Bool, true, false, ◌||◌, List, Option, Some, None, length, slice_get}
use Rattle.std.specs.List.{list_all}
use Rattle.std.specs.Option.{unwrap_or}
use Rattle.facet_solver_shape.specs.Catalogues.{Catalogue}
use Rattle.facet_solver_reader.specs.declared.end.End as code
use Rattle.facet_solver_reader.specs.declared.tables.ranks.Ranks.{Ranks}
use Rattle.facet_solver_reader.specs.Asking.{ComesTo}
use Rattle.facet_solver_reader.specs.InRange.{AnyList}
use Rattle.facet_solver_reader.specs.Leads.{EndHas}
use Rattle.facet_solver_reader.specs.OrderedLists.{IsMarked}
use Rattle.facet_solver_reader.specs.Parts.{Target, of_shape, of_content, of_tag}
use Rattle.facet_solver_reader.specs.Reached.{IsRanked}
use Rattle.facet_solver_reader.specs.Rules as rules
use Rattle.facet_solver_reader.specs.Rules.{Alternative, AlternativeKind, Content, End, joins, as_shape, an_option, an_untagged_variant}
use Rattle.facet_solver_reader.specs.Types.{content_at, end_of, rules_of}
use Rattle.facet_solver_reader.specs.Views.{end_view}
use Rattle.facet_solver_reader.specs.WorkList.{Ends, HasEnd}

-- every way of asking on from a shape has fewer than so many targets
abbrev pub ShapeIsRanked : Catalogue → ℕ → ℕ → Type 0
ShapeIsRanked shapes n id = (strict : Bool) → IsRanked n (rules_of shapes strict) (of_shape id)

-- from a shape the way of asking on goes on, however long it is
abbrev pub AsksWithoutEnd : Catalogue → ℕ → Type 0
AsksWithoutEnd shapes id =
    (strict : Bool) (n : ℕ) → (u : Target) × ComesTo (rules_of shapes strict) n (of_shape id) u

-- each end is as its type says, and what it leads to has its end
pub record AreEnds (shapes : Catalogue) (ends : Ends) : Type 0 where
  pub each : (id : ℕ) (e : code.End) → slice_get ends id ≡ Some (Some e)
      → (end_view e ≡ end_of shapes id)
      × EndHas (HasEnd ends) AnyList (content_at shapes) (end_view e)

-- each shape with an end is ranked below a number, or asks on without end
pub record AreRanked (shapes : Catalogue) (ends : Ends) (r : Ranks) : Type 0 where
  pub ranked : (id : ℕ) → IsMarked r.is_ranked.items id
      → (n : ℕ) × (n < r.steps) × ShapeIsRanked shapes n id
  pub unranked : (id : ℕ) → HasEnd ends id → slice_get r.is_ranked.items id ≡ Some false
      → AsksWithoutEnd shapes id
  pub some : 0 < r.steps
  pub same_length : length r.is_ranked.items ≡ length ends

-- whether a shape is marked
abbrev pub is_marked : List Bool → ℕ → Bool
is_marked marks id = unwrap_or (slice_get marks id) false

-- whether content asks marked shapes alone
abbrev pub content_asks_marked : List Bool → Content → Bool
content_asks_marked marks (as_shape id) = is_marked marks id
content_asks_marked marks _ = true

-- whether a target is a marked shape, or asks marked shapes alone
abbrev pub is_target_marked : Catalogue → List Bool → Target → Bool
is_target_marked shapes marks (of_shape id) = is_marked marks id
is_target_marked shapes marks (of_content id k) = content_asks_marked marks (content_at shapes id k)
is_target_marked shapes marks (of_tag name) = true

-- the same of what an alternative of a kind asks
abbrev pub is_marked_by_kind : AlternativeKind → Bool → Bool
is_marked_by_kind joins content = true
is_marked_by_kind rules.null_alone content = true
is_marked_by_kind _ content = content

-- the same of an alternative
abbrev pub is_alternative_marked : Catalogue → List Bool → Alternative → Bool
is_alternative_marked shapes marks a =
    is_marked_by_kind a.kind (is_target_marked shapes marks a.content)

-- whether an end asks marked shapes alone, at once or by content
abbrev pub asks_marked : Catalogue → List Bool → End → Bool
asks_marked shapes marks (an_option id) = is_marked marks id
asks_marked shapes marks (an_untagged_variant joined alone) =
    list_all (is_alternative_marked shapes marks) alone
asks_marked shapes marks _ = true

-- whether a shape is marked after one more round, by its end and its mark
abbrev pub marked_next : Catalogue → List Bool → ℕ → Option code.End → Bool
marked_next shapes marks id None = false
marked_next shapes marks id (Some e) = is_marked marks id || asks_marked shapes marks (end_view e)

-- the marks after one more round
pub record AreNext (shapes : Catalogue) (ends : Ends) (marks next : List Bool) : Type 0 where
  pub each : (id : ℕ) (o : Option code.End) → slice_get ends id ≡ Some o
      → slice_get next id ≡ Some (marked_next shapes marks id o)
  pub same_length : length next ≡ length ends
