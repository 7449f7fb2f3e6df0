-- The names of members that no choice of a list has.
use Rattle.std.proofs.Common.{◌≡◌, ◌∷◌, ◌++◌, [], Bool, List, ap, false, if◌then◌else◌, refl}
use Rattle.std.proofs.Common.{Bor, sym, true, ◌∙◌, ℕ, ◌+◌, ◌<◌, take, map, length, get_or, arith, not, ◌||◌}
use Rattle.std.specs.List.{list_any}
use Rattle.std.proofs.lemmas.Bool.Decides.{same_from_decides}
use Rattle.std.proofs.lemmas.List.Folds.{list_any_at, list_any_more}
use Rattle.std.proofs.lemmas.List.Sorted.{list_any-IsPermutation}
use Rattle.std.proofs.lemmas.List.{append-nil, length-map, take_more}
use Rattle.std.proofs.lemmas.Option.{get_or_from_slice_get}
use Rattle.facet_solver_shape.specs.Names.{Name, names_of}
use Rattle.facet_solver_shape.proofs.Lists.{list_any-map}
use Rattle.facet_solver_reader.specs.declared.nodes.Nodes.{Nodes}
use Rattle.facet_solver_reader.specs.declared.count.object.Object as code
use Rattle.facet_solver_reader.specs.declared.tables.List.{List as ListEntry}
use Rattle.facet_solver_reader.specs.declared.tables.Tables.{Tables}
use Rattle.facet_solver_reader.specs.Documents.{Member}
use Rattle.facet_solver_reader.specs.Known.{named}
use Rattle.facet_solver_reader.specs.Nodes.{AreNamesOf, Named, members_in, names_among, value_of}
use Rattle.facet_solver_reader.specs.Places.{names_in}
use Rattle.facet_solver_reader.specs.Parts.{ListId}
use Rattle.facet_solver_reader.specs.Reading.{IsListed, IsObject, object_view}
use Rattle.facet_solver_reader.specs.Tables.{AreTables, IsListOf, has_unknown, knows, rules_at}
use Rattle.facet_solver_reader.specs.Told.{AreUnknown, a_known, an_unknown, no_member}
use Rattle.facet_solver_reader.specs.ToldObjects.{unknown_names}
use Rattle.facet_solver_reader.proofs.CountingObjects.{known_by_list, seen_read}
use Rattle.facet_solver_reader.proofs.CountingObjects.{unknown_by_list}
use Rattle.facet_solver_reader.proofs.Trees.{same_names}

-- the names of more members come behind
pub unknown_names-append : (l : ListEntry) (ms ns : List Member)
    → unknown_names l (ms ++ ns) ≡ unknown_names l ms ++ unknown_names l ns
unknown_names-append l [] ns = refl
unknown_names-append l (m ∷ ms) ns =
    at (unknown_names-append l ms ns) (knows l (named m.name))
  where
    at : unknown_names l (ms ++ ns) ≡ unknown_names l ms ++ unknown_names l ns → (b : Bool)
        → (if b then unknown_names l (ms ++ ns) else m.name ∷ unknown_names l (ms ++ ns))
        ≡ (if b then unknown_names l ms else m.name ∷ unknown_names l ms) ++ unknown_names l ns
    at e true = e
    at e false = ap (λ xs. m.name ∷ xs) e

-- there are none, where the list has each name
pub none_unknown : (l : ListEntry) (ms : List Member) → has_unknown l ms ≡ false
    → unknown_names l ms ≡ []
none_unknown l [] e = refl
none_unknown l (m ∷ ms) e = at (none_unknown l ms) (knows l (named m.name)) e
  where
    at : (has_unknown l ms ≡ false → unknown_names l ms ≡ []) → (b : Bool)
        → (not b || has_unknown l ms) ≡ false
        → (if b then unknown_names l ms else m.name ∷ unknown_names l ms) ≡ []
    at rest true none = rest none
    at rest false none = absurd (cc)

-- whether a list lacks a name
abbrev pub lacks_name : ListEntry → Name → Bool
lacks_name l x = not (knows l (named x))

-- whether it lacks one of several
abbrev pub lacks_names : ListEntry → Named → Bool
lacks_names l es = list_any (λ (e : Bor Name × ℕ). lacks_name l e.0.now) es

-- an object has a member of a name that a list lacks where its names, sorted, have one
pub unknown_by_name : (l : ListEntry) (ms : List Member) (first : ℕ) (es : Named)
    → AreNamesOf ms first es → lacks_names l es ≡ has_unknown l ms
unknown_by_name l ms first es names =
    sym (list_any-map (λ (n : Bor Name). lacks_name l n.now) (λ (e : Bor Name × ℕ). e.0) es)
    ∙ sym (list_any-map (lacks_name l) (λ (n : Bor Name). n.now) (names_among es))
    ∙ sym (list_any-IsPermutation (lacks_name l) (names_in ms) (names_of (names_among es))
    (same_names ms first es names.same))
    ∙ list_any-map (lacks_name l) (λ (m : Member). m.name) ms

module _ (l : ListEntry) (es : Named) (i : ℕ) (d : Bor Name × ℕ) (within : i < length es) where
  -- a name that the list lacks settles it
  pub unknown_at : knows l (named (get_or es i d).0.now) ≡ false → lacks_names l es ≡ true
  unknown_at missing =
      list_any_at (λ (e : Bor Name × ℕ). lacks_name l e.0.now) es i d within (ap not missing)

  -- one name more that it has
  pub known_more : lacks_names l (take i es) ≡ false
      → knows l (named (get_or es i d).0.now) ≡ true → lacks_names l (take (i + 1) es) ≡ false
  known_more none there =
      list_any_more (λ (e : Bor Name × ℕ). lacks_name l e.0.now) es i d within
      ∙ ap (λ b. b || lacks_name l (get_or es i d).0.now) none
      ∙ ap not there

module _ {X : Type 0} (see : X → Member) (xs : List X) (l : ListEntry) (i : ℕ) (x : X)
    (within : i < length xs) (is : x ≡ get_or xs i x) where
  -- one member more
  one_more : take (i + 1) (map see xs) ≡ take i (map see xs) ++ see x ∷ []
  one_more =
      let inside : i < length (map see xs) = omega (arith, length-map xs see) in
      let at : get_or (map see xs) i (see x) ≡ see x =
      get_or_from_slice_get (map see xs) i (see x) (see x)
      (seen_read see xs (map see xs) i x refl within is) in
      take_more (map see xs) i (see x) inside ∙ ap (λ m. take i (map see xs) ++ m ∷ []) at

  -- the name of one that the list lacks comes behind
  pub unknown_more : (names : List Name) → false ≡ knows l (named (see x).name)
      → names ≡ unknown_names l (take i (map see xs))
      → names ++ (see x).name ∷ [] ≡ unknown_names l (take (i + 1) (map see xs))
  unknown_more names lacks before =
      ap (λ ns. ns ++ (see x).name ∷ []) before
      ∙ (ap (λ b. unknown_names l (take i (map see xs))
      ++ (if b then [] else (see x).name ∷ [])) lacks
      ∙ (sym (unknown_names-append l (take i (map see xs)) (see x ∷ []))
      ∙ ap (unknown_names l) (sym one_more)))

  -- one that it has adds none
  pub unknown_same : (names : List Name) → true ≡ knows l (named (see x).name)
      → names ≡ unknown_names l (take i (map see xs))
      → names ≡ unknown_names l (take (i + 1) (map see xs))
  unknown_same names has before =
      before ∙ (sym (append-nil (unknown_names l (take i (map see xs))))
      ∙ (ap (λ b. unknown_names l (take i (map see xs))
      ++ (if b then [] else (see x).name ∷ [])) has
      ∙ (sym (unknown_names-append l (take i (map see xs)) (see x ∷ []))
      ∙ ap (unknown_names l) (sym one_more))))

-- they are the unknown names, where the list is one of the tables
pub are_unknown : (t : Tables) → AreTables t → (id : ListId) (l : ListEntry) → IsListOf t id l
    → (ms : List Member) → AreUnknown (rules_at t) id ms (unknown_names l ms)
are_unknown t tables id l h [] = no_member
are_unknown t tables id l h (m ∷ ms) =
    at (are_unknown t tables id l h ms) (knows l (named m.name)) refl
  where
    at : AreUnknown (rules_at t) id ms (unknown_names l ms) → (b : Bool)
        → b ≡ knows l (named m.name) → AreUnknown (rules_at t) id (m ∷ ms)
        (if b then unknown_names l ms else m.name ∷ unknown_names l ms)
    at u true e =
        a_known m ms (unknown_names l ms)
        ((known_by_list t tables id l h (named m.name) true e).0 refl) u
    at u false e =
        an_unknown m ms (unknown_names l ms)
        (λ k. let is : false ≡ true = (known_by_list t tables id l h (named m.name) false e).1 k in
        absurd (cc)) u

module _ (t : Tables) (tables : AreTables t) (nodes : Nodes) (o : code.Object)
    (h : IsObject t nodes o) where
  listed : IsListed t o.list.now
  listed = record { index = h.index; listed = h.listed }

  -- whether an object has members of no known name, as the entry of its list tells
  pub unknown_told : o.has_unknown ≡ has_unknown o.list.now (members_in (value_of nodes o.node))
  unknown_told =
      same_from_decides o.has_unknown
      (has_unknown o.list.now (members_in (value_of nodes o.node))) h.unknown
      (unknown_by_list t tables o.list.now listed (object_view nodes o)
      (has_unknown o.list.now (members_in (value_of nodes o.node))) refl refl)
