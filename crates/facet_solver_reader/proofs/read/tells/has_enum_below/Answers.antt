use Rattle.std.proofs.Common.{◌≡◌, ◌∙◌, sym, ap, subst, refl, ℕ, ◌+◌, ◌<◌, List, Some, true, false}
use Rattle.std.proofs.Common.{get_or, length, slice_get, arith, ⊎_elim, ◌⊎◌}
use Rattle.std.proofs.lemmas.Option.{slice_get-get_or, slice_get_read, slice_get_within}
use Rattle.facet_solver_reader.specs.declared.tables.List.{List as ListEntry}
use Rattle.facet_solver_reader.specs.declared.tables.Tables.{Tables}
use Rattle.facet_solver_reader.specs.Reading.{IsListed}
use Rattle.facet_solver_reader.specs.Tables.{AreTables}
use Rattle.facet_solver_reader.specs.Tells.{HasEnumBelow, tells_of_enum}
use Rattle.facet_solver_reader.specs.Views.{list_view, parts_view}
use Rattle.facet_solver_reader.proofs.read.tells.has_enum_below.Goals as goal

-- the index that is read at a position, and the list that stands there
list_below : (t : Tables) → AreTables t → (l : ListEntry) → IsListed t l → (xs : List ℕ)
    → xs ≡ l.below.items → (position : ℕ) → position < length xs
    → (e : ListEntry) × (slice_get l.below.items position ≡ Some (get_or xs position 0))
    × (slice_get t.lists.items (get_or xs position 0) ≡ Some e)
list_below t tables l h xs same position within =
    let at = subst (λ ys. slice_get ys position ≡ Some (get_or xs position 0)) same
    (slice_get-get_or xs position 0 within) in
    let a = (tables.lists h.index l h.listed).in_order position (get_or xs position 0) at in
    (a.0, at, a.1)

pub index-requires : goal.index-requires
index-requires c =
    let t = c.args.tables.now in
    let xs = c.deref-index-items.result.now in
    let b = list_below t c.requires.tables c.args.list.now c.requires.listed xs
    c.deref-index-items.ensures.value c.loop-index.index-index c.loop-index-test.true in
    omega (arith, slice_get_within t.lists.items (get_or xs c.loop-index.index-index 0) b.0 b.2)

pub returns-then-tells_of_enum : goal.returns-then-tells_of_enum
returns-then-tells_of_enum c =
    let t = c.args.tables.now in
    let xs = c.deref-index-items.result.now in
    let position = c.loop-index.index-index in
    let index = get_or xs position 0 in
    let b = list_below t c.requires.tables c.args.list.now c.requires.listed xs
    c.deref-index-items.ensures.value position c.loop-index-test.true in
    let at = slice_get_read t.lists.items (length t.lists.items) index c.index.result.now refl
    (slice_get_within t.lists.items index b.0 b.2) c.index.ensures in (
      λ h.
          record {
            position = position;
            index = index;
            entry = c.index.result.now;
            is_below = b.1;
            listed = at;
            tells = sym c.tells_of_enum.ensures ∙ c.if-tells_of_enum.true;
          },
      λ h. refl,
    )

pub loop-index-preserved : goal.loop-index-preserved
loop-index-preserved c = λ b within.
    let t = c.args.tables.now in
    let xs = c.deref-index-items.result.now in
    let position = c.loop-index.index-index in
    let index = get_or xs position 0 in
    let a = list_below t c.requires.tables c.args.list.now c.requires.listed xs
    c.deref-index-items.ensures.value position c.loop-index-test.true in
    let e = c.index.result.now in
    let at = slice_get_read t.lists.items (length t.lists.items) index e refl
    (slice_get_within t.lists.items index a.0 a.2) c.index.ensures in
    ⊎_elim (λ (less : b.position < position). c.loop-index.invariant b less)
    (λ (same : b.position ≡ position).
    let both : Some b.index ≡ Some index =
    sym b.is_below ∙ ap (slice_get c.args.list.now.below.items) same ∙ a.1 in
    let one : b.index ≡ index = cc in
    let twice : Some b.entry ≡ Some e = sym b.listed ∙ ap (slice_get t.lists.items) one ∙ at in
    let entry : b.entry ≡ e = cc in
    let is : tells_of_enum (list_view e.id) (parts_view e.parts.items) ≡ true =
    ap (λ (x : ListEntry). tells_of_enum (list_view x.id) (parts_view x.parts.items)) (sym entry)
    ∙ b.tells in
    let isnt : tells_of_enum (list_view e.id) (parts_view e.parts.items) ≡ false =
    sym c.tells_of_enum.ensures ∙ c.if-tells_of_enum.false in
    absurd (cc))
    (less_or_here b.position position within)
  where
    less_or_here : (p q : ℕ) → p < q + 1 → (p < q) ⊎ (p ≡ q)
    less_or_here p q h = grind arith

pub returns : goal.returns
returns c = (
  λ h. let no : false ≡ true = h in absurd (cc),
  λ (b : HasEnumBelow c.args.tables.now c.args.list.now).
      let within = slice_get_within c.args.list.now.below.items b.position b.index b.is_below in
      absurd (c.loop-index.invariant b
      (omega (
        arith,
        within,
        ap length c.deref-index-items.ensures.value,
        c.loop-index-test.false,
      ))),
)
