use Rattle.std.proofs.Common.{◌≡◌, ◌∙◌, sym, ap, subst, refl, List, [], ◌∷◌, length, IsTrue}
use Rattle.std.proofs.Common.{not, true, false, vec_len}
use Rattle.std.proofs.lemmas.Bool.{eq-eqb, eqb-true}
use Rattle.std.proofs.lemmas.List.{nil_from_length}
use Rattle.std.proofs.lemmas.List.Folds.{Any-from_list_any, list_any-from_Any}
use Rattle.std.proofs.lemmas.Slice.Eq.{bytes_eq-Decides}
use Rattle.std.specs.Borrow.{Bor}
use Rattle.std.specs.List.{Any}
use Rattle.std.specs.Str.{bytes_eq}
use Rattle.facet_solver_shape.specs.Names.{Name}
use Rattle.facet_solver_reader.specs.declared.tables.List.{List as ListEntry}
use Rattle.facet_solver_reader.specs.declared.tables.Tables.{Tables}
use Rattle.facet_solver_reader.specs.Known.{Chooses, IsKnown, Key, named, rest}
use Rattle.facet_solver_reader.specs.Reading.{IsListed}
use Rattle.facet_solver_reader.specs.Tables.{AreTables, knows, rules_at}
use Rattle.facet_solver_reader.specs.Views.{list_view}
use Rattle.facet_solver_reader.proofs.Quantifiers.{any_at, any_of_none}
use Rattle.facet_solver_reader.proofs.read.tells.tells.Goals as goal
use Rattle.facet_solver_reader.proofs.read.tells.tells.Goals.{then-not-is_empty, else-not-is_empty}

module _ (t : Tables) (tables : AreTables t) (l : ListEntry) (h : IsListed t l)
    (none : (x : Key) → IsKnown (Chooses (rules_at t).lists (list_view l.id)) x → ⊥) where
  -- where no key is known, none is told
  unknown : (x : Key) → IsTrue (knows l x) → ⊥
  unknown x k = none x (((tables.lists h.index l h.listed).known x).0 k)

  -- so there is no name
  no_name : (names : List (Bor Name)) → l.names.items ≡ names → names ≡ []
  no_name [] same = refl
  no_name (n ∷ ns) same =
      absurd (unknown (named n.now)
      (list_any-from_Any (λ (m : Bor Name). bytes_eq m.now n.now) l.names.items
      (subst (Any (λ (m : Bor Name). bytes_eq m.now n.now ≡ true)) (sym same)
      (any_at (λ (m : Bor Name). bytes_eq m.now n.now ≡ true) (n ∷ ns) 0 n refl
      ((bytes_eq-Decides n.now n.now).1 refl)))))

-- a list without names and catch-alls knows no key
nothing_known : (l : ListEntry) → l.names.items ≡ [] → l.takes_rest ≡ false → (x : Key)
    → IsTrue (knows l x) → ⊥
nothing_known l no_names no_rest (named x) k =
    any_of_none (λ (m : Bor Name). bytes_eq m.now x ≡ true)
    (subst (Any (λ (m : Bor Name). bytes_eq m.now x ≡ true)) no_names
    (Any-from_list_any (λ (m : Bor Name). bytes_eq m.now x) l.names.items k))
nothing_known l no_names no_rest rest k = absurd (cc)

pub returns-then-list-clause-some : goal.returns-then-list-clause-some
returns-then-list-clause-some c = λ h nothing.
    let l = c.args.list.now in
    let value : c.if-not-is_empty.value ≡ true = h in
    elim c.if-not-is_empty.branch [
      | then-not-is_empty w ↦
          let none : l.names.items ≡ [] =
          no_name c.args.tables.now c.requires.tables l c.requires.listed nothing.no_key
          l.names.items refl in
          let empty : c.is_empty.result ≡ true =
          c.is_empty.ensures ∙ eq-eqb (vec_len l.names) 0 (l.names.ok.0 ∙ ap length none) in
          let some : c.is_empty.result ≡ false = w.if-not-is_empty.true in
          absurd (cc)
      | else-not-is_empty w ↦
          let takes : l.takes_rest ≡ true = sym w.value-is ∙ value in
          unknown c.args.tables.now c.requires.tables l c.requires.listed nothing.no_key rest takes
    ]

pub returns-else-list-clause-nothing : goal.returns-else-list-clause-nothing
returns-else-list-clause-nothing c = λ h.
    let l = c.args.list.now in
    let is = c.requires.tables.lists c.requires.listed.index l c.requires.listed.listed in
    let value : c.if-not-is_empty.value ≡ false = c.if-list.false in
    record {
      no_key = λ x k.
          elim c.if-not-is_empty.branch [
            | then-not-is_empty w ↦
                let other : c.if-not-is_empty.value ≡ not c.is_empty.result = w.value-is in
                let some : c.is_empty.result ≡ false = w.if-not-is_empty.true in
                let both : c.if-not-is_empty.value ≡ true = other ∙ ap not some in
                absurd (cc)
            | else-not-is_empty w ↦
                let empty : vec_len l.names ≡ 0 =
                eqb-true (vec_len l.names) 0 (sym c.is_empty.ensures ∙ w.if-not-is_empty.false) in
                nothing_known l (nil_from_length l.names.items (sym l.names.ok.0 ∙ empty))
                (sym w.value-is ∙ value) x ((is.known x).1 k)
          ];
      no_enum = λ b.
          let yes : c.has_enum_below.result ≡ true = c.has_enum_below.ensures.1 b in
          absurd (cc);
    }
