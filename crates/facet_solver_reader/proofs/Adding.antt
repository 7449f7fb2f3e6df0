-- Values and names that are added to those that are numbered.
use Rattle.std.proofs.Common.{◌≡◌, ℕ, suc, ◌+◌, ◌<◌, ◌≤◌, List, [], ◌∷◌, ◌++◌, map, length, take, get_or, refl, sym, ap, ◌∙◌, arith, append_assoc, append-nil, Bor}
use Rattle.std.proofs.lemmas.List.{map-append, take_more, take_all}
use Rattle.std.proofs.lemmas.Option.{get_or_from_slice_get, slice_get_within}
use Rattle.facet_solver_shape.specs.Names.{Name}
use Rattle.facet_solver_reader.specs.declared.document.Document.{Document}
use Rattle.facet_solver_reader.specs.declared.nodes.Node as code_node
use Rattle.facet_solver_reader.specs.Documents.{Tree, Member, members, members_view, view}
use Rattle.facet_solver_reader.specs.Nodes.{IsAppended, Named, nodes_view, numbered, under}
use Rattle.facet_solver_reader.proofs.Trees.{member_read, long_members, numbered-at}

-- ---- children that are added one by one

-- those up to an index are added
abbrev pub AreAddedUpto : {X : Type 0} (f : X → Tree) (parent : ℕ) (xs : List X) (old now : List code_node.Node) → ℕ → Type 0
AreAddedUpto f parent xs old now k = nodes_view now ≡ nodes_view old ++ under parent (map f (take k xs))

-- ---- names that are added one by one

pub long_numbered : (first : ℕ) (ms : List Member) → length (numbered first ms) ≡ length ms
long_numbered first [] = refl
long_numbered first (m ∷ ms) = ap suc (long_numbered (first + 1) ms)

module _ (first : ℕ) (ms : List (Bor Name × Document)) (old : Named) where
  pub none_named : IsAppended old old []
  none_named = record { names = []; is = sym (append-nil old); entries_are = refl }

  pub one_named : (now : Named) (k : ℕ) (m : Bor Name × Document) → IsAppended old now (take k (numbered first (members (members_view ms)))) → k < length ms → m ≡ get_or ms k m → IsAppended old (now ++ (m.0, first + k) ∷ []) (take (k + 1) (numbered first (members (members_view ms))))
  one_named now k m so_far within is =
      let all = members (members_view ms) in
      let there = numbered-at first all k (record { name = m.0.now; value = view m.1 }) (member_read ms k m within is) in
      let here : get_or (numbered first all) k (m.0.now, first + k) ≡ (m.0.now, first + k) = get_or_from_slice_get (numbered first all) k (m.0.now, first + k) (m.0.now, first + k) there in
      let more : take (k + 1) (numbered first all) ≡ take k (numbered first all) ++ (m.0.now, first + k) ∷ [] =
      take_more (numbered first all) k (m.0.now, first + k) (slice_get_within (numbered first all) k (m.0.now, first + k) there) ∙ ap (λ e. take k (numbered first all) ++ e ∷ []) here in
      record {
        names = so_far.names ++ (m.0, first + k) ∷ [];
        is = ap (λ es. es ++ (m.0, first + k) ∷ []) so_far.is ∙ append_assoc old so_far.names ((m.0, first + k) ∷ []);
        entries_are =
            map-append (λ (e : Bor Name × ℕ). let x : Name × ℕ = (e.0.now, e.1) in x) so_far.names ((m.0, first + k) ∷ [])
            ∙ ap (λ es. es ++ (m.0.now, first + k) ∷ []) so_far.entries_are
            ∙ sym more;
      }

  pub all_named : (now : Named) (k : ℕ) → IsAppended old now (take k (numbered first (members (members_view ms)))) → length ms ≤ k → IsAppended old now (numbered first (members (members_view ms)))
  all_named now k so_far past =
      let all = members (members_view ms) in
      record {
        names = so_far.names;
        is = so_far.is;
        entries_are = so_far.entries_are ∙ take_all k (numbered first all) (omega (arith, past, long_numbered first all, long_members ms));
      }
