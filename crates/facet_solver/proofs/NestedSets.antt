-- Sets of key paths: what is in them, and what a resolution with more of them is.
use Rattle.std.proofs.Common.{◌≡◌, ◌⊎◌, inl, inr, ◌||◌, ◌+◌, cond, List, [], ◌∷◌, ◌++◌, map, refl, ap, sym, ◌∙◌, subst, Bool, true, false}
use Rattle.std.specs.List.{list_any}
use Rattle.std.specs.Ordering.{nat_cmp, eq_by_cmp}
use Rattle.std.specs.Cmp.Lexicographic.{slice_cmp}
use Rattle.std.specs.FinSet as set
use Rattle.std.proofs.Math.Bool.{or_assoc}
use Rattle.std.proofs.lemmas.Cmp.{eq_by_cmp_equiv}
use Rattle.facet_solver_shape.specs.Names.{Name}
use Rattle.facet_solver_shape.specs.Resolved.{Resolved, with_key_path}
use Rattle.facet_solver_shape.proofs.Finite.{equal}
use Rattle.facet_solver_shape.proofs.Keys.{path_cmp_total, path_cmp_same}
use Rattle.facet_solver.specs.build.Nested.{KeyPath, KeyPaths, no_paths, behind_prefix, named, with_key_paths, with_paths_behind}

-- whether two key paths are equal
abbrev is_path : KeyPath → KeyPath → Bool
is_path = eq_by_cmp (slice_cmp (slice_cmp nat_cmp))

is_path_same : (p q : KeyPath) → is_path p q ≡ true → p ≡ q
is_path_same p q e = path_cmp_same p q (equal (slice_cmp (slice_cmp nat_cmp) p q) e)

-- a set has a key path
abbrev pub Has : KeyPaths → KeyPath → Type 0
Has paths q = set.contains paths q ≡ true

either : (a b : Bool) → (a || b) ≡ true → (a ≡ true) ⊎ (b ≡ true)
either true b e = inl refl
either false b e = inr e

pub or-right : (a b : Bool) → b ≡ true → (a || b) ≡ true
or-right true b e = refl
or-right false b e = e

pub Has-none : {A : Type 0} (q : KeyPath) → Has no_paths q → A
Has-none q h = let none = set.contains-empty (slice_cmp (slice_cmp nat_cmp)) q in cc

module _ (ps qs : KeyPaths) (q : KeyPath) where
  pub Has-union : Has (set.union ps qs) q → Has ps q ⊎ Has qs q
  Has-union h = either (set.contains ps q) (set.contains qs q) (sym (set.contains-union path_cmp_total ps qs q) ∙ h)

  pub Has-left : Has ps q → Has (set.union ps qs) q
  Has-left h = set.contains-union path_cmp_total ps qs q ∙ ap (λ b. b || set.contains qs q) h

  pub Has-right : Has qs q → Has (set.union ps qs) q
  Has-right h = set.contains-union path_cmp_total ps qs q ∙ or-right (set.contains ps q) (set.contains qs q) h

module _ (ps : KeyPaths) (p q : KeyPath) where
  pub Has-insert : Has (set.insert ps p) q → (q ≡ p) ⊎ Has ps q
  Has-insert h = elim (either (is_path q p) (set.contains ps q) (sym (set.contains-insert path_cmp_total ps p q) ∙ h)) [
    | inl tie ↦ inl (is_path_same q p tie)
    | inr there ↦ inr there
  ]

  pub Has-other : Has ps q → Has (set.insert ps p) q
  Has-other h = set.contains-insert path_cmp_total ps p q ∙ or-right (is_path q p) (set.contains ps q) h

pub Has-itself : (ps : KeyPaths) (p : KeyPath) → Has (set.insert ps p) p
Has-itself ps p =
    set.contains-insert path_cmp_total ps p p
    ∙ ap (λ b. b || set.contains ps p) ((eq_by_cmp_equiv path_cmp_total).refl p)

-- what is behind a prefix, by recursion over a list
any_behind : (prefix q : KeyPath) (ps : List KeyPath) → list_any (is_path q) ps ≡ true → list_any (is_path (prefix ++ q)) (map (λ q. prefix ++ q) ps) ≡ true
any_behind prefix q [] h = absurd (cc)
any_behind prefix q (p ∷ ps) h = elim (either (is_path q p) (list_any (is_path q) ps) h) [
  | inl tie ↦ (ap (λ b. b || list_any (is_path (prefix ++ q)) (map (λ q. prefix ++ q) ps)) (ap (λ (r : KeyPath). is_path (prefix ++ q) (prefix ++ r)) (sym (is_path_same q p tie)) ∙ (eq_by_cmp_equiv path_cmp_total).refl (prefix ++ q)))
  | inr later ↦ or-right (is_path (prefix ++ q) (prefix ++ p)) _ (any_behind prefix q ps later)
]

any_behind_from : (prefix q : KeyPath) (ps : List KeyPath) → list_any (is_path q) (map (λ q. prefix ++ q) ps) ≡ true → (r : KeyPath) × (list_any (is_path r) ps ≡ true) × (prefix ++ r ≡ q)
any_behind_from prefix q [] h = absurd (cc)
any_behind_from prefix q (p ∷ ps) h = elim (either (is_path q (prefix ++ p)) _ h) [
  | inl tie ↦ (p, ap (λ b. b || list_any (is_path p) ps) ((eq_by_cmp_equiv path_cmp_total).refl p), sym (is_path_same q (prefix ++ p) tie))
  | inr later ↦ (let r = any_behind_from prefix q ps later in (r.0, or-right (is_path r.0 p) _ r.1, r.2))
]

module _ (prefix : KeyPath) (ps : KeyPaths) (q : KeyPath) where
  pub Has-behind : Has ps q → Has (behind_prefix prefix ps) (prefix ++ q)
  unfolding behind_prefix
  Has-behind h =
      set.contains-from_list path_cmp_total (map (λ q. prefix ++ q) (set.items ps)) (prefix ++ q)
      ∙ any_behind prefix q (set.items ps) (sym (set.contains-items ps q) ∙ h)

  pub Has-behind_from : Has (behind_prefix prefix ps) q → (r : KeyPath) × Has ps r × (prefix ++ r ≡ q)
  unfolding behind_prefix
  Has-behind_from h =
      let r = any_behind_from prefix q (set.items ps) (sym (set.contains-from_list path_cmp_total (map (λ q. prefix ++ q) (set.items ps)) q) ∙ h) in
      (r.0, set.contains-items ps r.0 ∙ r.1, r.2)

-- sets that have the same key paths are equal
module _ (ps qs : KeyPaths) (there : (q : KeyPath) → Has ps q → Has qs q) (back : (q : KeyPath) → Has qs q → Has ps q) where
  pub same_paths : ps ≡ qs
  same_paths = set.same_set path_cmp_total path_cmp_same ps qs (λ q. go (set.contains ps q) (set.contains qs q) (there q) (back q))
    where
      go : (a b : Bool) → (a ≡ true → b ≡ true) → (b ≡ true → a ≡ true) → a ≡ b
      go true b h k = sym (h refl)
      go false true h k = k refl
      go false false h k = refl

pub union-none : (ps : KeyPaths) → set.union ps no_paths ≡ ps
union-none ps = same_paths (set.union ps no_paths) ps (λ q h. elim (Has-union ps no_paths q h) [ inl a ↦ a | inr b ↦ Has-none q b ]) (λ q h. Has-left ps no_paths q h)

pub none-union : (ps : KeyPaths) → set.union no_paths ps ≡ ps
none-union ps = same_paths (set.union no_paths ps) ps (λ q h. elim (Has-union no_paths ps q h) [ inl a ↦ Has-none q a | inr b ↦ b ]) (λ q h. Has-right no_paths ps q h)

pub union_assoc : (ps qs rs : KeyPaths) → set.union ps (set.union qs rs) ≡ set.union (set.union ps qs) rs
union_assoc ps qs rs = set.same_set path_cmp_total path_cmp_same _ _ (λ q.
    set.contains-union path_cmp_total ps (set.union qs rs) q
    ∙ ap (λ b. set.contains ps q || b) (set.contains-union path_cmp_total qs rs q)
    ∙ sym (or_assoc (set.contains ps q) (set.contains qs q) (set.contains rs q))
    ∙ sym (set.contains-union path_cmp_total (set.union ps qs) rs q ∙ ap (λ b. b || set.contains rs q) (set.contains-union path_cmp_total ps qs q)))

pub union_comm : (ps qs : KeyPaths) → set.union ps qs ≡ set.union qs ps
union_comm ps qs = same_paths _ _
    (λ q h. elim (Has-union ps qs q h) [ inl a ↦ Has-right qs ps q a | inr b ↦ Has-left qs ps q b ])
    (λ q h. elim (Has-union qs ps q h) [ inl a ↦ Has-right ps qs q a | inr b ↦ Has-left ps qs q b ])

-- a set that is there already adds nothing
pub union_within : (ps qs : KeyPaths) → ((q : KeyPath) → Has qs q → Has ps q) → set.union ps qs ≡ ps
union_within ps qs within = same_paths _ _
    (λ q h. elim (Has-union ps qs q h) [ inl a ↦ a | inr b ↦ within q b ])
    (λ q h. Has-left ps qs q h)

pub union-insert : (ps qs : KeyPaths) (p : KeyPath) → set.union ps (set.insert qs p) ≡ set.union (set.insert ps p) qs
union-insert ps qs p = same_paths _ _
    (λ q h. elim (Has-union ps (set.insert qs p) q h) [
      | inl a ↦ Has-left (set.insert ps p) qs q (Has-other ps p q a)
      | inr b ↦ (elim (Has-insert qs p q b) [
        | inl same ↦ Has-left (set.insert ps p) qs q (subst (Has (set.insert ps p)) (sym same) (Has-itself ps p))
        | inr c ↦ Has-right (set.insert ps p) qs q c
      ])
    ])
    (λ q h. elim (Has-union (set.insert ps p) qs q h) [
      | inl a ↦ (elim (Has-insert ps p q a) [
        | inl same ↦ Has-right ps (set.insert qs p) q (subst (Has (set.insert qs p)) (sym same) (Has-itself qs p))
        | inr c ↦ Has-left ps (set.insert qs p) q c
      ])
      | inr b ↦ Has-right ps (set.insert qs p) q (Has-other qs p q b)
    ])

-- a path that is added to one of two sets is added to both together
pub union-insert_last : (ps qs : KeyPaths) (p : KeyPath) → set.union ps (set.insert qs p) ≡ set.insert (set.union ps qs) p
union-insert_last ps qs p = same_paths _ _
    (λ q h. elim (Has-union ps (set.insert qs p) q h) [
      | inl a ↦ Has-other (set.union ps qs) p q (Has-left ps qs q a)
      | inr b ↦ (elim (Has-insert qs p q b) [
        | inl same ↦ subst (Has (set.insert (set.union ps qs) p)) (sym same) (Has-itself (set.union ps qs) p)
        | inr c ↦ Has-other (set.union ps qs) p q (Has-right ps qs q c)
      ])
    ])
    (λ q h. elim (Has-insert (set.union ps qs) p q h) [
      | inl same ↦ Has-right ps (set.insert qs p) q (subst (Has (set.insert qs p)) (sym same) (Has-itself qs p))
      | inr d ↦ (elim (Has-union ps qs q d) [
        | inl a ↦ Has-left ps (set.insert qs p) q a
        | inr b ↦ Has-right ps (set.insert qs p) q (Has-other qs p q b)
      ])
    ])

pub behind_prefix-none : (prefix : KeyPath) → behind_prefix prefix no_paths ≡ no_paths
behind_prefix-none prefix = same_paths _ _
    (λ q h. let r = Has-behind_from prefix no_paths q h in Has-none r.0 r.1)
    (λ q h. Has-none q h)

behind_prefix-insert : (prefix : KeyPath) (ps : KeyPaths) (p : KeyPath) → behind_prefix prefix (set.insert ps p) ≡ set.insert (behind_prefix prefix ps) (prefix ++ p)
behind_prefix-insert prefix ps p =
    let behind = behind_prefix prefix ps in
    let with_path = set.insert behind (prefix ++ p) in
    same_paths _ _
    (λ q h.
    let r = Has-behind_from prefix (set.insert ps p) q h in
    subst (Has with_path) r.2
    (elim (Has-insert ps p r.0 r.1) [
      | inl same ↦ subst (λ (x : KeyPath). Has with_path (prefix ++ x)) (sym same) (Has-itself behind (prefix ++ p))
      | inr a ↦ Has-other behind (prefix ++ p) (prefix ++ r.0) (Has-behind prefix ps r.0 a)
    ]))
    (λ q h. elim (Has-insert behind (prefix ++ p) q h) [
      | inl same ↦ subst (Has (behind_prefix prefix (set.insert ps p))) (sym same) (Has-behind prefix (set.insert ps p) p (Has-itself ps p))
      | inr a ↦ (let r = Has-behind_from prefix ps q a in subst (Has (behind_prefix prefix (set.insert ps p))) r.2 (Has-behind prefix (set.insert ps p) r.0 (Has-other ps p r.0 r.1)))
    ])

-- two paths are added in either order
Has-swapped : (ps : KeyPaths) (p q r : KeyPath) → Has (set.insert (set.insert ps p) q) r → Has (set.insert (set.insert ps q) p) r
Has-swapped ps p q r h = elim (Has-insert (set.insert ps p) q r h) [
  | inl same ↦ Has-other (set.insert ps q) p r (subst (Has (set.insert ps q)) (sym same) (Has-itself ps q))
  | inr d ↦ (elim (Has-insert ps p r d) [
    | inl same ↦ subst (Has (set.insert (set.insert ps q) p)) (sym same) (Has-itself (set.insert ps q) p)
    | inr a ↦ Has-other (set.insert ps q) p r (Has-other ps q r a)
  ])
]

insert_swap : (ps : KeyPaths) (p q : KeyPath) → set.insert (set.insert ps p) q ≡ set.insert (set.insert ps q) p
insert_swap ps p q = same_paths _ _ (Has-swapped ps p q) (Has-swapped ps q p)

-- a name with one more path behind it
pub named-insert : (name : Name) (ps : KeyPaths) (p : KeyPath) → named name (set.insert ps p) ≡ set.insert (named name ps) (name ∷ p)
named-insert name ps p =
    ap (λ (qs : KeyPaths). set.insert qs (name ∷ [])) (behind_prefix-insert (name ∷ []) ps p)
    ∙ insert_swap (behind_prefix (name ∷ []) ps) (name ∷ p) (name ∷ [])

-- a path that is added to one of two sets is added to both together
pub insert-union : (ps qs : KeyPaths) (p : KeyPath) → set.union (set.insert ps p) qs ≡ set.insert (set.union ps qs) p
insert-union ps qs p = union_comm (set.insert ps p) qs ∙ union-insert_last qs ps p ∙ ap (λ (s : KeyPaths). set.insert s p) (union_comm qs ps)

-- a name alone, and other paths
pub name-union : (name : Name) (ps : KeyPaths) → set.union (named name no_paths) ps ≡ set.insert ps (name ∷ [])
name-union name ps =
    ap (λ (s : KeyPaths). set.union (set.insert s (name ∷ [])) ps) (behind_prefix-none (name ∷ []))
    ∙ sym (union-insert no_paths ps (name ∷ []))
    ∙ none-union (set.insert ps (name ∷ []))

-- a path that a set does not have makes it longer by one
pub len-more : (ps : KeyPaths) (p : KeyPath) → (Has ps p → ⊥) → set.len (set.insert ps p) ≡ set.len ps + 1
len-more ps p absent = go (set.contains ps p) refl (set.len-insert path_cmp_total ps p)
  where
    go : (b : Bool) → set.contains ps p ≡ b → set.len (set.insert ps p) ≡ cond b (set.len ps) (set.len ps + 1) → set.len (set.insert ps p) ≡ set.len ps + 1
    go true has e = absurd (absent has)
    go false lacks e = e

-- a name, and what is behind it
pub Has-named_from : (name : Name) (ps : KeyPaths) (q : KeyPath) → Has (named name ps) q → (q ≡ name ∷ []) ⊎ ((r : KeyPath) × Has ps r × (name ∷ r ≡ q))
Has-named_from name ps q h = elim (Has-insert (behind_prefix (name ∷ []) ps) (name ∷ []) q h) [
  | inl same ↦ inl same
  | inr deeper ↦ inr (Has-behind_from (name ∷ []) ps q deeper)
]

Has-named : (name : Name) (ps : KeyPaths) (r : KeyPath) → Has ps r → Has (named name ps) (name ∷ r)
Has-named name ps r h = Has-other (behind_prefix (name ∷ []) ps) (name ∷ []) (name ∷ r) (Has-behind (name ∷ []) ps r h)

-- a name with two sets behind it
pub named-union : (name : Name) (ps qs : KeyPaths) → named name (set.union ps qs) ≡ set.union (named name ps) (named name qs)
named-union name ps qs =
    let all = named name (set.union ps qs) in
    let both = set.union (named name ps) (named name qs) in
    same_paths _ _
    (λ q h. elim (Has-named_from name (set.union ps qs) q h) [
      | inl same ↦ subst (Has both) (sym same) (Has-left (named name ps) (named name qs) (name ∷ []) (Has-itself (behind_prefix (name ∷ []) ps) (name ∷ [])))
      | inr r ↦ (subst (Has both) r.2 (elim (Has-union ps qs r.0 r.1) [
        | inl a ↦ Has-left (named name ps) (named name qs) (name ∷ r.0) (Has-named name ps r.0 a)
        | inr b ↦ Has-right (named name ps) (named name qs) (name ∷ r.0) (Has-named name qs r.0 b)
      ]))
    ])
    (λ q h. elim (Has-union (named name ps) (named name qs) q h) [
      | inl a ↦ (elim (Has-named_from name ps q a) [
        | inl same ↦ subst (Has all) (sym same) (Has-itself (behind_prefix (name ∷ []) (set.union ps qs)) (name ∷ []))
        | inr r ↦ subst (Has all) r.2 (Has-named name (set.union ps qs) r.0 (Has-left ps qs r.0 r.1))
      ])
      | inr b ↦ (elim (Has-named_from name qs q b) [
        | inl same ↦ subst (Has all) (sym same) (Has-itself (behind_prefix (name ∷ []) (set.union ps qs)) (name ∷ []))
        | inr r ↦ subst (Has all) r.2 (Has-named name (set.union ps qs) r.0 (Has-right ps qs r.0 r.1))
      ])
    ])

-- a resolution with more key paths
module _ (r : Resolved) where
  pub with_key_paths-none : with_key_paths r no_paths ≡ r
  unfolding with_key_paths
  with_key_paths-none = ap (λ (s : KeyPaths). record r { key_paths = s }) (union-none r.key_paths)

  pub with_key_paths-insert : (ps : KeyPaths) (p : KeyPath) → with_key_paths r (set.insert ps p) ≡ with_key_paths (with_key_path r p) ps
  unfolding with_key_paths
  with_key_paths-insert ps p = ap (λ (s : KeyPaths). record r { key_paths = s }) (union-insert r.key_paths ps p)

  module _ (prefix : KeyPath) where
    pub behind-none : with_paths_behind r prefix no_paths ≡ r
    behind-none = ap (with_key_paths r) (behind_prefix-none prefix) ∙ with_key_paths-none

    pub behind-insert : (ps : KeyPaths) (p : KeyPath) → with_paths_behind r prefix (set.insert ps p) ≡ with_paths_behind (with_key_path r (prefix ++ p)) prefix ps
    behind-insert ps p = ap (with_key_paths r) (behind_prefix-insert prefix ps p) ∙ with_key_paths-insert (behind_prefix prefix ps) (prefix ++ p)

-- a name alone
pub with-name : (r : Resolved) (name : Name) → with_key_paths r (named name no_paths) ≡ with_key_path r (name ∷ [])
with-name r name = with_key_paths-insert r (behind_prefix (name ∷ []) no_paths) (name ∷ []) ∙ behind-none (with_key_path r (name ∷ [])) (name ∷ [])

-- a name, after what is behind it
pub named_last : (r : Resolved) (name : Name) (ps : KeyPaths) → with_key_paths r (named name ps) ≡ with_key_path (with_paths_behind r (name ∷ []) ps) (name ∷ [])
unfolding with_key_paths
named_last r name ps = ap (λ (s : KeyPaths). record r { key_paths = s }) (union-insert_last r.key_paths (behind_prefix (name ∷ []) ps) (name ∷ []))
