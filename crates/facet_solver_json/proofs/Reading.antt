-- The loops of the grammar, a turn at a time, as documents.
use Rattle.std.proofs.Common.{◌≡◌, ℕ, ◌-◌, ◌<◌, ◌≤◌, List, [], ◌∷◌, ◌++◌, length, Option, Some, None, refl, ap, ◌∙◌}
use Rattle.std.specs.Borrow.{Bor}
use Rattle.json.specs.Token.{Token}
use Rattle.json.specs.Json as json
use Rattle.json.specs.Json.{Parse, parse_map, after_end_array, read_key}
use Rattle.json.proofs.Grammar.{items_end, items_fail, items_more, members_end, members_fail, members_no_key, members_more}
use Rattle.facet_solver_reader.specs.Names.{Name}
use Rattle.facet_solver_reader.specs.Documents.{Tree, Items, Members, list, object, no_items, item, no_members, member, view, items_view, members_view}
use Rattle.facet_solver_reader.specs.declared.document.Document.{Document}
use Rattle.facet_solver_json.specs.Values.{document_of, items_of, members_of}

-- ---- a value that is converted

abbrev pick : {A : Type 0} → A → Option A → A
pick d None = d
pick d (Some a) = a

pub mapped_some : {A B : Type 0} (f : A → B) (o : Option (A × List Token)) (b : B) (r : List Token) → parse_map f o ≡ Some (b, r) → (a : A) × (o ≡ Some (a, r)) × (f a ≡ b)
mapped_some f None b r e = absurd (cc)
mapped_some f (Some p) b r e = let same = ap (pick (b, r)) e in (p.0, ap (λ q. Some (p.0, q.1)) same, ap (λ q. q.0) same)

pub mapped_none : {A B : Type 0} (f : A → B) (o : Option (A × List Token)) → parse_map f o ≡ None → o ≡ None
mapped_none f None e = refl
mapped_none f (Some p) e = absurd (cc)

pub mapped-array : (o : Option (json.Items × List Token)) → parse_map document_of (parse_map json.array o) ≡ parse_map list (parse_map items_of o)
mapped-array None = refl
mapped-array (Some p) = refl

pub mapped-object : (o : Option (json.Members × List Token)) → parse_map document_of (parse_map json.object o) ≡ parse_map object (parse_map members_of o)
mapped-object None = refl
mapped-object (Some p) = refl

with_item : (j : json.Json) (t : Tree) → document_of j ≡ t → (o : Option (json.Items × List Token)) → parse_map items_of (parse_map (json.item j) o) ≡ parse_map (item t) (parse_map items_of o)
with_item j t e None = refl
with_item j t e (Some p) = ap (λ d. Some (item d (items_of p.0), p.1)) e

with_member : (k : Name) (j : json.Json) (t : Tree) → document_of j ≡ t → (o : Option (json.Members × List Token)) → parse_map members_of (parse_map (json.member k j) o) ≡ parse_map (member k t) (parse_map members_of o)
with_member k j t e None = refl
with_member k j t e (Some p) = ap (λ d. Some (member k d (members_of p.0), p.1)) e

-- ---- one turn

module _ (p : Parse json.Json) (n : ℕ) where
  pub item_read : (ts r : List Token) (t : Tree) → 0 < n → after_end_array ts ≡ None → parse_map document_of (p ts) ≡ Some (t, r)
      → parse_map items_of (json.items p n ts) ≡ parse_map (item t) (parse_map items_of (json.items p (n - 1) r))
  item_read ts r t some going e = let j = mapped_some document_of (p ts) t r e in ap (parse_map items_of) (items_more p n ts r j.0 some going j.1) ∙ with_item j.0 t j.2 _

  pub item_refused : (ts : List Token) → after_end_array ts ≡ None → parse_map document_of (p ts) ≡ None → parse_map items_of (json.items p n ts) ≡ None
  item_refused ts going e = ap (parse_map items_of) (items_fail p n ts going (mapped_none document_of (p ts) e))

  pub items_over : (ts r : List Token) → length ts ≤ n → after_end_array ts ≡ Some r → parse_map items_of (json.items p n ts) ≡ Some (no_items, r)
  items_over ts r enough e = ap (parse_map items_of) (items_end p n ts r enough e)

  pub member_read : (k : Name) (ts s r : List Token) (t : Tree) → 0 < n → read_key ts ≡ Some (Some k, s) → parse_map document_of (p s) ≡ Some (t, r)
      → parse_map members_of (json.members p n ts) ≡ parse_map (member k t) (parse_map members_of (json.members p (n - 1) r))
  member_read k ts s r t some key e = let j = mapped_some document_of (p s) t r e in ap (parse_map members_of) (members_more p n k ts s r j.0 some key j.1) ∙ with_member k j.0 t j.2 _

  pub key_refused : (ts : List Token) → read_key ts ≡ None → parse_map members_of (json.members p n ts) ≡ None
  key_refused ts e = ap (parse_map members_of) (members_no_key p n ts e)

  pub member_refused : (k : Name) (ts s : List Token) → read_key ts ≡ Some (Some k, s) → parse_map document_of (p s) ≡ None → parse_map members_of (json.members p n ts) ≡ None
  member_refused k ts s key e = ap (parse_map members_of) (members_fail p n k ts s key (mapped_none document_of (p s) e))

  pub members_over : (ts r : List Token) → length ts ≤ n → read_key ts ≡ Some (None, r) → parse_map members_of (json.members p n ts) ≡ Some (no_members, r)
  members_over ts r enough e = ap (parse_map members_of) (members_end p n ts r enough e)

-- ---- what was read before

-- values that were read, and then others
abbrev pub items_before : List Document → Items → Items
items_before [] rest = rest
items_before (d ∷ ds) rest = item (view d) (items_before ds rest)

-- members that were read, and then others
abbrev pub members_before : List (Bor Name × Document) → Members → Members
members_before [] rest = rest
members_before (m ∷ ms) rest = member m.0.now (view m.1) (members_before ms rest)

pub items_before-no_items : (ds : List Document) → items_before ds no_items ≡ items_view ds
items_before-no_items [] = refl
items_before-no_items (d ∷ ds) = ap (item (view d)) (items_before-no_items ds)

pub members_before-no_members : (ms : List (Bor Name × Document)) → members_before ms no_members ≡ members_view ms
members_before-no_members [] = refl
members_before-no_members (m ∷ ms) = ap (member m.0.now (view m.1)) (members_before-no_members ms)

items_push : (ds : List Document) (d : Document) (rest : Items) → items_before ds (item (view d) rest) ≡ items_before (ds ++ d ∷ []) rest
items_push [] d rest = refl
items_push (e ∷ ds) d rest = ap (item (view e)) (items_push ds d rest)

members_push : (ms : List (Bor Name × Document)) (m : Bor Name × Document) (rest : Members) → members_before ms (member m.0.now (view m.1) rest) ≡ members_before (ms ++ m ∷ []) rest
members_push [] m rest = refl
members_push (n ∷ ms) m rest = ap (member n.0.now (view n.1)) (members_push ms m rest)

pub one_more_item : (ds : List Document) (d : Document) (r : Option (Items × List Token)) → parse_map (items_before ds) (parse_map (item (view d)) r) ≡ parse_map (items_before (ds ++ d ∷ [])) r
one_more_item ds d None = refl
one_more_item ds d (Some p) = ap (λ x. Some (x, p.1)) (items_push ds d p.0)

pub one_more_member : (ms : List (Bor Name × Document)) (m : Bor Name × Document) (r : Option (Members × List Token)) → parse_map (members_before ms) (parse_map (member m.0.now (view m.1)) r) ≡ parse_map (members_before (ms ++ m ∷ [])) r
one_more_member ms m None = refl
one_more_member ms m (Some p) = ap (λ x. Some (x, p.1)) (members_push ms m p.0)

pub none_before : {A : Type 0} (r : Option (A × List Token)) → r ≡ parse_map (λ a. a) r
none_before None = refl
none_before (Some p) = refl
