-- The keys of an object's members, and what its reading asks of them.
use Rattle.std.proofs.Common.{◌≡◌, ⊎_elim, refl, sym, ap, ◌∙◌, zero, suc, Bool, true, false}
use Rattle.std.proofs.Common.{List, [], ◌∷◌, Option, Some, None, Contains, arith}
use Rattle.std.specs.Prelude.{Any, if◌then◌else◌}
use Rattle.std.specs.List.{list_any}
use Rattle.std.specs.Str.{bytes_eq}
use Rattle.std.proofs.lemmas.Bool.{or_left, or_right}
use Rattle.std.proofs.lemmas.Slice.Eq.{bytes_eq-Decides}
use Rattle.facet_solver_shape.specs.Keys.{Key, flat_key}
use Rattle.facet_solver_shape.specs.Names.{Name, name_eq}
use Rattle.facet_solver_reader.specs.Choices.{Item, member_of, catch_all_of, presence_of, Reading}
use Rattle.facet_solver_reader.specs.Documents.{Member, Tree}
use Rattle.facet_solver_reader.specs.Objects.{Agrees, HasNamed, Object, Reads, ReadsMember, find}
use Rattle.facet_solver_reader.specs.Parts.{MemberPart}
use Rattle.facet_solver_reader.specs.Rules.{Rules}
use Rattle.facet_solver_reader.proofs.Quantifiers.{any_of_more, any_of_none}
use Rattle.facet_solver_agreement.specs.Asked.{IsRequiredOf, asked_by_items, asked_by_member}
use Rattle.facet_solver_agreement.specs.Kept.{keys_of}

-- a name is found where it stands first, or among the rest
found_more : (m : Member) (ms : List Member) (x : Name) → HasNamed ms x → HasNamed (m ∷ ms) x
found_more m ms x h = go (bytes_eq m.name x) refl
  where
    go : (b : Bool) → bytes_eq m.name x ≡ b → HasNamed (m ∷ ms) x
    go true e =
        record { value = m.value; found = ap (λ c. if c then Some m.value else find ms x) e }
    go false e =
        record {
          value = h.value;
          found = ap (λ c. if c then Some m.value else find ms x) e ∙ h.found;
        }

-- a key of an object's members is the name of one
pub key_is_named : (ms : List Member) (key : Key) → Contains (keys_of ms) key
    → (key ≡ flat_key key.name) × HasNamed ms key.name
key_is_named [] key (k, low, same) = absurd (omega arith)
key_is_named (m ∷ ms) key (zero, low, same) =
    let name_is : m.name ≡ key.name = ap (λ (k : Key). k.name) same in (
      sym same ∙ ap flat_key name_is,
      record {
        value = m.value;
        found = ap (λ c. if c then Some m.value else find ms key.name)
            ((bytes_eq-Decides m.name key.name).1 name_is);
      },
    )
key_is_named (m ∷ ms) key (suc k, low, same) =
    let r = key_is_named ms key (k, omega arith, same) in (r.0, found_more m ms key.name r.1)

-- a name that is found is that of a key
pub named_by_key : (ms : List Member) (x : Name) (v : Tree) → find ms x ≡ Some v
    → Contains (keys_of ms) (flat_key x)
named_by_key [] x v e = absurd (cc)
named_by_key (m ∷ ms) x v e =
    go (bytes_eq m.name x) refl e (λ later. named_by_key ms x v later)
  where
    go : (b : Bool) → bytes_eq m.name x ≡ b → (if b then Some m.value else find ms x) ≡ Some v
        → (find ms x ≡ Some v → Contains (keys_of ms) (flat_key x))
        → Contains (keys_of (m ∷ ms)) (flat_key x)
    go true is e later = (0, omega arith, ap flat_key ((bytes_eq-Decides m.name x).0 is))
    go false is e later = let k = later e in (suc k.0, omega (arith, k.1), k.2)

-- a test that a key among others passes
pub key_passes : (test : Key → Bool) (keys : List Key) (key : Key) → Contains keys key
    → test key ≡ true → list_any test keys ≡ true
key_passes test [] key (k, low, same) h = absurd (omega arith)
key_passes test (x ∷ keys) key (zero, low, same) h =
    or_left (test x) (list_any test keys) (ap test same ∙ h)
key_passes test (x ∷ keys) key (suc k, low, same) h =
    or_right (test x) (list_any test keys) (key_passes test keys key (k, omega arith, same) h)

-- a name is itself
pub same_name : (x : Name) → name_eq x x ≡ true
same_name x = (bytes_eq-Decides x x).1 refl

-- what an object that is read has to have is there
module _ (rules : Rules) (reads : Reads) (object : Object) where
  of_member : (m : MemberPart) (o : Option Tree) (r : Option Reading) → ReadsMember reads m o r
      → m.required ≡ true → (v : Tree) × (o ≡ Some v)
  of_member m None None h required = absurd (cc)
  of_member m None (Some r) h required = absurd h
  of_member m (Some v) r h required = (v, refl)

  pub required_found : (items : List Item) → Agrees rules reads object items → (x : Name)
      → Any (IsRequiredOf x) (asked_by_items items)
      → (v : Tree) × (find object.members x ≡ Some v)
  required_found [] h x a = absurd (any_of_none (IsRequiredOf x) a)
  required_found (member_of m r ∷ items) h x a =
      ⊎_elim
      (λ (is : IsRequiredOf x (asked_by_member m)).
      let there = of_member m (find object.members m.name) r h.0 is.required in
      (there.0, ap (find object.members) (sym is.same_name) ∙ there.1))
      (λ (later : Any (IsRequiredOf x) (asked_by_items items)). required_found items h.1 x later)
      ((any_of_more (IsRequiredOf x) (asked_by_member m) (asked_by_items items)).0 a)
  required_found (catch_all_of k t ∷ items) h x a = required_found items h.1 x a
  required_found (presence_of s ∷ items) h x a = required_found items h.1 x a
