-- The readings of a catch-all are the products of those of the members that it takes.
use Rattle.std.proofs.Common.{◌≡◌, subst, ℕ}
use Rattle.std.proofs.Common.{List, [], ◌∷◌, refl, true, false, IsTrue}
use Rattle.facet_solver_reader.specs.declared.count.Count.{Count}
use Rattle.facet_solver_reader.specs.declared.count.Count.TheVariants.{One, None as NoReading}
use Rattle.facet_solver_reader.specs.Branches.{ReadsPart}
use Rattle.facet_solver_reader.specs.Choices.{a_value, ChoiceAt, lacking, having, without, choosing}
use Rattle.facet_solver_reader.specs.Choices.{taking, Taken, none_left, passing, taken, Item}
use Rattle.facet_solver_reader.specs.Choices.{catch_all_of}
use Rattle.facet_solver_reader.specs.Counted.{Counted}
use Rattle.facet_solver_reader.specs.Documents.{Member}
use Rattle.facet_solver_reader.specs.Known.{Chooses, ChoosesAt, HasKey, IsKnown, Key, named}
use Rattle.facet_solver_reader.specs.Objects.{Agrees, IsUnknown, Object, Reads, Takes, TakesRest}
use Rattle.facet_solver_reader.specs.Parts.{CatchAll, of_map, of_anything, of_shape, a_catch_all}
use Rattle.facet_solver_reader.specs.Rules.{Rules}
use Rattle.facet_solver_reader.proofs.Counting.{counted_images, counted_same}
use Rattle.facet_solver_reader.proofs.Joined.{IsJoined, AreJoined, AreImages}

module _ (rules : Rules) (reads : Reads) (m : Member) where
  -- a map whose keys have the member's name takes its value
  pub count_of_entry : (key value : ℕ) (n : Count) → IsTrue (rules.is_key key m.name)
      → Counted (reads (of_shape value) m.value) n
      → Counted (Takes rules reads (of_map key value) m) n
  count_of_entry key value n is h =
      counted_same (reads (of_shape value) m.value) (Takes rules reads (of_map key value) m) n
      (λ r q. (is, q)) (λ r q. q.1) h

  -- a map whose keys don't takes nothing
  pub count_of_no_key : (key value : ℕ) → rules.is_key key m.name ≡ false
      → Counted (Takes rules reads (of_map key value) m) NoReading
  count_of_no_key key value other = λ r q. let is : rules.is_key key m.name ≡ true = q.0 in cc

  -- anything is taken in one way
  pub count_of_anything : Counted (Takes rules reads of_anything m) One
  count_of_anything = record { value = a_value; has = refl; only = λ r q. q }

module _ (rules : Rules) (reads : Reads) (object : Object) (k : CatchAll) where
  -- no members
  pub count_of_no_rest : Counted (TakesRest rules object (Takes rules reads k) []) One
  count_of_no_rest = record { value = none_left; has = tt; only = only }
    where
      only : (t : Taken) → TakesRest rules object (Takes rules reads k) [] t → t ≡ none_left
      only none_left h = refl
      only (passing t) h = absurd h
      only (taken r t) h = absurd h

  -- a member of a known name is passed over
  pub passing_images : (m : Member) (ms : List Member)
      → IsKnown (Chooses rules.lists object.list) (named m.name)
      → AreImages (TakesRest rules object (Takes rules reads k) ms) (TakesRest rules object (Takes rules reads k) (m ∷ ms))
      passing
  passing_images m ms known =
      record { into = λ t h. (known, h); out = out; same = λ x y p. cc }
    where
      out : (z : Taken) → TakesRest rules object (Takes rules reads k) (m ∷ ms) z
          → (t : Taken) × TakesRest rules object (Takes rules reads k) ms t × (z ≡ passing t)
      out none_left w = absurd w
      out (passing t) w = (t, w.1, refl)
      out (taken r t) w = absurd (w.0 known)

  -- a member of another name is taken, beside the others
  pub taken_join : (m : Member) (ms : List Member) → IsUnknown rules object m.name
      → AreJoined (Takes rules reads k m) (TakesRest rules object (Takes rules reads k) ms)
      (TakesRest rules object (Takes rules reads k) (m ∷ ms)) taken
  taken_join m ms unknown =
      record {
        into = λ r t p q. (unknown, p, q);
        part = part;
        same_first = λ x u y v p. cc;
        same_second = λ x u y v p. cc;
      }
    where
      part : (z : Taken) → TakesRest rules object (Takes rules reads k) (m ∷ ms) z
          → IsJoined (Takes rules reads k m) (TakesRest rules object (Takes rules reads k) ms) taken z
      part none_left w = absurd w
      part (passing t) w = absurd (unknown w.0)
      part (taken r t) w =
          record { first = r; second = t; has_first = w.1; has_second = w.2; is_joined = refl }

  -- what the choices of a catch-all have, each has
  known_of_rest : (t : Taken) (x : Key)
      → IsKnown (ChoosesAt rules.lists (a_catch_all k)) x → HasKey (catch_all_of k t ∷ []) x
  known_of_rest t x known = go known.choice known.items known.chooses known.has
    where
      go : (a : ChoiceAt) (items : List Item)
          → ChoosesAt rules.lists (a_catch_all k) a items → HasKey items x
          → HasKey (catch_all_of k t ∷ []) x
      go (taking q) items h n = subst (λ is. HasKey is x) h n
      go lacking items h n = absurd h
      go (having r) items h n = absurd h
      go without items h n = absurd h
      go (choosing j c) items h n = absurd h

  -- the readings of a catch-all are what it can take of the object
  pub catch_all_images : IsTrue object.takes
      → AreImages (TakesRest rules object (Takes rules reads k) object.members)
      (ReadsPart rules reads object (a_catch_all k)) taking
  catch_all_images takes = record { into = into; out = out; same = λ x y p. cc }
    where
      into : (t : Taken) → TakesRest rules object (Takes rules reads k) object.members t
          → ReadsPart rules reads object (a_catch_all k) (taking t)
      into t h =
          record {
            items = catch_all_of k t ∷ [];
            chooses = refl;
            known = λ x has known. known_of_rest t x known;
            agrees = ((takes, h), tt);
          }

      out : (z : ChoiceAt) → ReadsPart rules reads object (a_catch_all k) z
          → (t : Taken) × TakesRest rules object (Takes rules reads k) object.members t × (z ≡ taking t)
      out (taking t) r =
          (t, (subst (Agrees rules reads object) r.chooses r.agrees).0.1, refl)
      out lacking r = absurd r.chooses
      out (having q) r = absurd r.chooses
      out without r = absurd r.chooses
      out (choosing j c) r = absurd r.chooses

  -- and as many
  pub count_of_catch_all : (n : Count) → IsTrue object.takes
      → Counted (TakesRest rules object (Takes rules reads k) object.members) n
      → Counted (ReadsPart rules reads object (a_catch_all k)) n
  count_of_catch_all n takes h =
      counted_images (TakesRest rules object (Takes rules reads k) object.members)
      (ReadsPart rules reads object (a_catch_all k)) taking n (catch_all_images takes) h

  -- where unknown members are ignored, a catch-all has no reading
  pub count_of_no_catch_all : object.takes ≡ false
      → Counted (ReadsPart rules reads object (a_catch_all k)) NoReading
  count_of_no_catch_all ignores = none
    where
      none : (z : ChoiceAt) → ReadsPart rules reads object (a_catch_all k) z → ⊥
      none (taking t) r =
          let agrees = subst (Agrees rules reads object) r.chooses r.agrees in
          let takes : object.takes ≡ true = agrees.0.0 in cc
      none lacking r = r.chooses
      none (having q) r = r.chooses
      none without r = r.chooses
      none (choosing j c) r = r.chooses
