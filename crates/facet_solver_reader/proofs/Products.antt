-- The readings of a list of parts are the products of those of its first part and of the rest.
use Rattle.std.proofs.Common.{◌≡◌, ◌⊎◌, inl, inr, subst, ⊎_elim, List, [], ◌∷◌, ◌++◌, refl}
use Rattle.facet_solver_reader.specs.declared.count.Count.{Count}
use Rattle.facet_solver_reader.specs.declared.count.Count.TheVariants.{One}
use Rattle.facet_solver_reader.specs.Branches.{ReadsPart, ReadsParts}
use Rattle.facet_solver_reader.specs.Choices.{Choice, ChoiceAt, done, next, Item}
use Rattle.facet_solver_reader.specs.Counted.{Counted, times}
use Rattle.facet_solver_reader.specs.Known.{ChoosesAll, ChoosesAt, HasKey, IsDistinct, IsKnown, Key}
use Rattle.facet_solver_reader.specs.Objects.{Agrees, Object, Reads}
use Rattle.facet_solver_reader.specs.Parts.{Lists, Part}
use Rattle.facet_solver_reader.specs.Rules.{Rules}
use Rattle.facet_solver_reader.proofs.Counting.{counted_times}
use Rattle.facet_solver_reader.proofs.Items.{HasKey-left, HasKey-right, HasKey-split, HasTwice-both}
use Rattle.facet_solver_reader.proofs.Items.{Agrees-both, Agrees-left, Agrees-right}
use Rattle.facet_solver_reader.proofs.Joined.{IsJoined, AreJoined}

module _ (lists : Lists) (p : Part) (ps : List Part) where
  -- a choice of the first part and one of the rest are one of all
  pub both_choose : (a : ChoiceAt) (c : Choice) (is js : List Item)
      → ChoosesAt lists p a is → ChoosesAll lists ps c js
      → ChoosesAll lists (p ∷ ps) (next a c) (is ++ js)
  both_choose a c is js h k =
      record { first = is; second = js; chooses_first = h; chooses_second = k; items_are = refl }

  -- what a list knows, its first part or the rest knows
  pub known_in_either : (x : Key) → IsKnown (ChoosesAll lists (p ∷ ps)) x
      → IsKnown (ChoosesAt lists p) x ⊎ IsKnown (ChoosesAll lists ps) x
  known_in_either x k = go k.choice k.items k.chooses k.has
    where
      go : (c : Choice) (items : List Item)
          → ChoosesAll lists (p ∷ ps) c items → HasKey items x
          → IsKnown (ChoosesAt lists p) x ⊎ IsKnown (ChoosesAll lists ps) x
      go done items h n = absurd h
      go (next a c) items h n =
          ⊎_elim
          (λ (m : HasKey h.first x).
          inl (record { choice = a; items = h.first; chooses = h.chooses_first; has = m }))
          (λ (m : HasKey h.second x).
          inr (record { choice = c; items = h.second; chooses = h.chooses_second; has = m }))
          (HasKey-split h.first h.second x (subst (λ is. HasKey is x) h.items_are n))

module _ (rules : Rules) (reads : Reads) (object : Object) (p : Part) (ps : List Part) where
  -- the readings of a list are joined from those of its first part and of the rest
  pub readings_join : IsDistinct (ChoosesAll rules.lists (p ∷ ps))
      → AreJoined (ReadsPart rules reads object p) (ReadsParts rules reads object ps)
      (ReadsParts rules reads object (p ∷ ps)) next
  readings_join distinct =
      record {
        into = into;
        part = part;
        same_first = λ x u y v e. cc;
        same_second = λ x u y v e. cc;
      }
    where
      both : (a : ChoiceAt) (c : Choice) (is js : List Item)
          → ChoosesAt rules.lists p a is → ChoosesAll rules.lists ps c js
          → ChoosesAll rules.lists (p ∷ ps) (next a c) (is ++ js)
      both a c is js h k = both_choose rules.lists p ps a c is js h k

      into : (a : ChoiceAt) (c : Choice)
          → ReadsPart rules reads object p a → ReadsParts rules reads object ps c
          → ReadsParts rules reads object (p ∷ ps) (next a c)
      into a c r q =
          record {
            items = r.items ++ q.items;
            chooses = both a c r.items q.items r.chooses q.chooses;
            known = λ x has k.
                ⊎_elim
                (λ (m : IsKnown (ChoosesAt rules.lists p) x).
                HasKey-left r.items q.items x (r.known x has m))
                (λ (m : IsKnown (ChoosesAll rules.lists ps) x).
                HasKey-right r.items q.items x (q.known x has m))
                (known_in_either rules.lists p ps x k);
            agrees = Agrees-both rules reads object r.items q.items r.agrees q.agrees;
          }

      part : (z : Choice) → ReadsParts rules reads object (p ∷ ps) z
          → IsJoined (ReadsPart rules reads object p) (ReadsParts rules reads object ps) next z
      part done w = absurd w.chooses
      part (next a c) w =
          let b = w.chooses in
          let agrees = subst (Agrees rules reads object) b.items_are w.agrees in
          record {
            first = a;
            second = c;
            has_first = record {
              items = b.first;
              chooses = b.chooses_first;
              known = λ x has k.
                  let all = both k.choice c k.items b.second k.chooses b.chooses_second in
                  ⊎_elim (λ (m : HasKey b.first x). m)
                  (λ (m : HasKey b.second x).
                  absurd (distinct (next k.choice c) (k.items ++ b.second) all
                  (HasTwice-both k.items b.second x k.has m)))
                  (HasKey-split b.first b.second x (subst (λ is. HasKey is x) b.items_are
                  (w.known x has (record {
                    choice = next k.choice c;
                    items = k.items ++ b.second;
                    chooses = all;
                    has = HasKey-left k.items b.second x k.has;
                  }))));
              agrees = Agrees-left rules reads object b.first b.second agrees;
            };
            has_second = record {
              items = b.second;
              chooses = b.chooses_second;
              known = λ x has k.
                  let all = both a k.choice b.first k.items b.chooses_first k.chooses in
                  ⊎_elim
                  (λ (m : HasKey b.first x).
                  absurd (distinct (next a k.choice) (b.first ++ k.items) all
                  (HasTwice-both b.first k.items x m k.has)))
                  (λ (m : HasKey b.second x). m)
                  (HasKey-split b.first b.second x (subst (λ is. HasKey is x) b.items_are
                  (w.known x has (record {
                    choice = next a k.choice;
                    items = b.first ++ k.items;
                    chooses = all;
                    has = HasKey-right b.first k.items x k.has;
                  }))));
              agrees = Agrees-right rules reads object b.first b.second agrees;
            };
            is_joined = refl;
          }

  -- the count of the readings of a list
  pub count_of_parts : (a b : Count) → IsDistinct (ChoosesAll rules.lists (p ∷ ps))
      → Counted (ReadsPart rules reads object p) a → Counted (ReadsParts rules reads object ps) b
      → Counted (ReadsParts rules reads object (p ∷ ps)) (times a b)
  count_of_parts a b distinct f g =
      counted_times (ReadsPart rules reads object p) (ReadsParts rules reads object ps)
      (ReadsParts rules reads object (p ∷ ps)) next a b (readings_join distinct) f g

-- the choice of no parts knows no key
pub known_to_none : (lists : Lists) (x : Key) → IsKnown (ChoosesAll lists []) x → ⊥
known_to_none lists x k = go k.choice k.items k.chooses k.has
  where
    go : (c : Choice) (items : List Item) → ChoosesAll lists [] c items → HasKey items x → ⊥
    go done items h n = subst (λ is. HasKey is x) h n
    go (next a c) items h n = h

-- no parts have a reading
pub reads_none : (rules : Rules) (reads : Reads) (object : Object)
    → ReadsParts rules reads object [] done
reads_none rules reads object =
    record {
      items = [];
      chooses = refl;
      known = λ x has k. absurd (known_to_none rules.lists x k);
      agrees = tt;
    }

-- and no other
pub count_of_none : (rules : Rules) (reads : Reads) (object : Object)
    → Counted (ReadsParts rules reads object []) One
count_of_none rules reads object =
    record { value = done; has = reads_none rules reads object; only = only }
  where
    only : (c : Choice) → ReadsParts rules reads object [] c → c ≡ done
    only done r = refl
    only (next a c) r = absurd r.chooses
