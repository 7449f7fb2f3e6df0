-- Keys that stand twice: in which parts they come to do so.
use Rattle.std.proofs.Common.{◌≡◌, ⊎_elim, inl, inr, sym, subst, ℕ, zero, suc, ◌<◌}
use Rattle.std.proofs.Common.{List, [], ◌∷◌, ◌++◌, Some, None}
use Rattle.std.proofs.Common.{slice_get, arith}
use Rattle.facet_solver_reader.specs.Choices.{next}
use Rattle.facet_solver_reader.specs.Choices.{Item, member_of}
use Rattle.facet_solver_reader.specs.Choices.{catch_all_of, presence_of}
use Rattle.facet_solver_reader.specs.Known.{ChoosesAll, ChoosesAt, HasChoice, HasKey}
use Rattle.facet_solver_reader.specs.Known.{IsKnown, Key, named, rest}
use Rattle.facet_solver_reader.specs.Parts.{Lists, Part}
use Rattle.facet_solver_reader.specs.Repeated.{IsTwice, Repeats}
use Rattle.facet_solver_reader.proofs.Items.{HasKey-right}
use Rattle.facet_solver_reader.proofs.Knowledge.{choice_of_more, known_of_some}
use Rattle.facet_solver_reader.proofs.Products.{both_choose}
use Rattle.facet_solver_reader.proofs.Quantifiers.{any_at}

-- a key that both have stands twice
pub IsTwice-both : (is js : List Item) (x : Key) → HasKey is x → HasKey js x → IsTwice (is ++ js) x
IsTwice-both [] js x h k = absurd h
IsTwice-both (member_of m r ∷ is) js x h k =
    ⊎_elim (λ (e : named m.name ≡ x). inl (e, HasKey-right is js x k))
    (λ (n : HasKey is x). inr (IsTwice-both is js x n k)) h
IsTwice-both (catch_all_of c q ∷ is) js x h k =
    ⊎_elim (λ (e : rest ≡ x). inl (e, HasKey-right is js x k))
    (λ (n : HasKey is x). inr (IsTwice-both is js x n k)) h
IsTwice-both (presence_of s ∷ is) js x h k = IsTwice-both is js x h k

-- a key that stands twice in the last items
pub IsTwice-right : (is js : List Item) (x : Key) → IsTwice js x → IsTwice (is ++ js) x
IsTwice-right [] js x h = h
IsTwice-right (member_of m r ∷ is) js x h = inr (IsTwice-right is js x h)
IsTwice-right (catch_all_of k q ∷ is) js x h = inr (IsTwice-right is js x h)
IsTwice-right (presence_of s ∷ is) js x h = IsTwice-right is js x h

module _ (lists : Lists) (p : Part) (ps : List Part) (x : Key) where
  -- a key that a part and others know is repeated in all
  pub repeats_both : IsKnown (ChoosesAt lists p) x → IsKnown (ChoosesAll lists ps) x
      → Repeats (ChoosesAll lists (p ∷ ps)) x
  repeats_both k l =
      record {
        choice = next k.choice l.choice;
        items = k.items ++ l.items;
        chooses = both_choose lists p ps k.choice l.choice k.items l.items k.chooses l.chooses;
        twice = IsTwice-both k.items l.items x k.has l.has;
      }

  -- one that is repeated in the rest, where the first part has a choice
  pub repeats_rest : HasChoice (ChoosesAt lists p) → Repeats (ChoosesAll lists ps) x
      → Repeats (ChoosesAll lists (p ∷ ps)) x
  repeats_rest k l =
      record {
        choice = next k.choice l.choice;
        items = k.items ++ l.items;
        chooses = both_choose lists p ps k.choice l.choice k.items l.items k.chooses l.chooses;
        twice = IsTwice-right k.items l.items x l.twice;
      }

-- a key that one part and a later one know is repeated in all, where there is a choice of all
pub repeats_pair : (lists : Lists) (ps : List Part) (x : Key) (i j : ℕ) (p q : Part)
    → HasChoice (ChoosesAll lists ps) → i < j
    → slice_get ps i ≡ Some p → slice_get ps j ≡ Some q
    → IsKnown (ChoosesAt lists p) x → IsKnown (ChoosesAt lists q) x
    → Repeats (ChoosesAll lists ps) x
repeats_pair lists [] x i j p q h lt e f k l = let g : None ≡ Some p = e in absurd (cc)
repeats_pair lists (r ∷ ps) x zero zero p q h lt e f k l = absurd (omega arith)
repeats_pair lists (r ∷ ps) x zero (suc j) p q h lt e f k l =
    let b = (choice_of_more lists r ps).0 h in
    let g : Some r ≡ Some p = e in
    let same : r ≡ p = cc in
    repeats_both lists r ps x (subst (λ y. IsKnown (ChoosesAt lists y) x) (sym same) k)
    ((known_of_some lists ps x).1
    (b.1, any_at (λ y. IsKnown (ChoosesAt lists y) x) ps j q f l))
repeats_pair lists (r ∷ ps) x (suc i) zero p q h lt e f k l = absurd (omega arith)
repeats_pair lists (r ∷ ps) x (suc i) (suc j) p q h lt e f k l =
    let b = (choice_of_more lists r ps).0 h in
    repeats_rest lists r ps x b.0
    (repeats_pair lists ps x i j p q b.1 (omega arith) e f k l)
