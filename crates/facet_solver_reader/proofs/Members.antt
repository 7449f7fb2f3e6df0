-- The readings of a member.
use Rattle.std.proofs.Common.{◌≡◌, sym, subst, List, [], ◌∷◌, refl, Option, Some, None, true, false}
use Rattle.facet_solver_reader.specs.declared.count.Count.{Count}
use Rattle.facet_solver_reader.specs.declared.count.Count.TheVariants.{One, None as NoReading}
use Rattle.facet_solver_reader.specs.Branches.{ReadsPart}
use Rattle.facet_solver_reader.specs.Choices.{Reading, ChoiceAt, lacking, having, without, choosing}
use Rattle.facet_solver_reader.specs.Choices.{taking, Item, member_of}
use Rattle.facet_solver_reader.specs.Counted.{Counted}
use Rattle.facet_solver_reader.specs.Documents.{Tree}
use Rattle.facet_solver_reader.specs.Known.{ChoosesAt, HasKey, IsKnown, Key}
use Rattle.facet_solver_reader.specs.Objects.{Agrees, find, Object, Reads, ReadsMember}
use Rattle.facet_solver_reader.specs.Parts.{Lists, MemberPart, a_member}
use Rattle.facet_solver_reader.specs.Rules.{Rules}
use Rattle.facet_solver_reader.proofs.Counting.{counted_images}
use Rattle.facet_solver_reader.proofs.Joined.{AreImages}

-- what a member's choices have has its name alone
key_of_member : (lists : Lists) (m : MemberPart) (r : Option Reading) (x : Key)
    → IsKnown (ChoosesAt lists (a_member m)) x → HasKey (member_of m r ∷ []) x
key_of_member lists m r x k = go k.choice k.items k.chooses k.has
  where
    go : (a : ChoiceAt) (items : List Item)
        → ChoosesAt lists (a_member m) a items → HasKey items x → HasKey (member_of m r ∷ []) x
    go lacking items h n = subst (λ is. HasKey is x) h n
    go (having q) items h n = subst (λ is. HasKey is x) h n
    go without items h n = absurd h
    go (choosing k c) items h n = absurd h
    go (taking t) items h n = absurd h

module _ (rules : Rules) (reads : Reads) (object : Object) (m : MemberPart) where
  -- a reading of the member is as the object has it
  agrees_at : (r : Option Reading) (items : List Item)
      → items ≡ member_of m r ∷ [] → Agrees rules reads object items
      → (v : Option Tree) → find object.members m.name ≡ v → ReadsMember reads m v r
  agrees_at r items e agrees v found =
      subst (λ w. ReadsMember reads m w r) found (subst (Agrees rules reads object) e agrees).0

  -- a member that the object lacks has a reading where it isn't required
  pub reads_lacking : find object.members m.name ≡ None → m.required ≡ false
      → ReadsPart rules reads object (a_member m) lacking
  reads_lacking e q =
      record {
        items = member_of m None ∷ [];
        chooses = refl;
        known = λ x has k. key_of_member rules.lists m None x k;
        agrees = (subst (λ (v : Option Tree). ReadsMember reads m v None) (sym e) q, tt);
      }

  -- and no other
  pub count_of_lacking : find object.members m.name ≡ None → m.required ≡ false
      → Counted (ReadsPart rules reads object (a_member m)) One
  count_of_lacking e q =
      record { value = lacking; has = reads_lacking e q; only = only }
    where
      only : (a : ChoiceAt) → ReadsPart rules reads object (a_member m) a
          → a ≡ lacking
      only lacking r = refl
      only (having q) r = absurd (agrees_at (Some q) r.items r.chooses r.agrees None e)
      only without r = absurd r.chooses
      only (choosing k c) r = absurd r.chooses
      only (taking t) r = absurd r.chooses

  -- a member that the object lacks has no reading where it is required
  pub count_of_missing : find object.members m.name ≡ None → m.required ≡ true
      → Counted (ReadsPart rules reads object (a_member m)) NoReading
  count_of_missing e q = none
    where
      none : (a : ChoiceAt) → ReadsPart rules reads object (a_member m) a → ⊥
      none lacking r =
          let f : m.required ≡ false = agrees_at None r.items r.chooses r.agrees None e in cc
      none (having s) r = agrees_at (Some s) r.items r.chooses r.agrees None e
      none without r = r.chooses
      none (choosing k c) r = r.chooses
      none (taking t) r = r.chooses

  -- the readings of a member that the object has are those of its value
  pub having_images : (v : Tree) → find object.members m.name ≡ Some v
      → AreImages (reads m.target v) (ReadsPart rules reads object (a_member m)) having
  having_images v e = record { into = into; out = out; same = λ x y p. cc }
    where
      into : (r : Reading) → reads m.target v r
          → ReadsPart rules reads object (a_member m) (having r)
      into r q =
          record {
            items = member_of m (Some r) ∷ [];
            chooses = refl;
            known = λ x has k. key_of_member rules.lists m (Some r) x k;
            agrees = (subst (λ (w : Option Tree). ReadsMember reads m w (Some r)) (sym e) q, tt);
          }

      out : (a : ChoiceAt) → ReadsPart rules reads object (a_member m) a
          → (x : Reading) × reads m.target v x × (a ≡ having x)
      out lacking r = absurd (agrees_at None r.items r.chooses r.agrees (Some v) e)
      out (having q) r = (q, agrees_at (Some q) r.items r.chooses r.agrees (Some v) e, refl)
      out without r = absurd r.chooses
      out (choosing k c) r = absurd r.chooses
      out (taking t) r = absurd r.chooses

  -- and as many
  pub count_of_having : (v : Tree) (n : Count)
      → find object.members m.name ≡ Some v → Counted (reads m.target v) n
      → Counted (ReadsPart rules reads object (a_member m)) n
  count_of_having v n e h =
      counted_images (reads m.target v) (ReadsPart rules reads object (a_member m)) having n
      (having_images v e) h
