-- Where two have the same choices, they have the same readings, keys and repeated keys.
use Rattle.std.proofs.Common.{◌↔◌, List}
use Rattle.facet_solver_reader.specs.declared.count.Count.{Count}
use Rattle.facet_solver_reader.specs.Choices.{Choosing, Item}
use Rattle.facet_solver_reader.specs.Counted.{Counted}
use Rattle.facet_solver_reader.specs.Known.{HasChoice, IsDistinct, IsKnown, Key}
use Rattle.facet_solver_reader.specs.Objects.{IsReading, Object, Reads}
use Rattle.facet_solver_reader.specs.Rules.{Rules}
use Rattle.facet_solver_reader.proofs.Counting.{counted_same}

module _ {X : Type 0} (S T : Choosing X) where
  -- what one chooses the other does
  abbrev pub Same : Type 0
  Same = (x : X) (items : List Item) → S x items ↔ T x items

  -- they have a choice together
  pub same_choice : Same → HasChoice S ↔ HasChoice T
  same_choice e = (
    λ h. record { choice = h.choice; items = h.items; chooses = (e h.choice h.items).0 h.chooses },
    λ h. record { choice = h.choice; items = h.items; chooses = (e h.choice h.items).1 h.chooses },
  )

  -- they know the same keys
  pub same_known : Same → (x : Key) → IsKnown S x ↔ IsKnown T x
  same_known e x = (
    λ k.
        record {
          choice = k.choice;
          items = k.items;
          chooses = (e k.choice k.items).0 k.chooses;
          has = k.has;
        },
    λ k.
        record {
          choice = k.choice;
          items = k.items;
          chooses = (e k.choice k.items).1 k.chooses;
          has = k.has;
        },
  )

  -- they are distinct together
  pub same_distinct : Same → IsDistinct S ↔ IsDistinct T
  same_distinct e = (
    λ d x items h t. d x items ((e x items).1 h) t,
    λ d x items h t. d x items ((e x items).0 h) t,
  )

  -- they have the same readings
  pub same_readings : Same → (rules : Rules) (reads : Reads) (object : Object) (x : X)
      → IsReading rules reads object S x ↔ IsReading rules reads object T x
  same_readings e rules reads object x = (
    λ r.
        record {
          items = r.items;
          chooses = (e x r.items).0 r.chooses;
          known = λ y has k. r.known y has ((same_known e y).1 k);
          agrees = r.agrees;
        },
    λ r.
        record {
          items = r.items;
          chooses = (e x r.items).1 r.chooses;
          known = λ y has k. r.known y has ((same_known e y).0 k);
          agrees = r.agrees;
        },
  )

  -- and as many
  pub count_of_same : Same → (rules : Rules) (reads : Reads) (object : Object) (n : Count)
      → Counted (IsReading rules reads object S) n → Counted (IsReading rules reads object T) n
  count_of_same e rules reads object n h =
      counted_same (IsReading rules reads object S) (IsReading rules reads object T) n
      (λ x r. (same_readings e rules reads object x).0 r)
      (λ x r. (same_readings e rules reads object x).1 r) h
