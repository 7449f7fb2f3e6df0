-- The branch by which an object has its one reading by a selection.
use Rattle.std.proofs.Common.{◌≡◌, ◌∙◌, sym, ℕ, Option, Some, None, inr}
use Rattle.facet_solver_reader.specs.declared.count.Count.TheVariants.{One}
use Rattle.facet_solver_reader.specs.declared.nodes.Nodes.{Nodes}
use Rattle.facet_solver_reader.specs.declared.count.object.Object as read
use Rattle.facet_solver_reader.specs.declared.tables.Tables.{Tables}
use Rattle.facet_solver_reader.specs.Branches.{CanBePresent}
use Rattle.facet_solver_reader.specs.Choices.{Choice, choosing}
use Rattle.facet_solver_reader.specs.Chosen.{IsChosen, IsPicked, ReadsChosen}
use Rattle.facet_solver_reader.specs.Parts.{Selection, a_selection}
use Rattle.facet_solver_reader.specs.Reading.{IsPartCount, object_view}
use Rattle.facet_solver_reader.specs.Tables.{rules_at}

-- what is chosen where there is one reading is picked
pub picked_counted : (t : Tables) (nodes : Nodes) (o : read.Object) (s : Selection)
    → CanBePresent (rules_at t) (object_view nodes o) s
    → IsPartCount t nodes o (a_selection s) One → (chosen : Option ℕ)
    → IsChosen t nodes o s chosen → IsPicked t nodes o s chosen
picked_counted t nodes o s present one None h = (h, one)
picked_counted t nodes o s present one (Some k) h =
    let b = h.1.chooses.chooses in
    record {
      present = present;
      alone = λ (j : ℕ) (c : Choice) (r : ReadsChosen t nodes o s (choosing j c)).
          let same : choosing j c ≡ choosing k h.0 =
          one.only (choosing j c) r ∙ sym (one.only (choosing k h.0) h.1) in
          cc;
      branch = b.list;
      branch_is = b.branch_is;
      chosen = record { choice = h.0; items = h.1.chooses.of_branch; chooses = b.chooses };
      sure = inr one;
    }
