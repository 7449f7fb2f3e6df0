-- Where two readings of some value can differ: two branches of a selection that read one object, or
-- two variants of an enum that read one value.
use Rattle.std.proofs.Common.{◌≡◌, ℕ, ◌∷◌}
use Rattle.facet_solver_reader.specs.declared.plan.Plan.{Plan}
use Rattle.facet_solver_reader.specs.Parts.{ListId, Selection, Target, of_shape}
use Rattle.facet_solver_reader.specs.Plans.{IsNumberOf, Meaning}
use Rattle.facet_solver_reader.specs.Values.{ReadsDown}
use Rattle.facet_solver_checker.specs.BranchesMeet.{BranchesMeet}
use Rattle.facet_solver_checker.specs.Comes.{ComesTo}
use Rattle.facet_solver_checker.specs.Differing.{Difference, Side, at_part, branch}
use Rattle.facet_solver_checker.specs.Forks.{IsSelectionAt}
use Rattle.facet_solver_checker.specs.Leading.{Leads, LeadsIn, Spot, enum_of, part_of}
use Rattle.facet_solver_checker.specs.Sites.{HasSide, VariantsMeet}

-- two branches of the selection that is a part of a list read one object that comes to the list
pub record BranchSite (m : Meaning) (plan : Plan) (list : ListId) (part : ℕ) (a b : Side) : Type 0
  where
    pub number : ℕ
    pub selection : Selection
    pub there : IsSelectionAt m plan (number, part) selection
    pub id_is : there.id ≡ list
    pub first : ℕ
    pub second : ℕ
    pub first_is : a ≡ branch first
    pub second_is : b ≡ branch second
    pub differ : first ≡ second → ⊥
    pub depth : ℕ
    pub meet : BranchesMeet m.rules (ReadsDown m.rules depth) selection first second
    pub comes : ComesTo m plan (ReadsDown m.rules depth) number meet.object

-- two variants of the enum that is a shape read one value, and the shape has a number
pub record VariantSite (m : Meaning) (shape : ℕ) (a b : Side) : Type 0 where
  pub number : ℕ
  pub numbered : IsNumberOf m (of_shape shape) number
  pub has_first : HasSide (m.rules.end_of shape) a
  pub has_second : HasSide (m.rules.end_of shape) b
  pub differ : a ≡ b → ⊥
  pub depth : ℕ
  pub meet : VariantsMeet (ReadsDown m.rules depth) (of_shape shape) a b

-- where two readings of one value can take one of two sides each
abbrev pub SiteAt : Meaning → Plan → Spot → Side → Side → Type 0
SiteAt m plan (part_of list part) a b = BranchSite m plan list part a b
SiteAt m plan (enum_of shape) a b = VariantSite m shape a b

-- the same where a difference leads to from a target
pub record SiteFrom (m : Meaning) (plan : Plan) (t : Target) (d : Difference) : Type 0 where
  pub spot : Spot
  pub leads : Leads m.rules t d.way spot
  pub site : SiteAt m plan spot d.first d.second

-- and from a part of a list
pub record SiteIn (m : Meaning) (plan : Plan) (list : ListId) (part : ℕ) (d : Difference) : Type 0
  where
    pub spot : Spot
    pub leads : LeadsIn m.rules list (at_part part ∷ d.way) spot
    pub site : SiteAt m plan spot d.first d.second
