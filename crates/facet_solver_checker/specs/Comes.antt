-- How an object comes to a list of parts in a document.
use Rattle.std.specs.Prelude.{◌≡◌, ℕ, Bool, true, List}
use Rattle.facet_solver_reader.specs.declared.plan.Plan.{Plan}
use Rattle.facet_solver_reader.specs.Branches.{ReadsList}
use Rattle.facet_solver_reader.specs.Choices.{Choice}
use Rattle.facet_solver_reader.specs.Known.{Chooses, IsKnown, Key}
use Rattle.facet_solver_reader.specs.Objects.{Has, Object, Reads}
use Rattle.facet_solver_reader.specs.Parts.{ListId}
use Rattle.facet_solver_reader.specs.Plans.{IsNumberOfList, Meaning}
use Rattle.facet_solver_reader.specs.Rules.{Rules}
use Rattle.facet_solver_checker.specs.Touched.{AreTouched, is_touched}

-- an object has a member that the list knows
pub record TouchesList (rules : Rules) (object : Object) (id : ListId) : Type 0 where
  pub key : Key
  pub has : Has rules object key
  pub known : IsKnown (Chooses rules.lists id) key

-- an object has a member that the list of a number knows, where the list reads no other objects
abbrev pub MustTouchList : Plan → ℕ → Rules → Object → ListId → Type 0
MustTouchList plan n rules object id =
    (flags : List Bool) → AreTouched plan flags → is_touched flags n ≡ true
    → TouchesList rules object id

-- an object is read by the list of a number, as objects come to it
pub record ComesTo (m : Meaning) (plan : Plan) (reads : Reads) (n : ℕ) (object : Object) : Type 0
  where
    pub id : ListId
    pub numbered : IsNumberOfList m id n
    pub choice : Choice
    pub is_read : ReadsList m.rules reads object id choice
    pub touched : MustTouchList plan n m.rules object id
