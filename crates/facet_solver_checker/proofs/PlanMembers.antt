-- What the choices of a list have is among the parts of the lists below it.
use Rattle.std.proofs.Common.{◌≡◌, ◌∙◌, sym, ap, subst, refl, ⊎_elim, ℕ, zero, suc, ◌+◌, ◌<◌, List}
use Rattle.std.proofs.Common.{[], ◌∷◌, ◌++◌, Option, Some, None, Bool, true, slice_get, All, IsTrue}
use Rattle.std.proofs.Common.{if◌then◌else◌}
use Rattle.std.specs.List.{filter_map}
use Rattle.std.specs.Option.{option_map_or}
use Rattle.std.specs.Str.{bytes_eq}
use Rattle.std.proofs.lemmas.Slice.Eq.{bytes_eq-Decides}
use Rattle.facet_solver_shape.specs.Names.{Name}
use Rattle.facet_solver_reader.specs.declared.plan.PlannedList.{PlannedList}
use Rattle.facet_solver_reader.specs.declared.plan.PlannedPart.{PlannedPart}
use Rattle.facet_solver_reader.specs.declared.plan.PlannedPart.TheVariants as parts
use Rattle.facet_solver_reader.specs.declared.plan.PlannedMember.{PlannedMember}
use Rattle.facet_solver_reader.specs.Choices.{Item, member_of, Reading}
use Rattle.facet_solver_reader.specs.Parts.{MemberPart}
use Rattle.facet_solver_reader.specs.Plans.{IsNumberOf, Meaning}
use Rattle.facet_solver_checker.specs.PlanMembers.{HasPart, IsIn, IsPartOf, target_named}
use Rattle.facet_solver_checker.specs.PlanMembers.{targets_at, targets_below, targets_in}
use Rattle.facet_solver_checker.proofs.Among.{in_filter_map, in_flat_map}

-- the target of a member of the name
named_target : (x : Name) (p : PlannedMember) → p.name.now ≡ x
    → target_named x (parts.Member p) ≡ Some p.target
named_target x p e =
    ap (λ (b : Bool). if b then Some p.target else None) ((bytes_eq-Decides p.name.now x).1 e)

module _ (m : Meaning) (lists : List PlannedList) (below : List ℕ) where
  -- a number of the target of an item that is a member of the name is among the targets
  pub target_among : (x : Name) (part : MemberPart) (r : Option Reading)
      → HasPart m lists below (member_of part r) → part.name ≡ x
      → (n : ℕ) × IsNumberOf m part.target n × IsIn n (targets_below lists x below)
  target_among x part r h e = go h.part h.is_part h.is
    where
      go : (p : PlannedPart) → IsIn p h.list.parts.items → IsPartOf m (member_of part r) p
          → (n : ℕ) × IsNumberOf m part.target n × IsIn n (targets_below lists x below)
      go (parts.Member p) at is = (
        p.target,
        is.target,
        in_flat_map (targets_at lists x) h.number p.target
            (subst (λ (o : Option PlannedList). IsIn p.target (option_map_or (targets_in x) o []))
            (sym h.is_list)
            (in_filter_map (target_named x) (parts.Member p) p.target
            (named_target x p (is.name ∙ e)) h.list.parts.items at))
            below h.among,
      )
      go (parts.Selection s) at is = absurd is
      go (parts.CatchAll k) at is = absurd is
