use Rattle.std.proofs.Common.{◌∙◌}
use Rattle.std.specs.List.{Contains}
use Rattle.std.proofs.lemmas.List.Elements.{All-contains}
use Rattle.facet_solver_checker.specs.declared.atoms.Atom.TheVariants.{Null}
use Rattle.facet_solver_checker.proofs.variants.alternative_atoms.Goals as goal

pub returns : goal.returns
returns c =
    let new = c.add_alternative.new.self.each.items in
    record {
      null = λ h.
          All-contains (Contains new) c.add_if.new.self.each.items Null
          c.in_ok-add_alternative.ensures.kept
          (c.in_ok-add_if.ensures.added (c.is_null_alone.ensures ∙ h));
      asked = c.in_ok-add_alternative.ensures.added;
    }
