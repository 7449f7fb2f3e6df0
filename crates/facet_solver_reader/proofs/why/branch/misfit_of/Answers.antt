use Rattle.std.proofs.Common.{◌∙◌, ap, subst, sym}
use Rattle.std.specs.Prelude.{IfSome}
use Rattle.facet_solver_reader.specs.Nodes.{members_in, value_of}
use Rattle.facet_solver_reader.specs.Tables.{ListIsServed, rules_at}
use Rattle.facet_solver_reader.specs.TypeNames.{list_name}
use Rattle.facet_solver_reader.specs.Views.{list_view, selection_view}
use Rattle.facet_solver_reader.specs.Why.{IsNoKey, IsOfBranch, IsOfPart, Lacks}
use Rattle.facet_solver_reader.specs.declared.read_error.Branch.{Branch}
use Rattle.facet_solver_reader.specs.declared.read_error.Stop.{Stop}
use Rattle.facet_solver_reader.specs.declared.read_error.Stop.TheVariants as told
use Rattle.facet_solver_reader.proofs.Quantifiers.{all_at}
use Rattle.facet_solver_reader.proofs.why.branch.misfit_of.Goals as goal

pub lacks_of-lacks-requires : goal.lacks_of-lacks-requires
lacks_of-lacks-requires c =
    record {
      served =
          all_at (ListIsServed c.args.tables.now) (selection_view c.args.selection.now).branches
          c.requires.branch.0 (list_view c.args.branch.now) c.requires.served
          c.requires.branch.1;
    }

pub returns-in_default-clause-misfit : goal.returns-in_default-clause-misfit
returns-in_default-clause-misfit c =
    let rules = rules_at c.args.tables.now in
    let ms = members_in (value_of c.args.nodes.now c.args.asked.now.object.node) in
    let same = sym c.branch_of-name.ensures.list in
    record {
      lacks =
          subst (λ i. IfSome c.lacks_of-lacks.result (λ x. Lacks rules ms i x.now)) same
          (c.lacks_of-lacks.ensures c.args.nodes.now c.requires.asked);
      no_key =
          subst (λ i. IfSome c.no_key-no_key.result (λ x. IsNoKey rules ms i x.now)) same
          c.no_key-no_key.ensures;
      stop = tt;
      called = c.branch_of-name.ensures.name ∙ ap (list_name rules.shapes) same;
      of_branch = tt;
    }

-- what is told of a part is not told of the value itself
of_part : (b : Branch) (stop : Stop) → IsOfPart stop → IsOfBranch b stop
of_part b told.Nothing h = tt
of_part b (told.Member x unread) h = tt
of_part b (told.OneOf x) h = tt
of_part b (told.Itself unread) h = absurd h

pub returns-in-Ok-clause-misfit : goal.returns-in-Ok-clause-misfit
returns-in-Ok-clause-misfit c =
    let rules = rules_at c.args.tables.now in
    record {
      called =
          c.branch_of-name.ensures.name
          ∙ ap (list_name rules.shapes) (sym c.branch_of-name.ensures.list);
      lacks = tt;
      no_key = tt;
      stop = c.in-Ok.ensures.stop;
      of_branch = of_part c.branch_of-name.result c.in-Ok.stop c.in-Ok.ensures.part;
    }
