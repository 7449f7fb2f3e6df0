use Rattle.facet_solver_reader.specs.Parts.{of_shape}
use Rattle.facet_solver_reader.specs.Views.{end_view}
use Rattle.facet_solver_reader.proofs.PlanNumbers.{variants_kept}
use Rattle.facet_solver_reader.proofs.plan.numbers.Numbers.new.Goals as goal

pub returns : goal.returns
returns c =
    let ends = c.in_ok-number_ends.ensures.numbered in
    let lists = c.in_ok-number_lists.ensures in
    record {
      numbers = lists.more.numbers;
      ends = record {
        shapes = λ id e at. lists.more.kept (of_shape id) (ends.shapes id e at);
        variants = λ id e at.
            variants_kept c.args.tables.now c.number_ends.new.self c.number_lists.new.self lists.more
            (end_view e) (ends.variants id e at);
      };
      lists = lists.numbered;
    }
