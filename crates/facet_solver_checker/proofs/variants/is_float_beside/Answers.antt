use Rattle.facet_solver_checker.proofs.variants.is_float_beside.Goals as goal

pub returns-in-Whole : goal.returns-in-Whole
returns-in-Whole c = λ h.
    record {
      range = c.in-Whole.range;
      is_float = c.in-Float.is;
      is_whole = c.in-Whole.is;
      all = c.read_wholes.ensures h;
    }
