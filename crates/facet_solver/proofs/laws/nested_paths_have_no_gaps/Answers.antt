use Rattle.facet_solver.proofs.Nested.{nested_without_gaps, flattened_without_gaps, variants_without_gaps, content_of_shape_without_gaps, content_without_gaps}
use Rattle.facet_solver.proofs.laws.nested_paths_have_no_gaps.Goals as goal

pub returns-clause-nested : goal.returns-clause-nested
returns-clause-nested c = nested_without_gaps

pub returns-clause-flattened : goal.returns-clause-flattened
returns-clause-flattened c = flattened_without_gaps

pub returns-clause-variants : goal.returns-clause-variants
returns-clause-variants c = variants_without_gaps

pub returns-clause-content_of_shape : goal.returns-clause-content_of_shape
returns-clause-content_of_shape c = content_of_shape_without_gaps

pub returns-clause-content : goal.returns-clause-content
returns-clause-content c = content_without_gaps
