-- Targets as keys of maps.
use Rattle.facet_solver_reader.specs.declared.plan.target_key.TargetKey.{TargetKey}
use Rattle.facet_solver_reader.specs.declared.plan.target_key.TargetKey.TheVariants as key
use Rattle.facet_solver_reader.specs.Parts.{Target, of_shape, of_content, of_tag}

-- the target of a key
abbrev pub key_view : TargetKey → Target
key_view (key.Shape id) = of_shape id
key_view (key.Content id k) = of_content id k
key_view (key.Tag name) = of_tag name.now
