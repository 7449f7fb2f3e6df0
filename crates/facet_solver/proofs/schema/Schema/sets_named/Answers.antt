use Rattle.std.proofs.Common.{◌≡◌, subst}
use Rattle.facet_solver.specs.Resolutions.{has_field_named, passes}
use Rattle.facet_solver.specs.schema.IndexEntries.{is_held}
use Rattle.facet_solver.specs.schema.Schema.{SchemaView}
use Rattle.facet_solver.proofs.Results.{ok_more}
use Rattle.facet_solver.proofs.schema.Schema.sets_named.Goals as goal

pub returns : goal.returns
returns c =
    ok_more c.sets_named.result _ _
    (λ sets all index.
    subst (λ (v : SchemaView). is_held sets.items index ≡ passes (has_field_named c.args.name.now) v.resolutions index) c.self.view_is
    (all c.self.inside.resolutions.items c.self.invariant.2 index))
    c.sets_named.ensures
