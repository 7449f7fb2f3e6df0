use Rattle.std.proofs.Common.{subst, List, Bor}
use Rattle.facet_solver_shape.specs.Catalogues.{RepeatsName}
use Rattle.facet_solver_shape.specs.Names.{Name, names_of}
use Rattle.facet_solver_reader.specs.Places.{IsRepeated}
use Rattle.facet_solver_reader.specs.Views.{parts_view}
use Rattle.facet_solver_reader.proofs.PartNames.{names_apart}
use Rattle.facet_solver_reader.proofs.tables.names.names_of.Goals as goal

pub returns-clause-ok : goal.returns-clause-ok
returns-clause-ok c =
    names_apart c.args.ordered.now (parts_view c.args.parts.now) c.in_ok-names.names.items c.in_ok-names.ensures.sorted (c.in_ok-names.ensures.names c.args.ordered.now c.requires.named)
    (subst (λ (ns : List (Bor Name)). ¬ RepeatsName (names_of ns)) c.deref.ensures.value c.in_default.ensures)

pub name_twice-requires : goal.name_twice-requires
name_twice-requires c =
    ((c.in_ok-names.ensures.names c.args.ordered.now c.requires.named).twice c.in-Some.name.now).0
    (subst (λ (ns : List (Bor Name)). IsRepeated (names_of ns) c.in-Some.name.now) c.deref.ensures.value c.in-Some.ensures)
