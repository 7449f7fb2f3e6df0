use Rattle.std.proofs.Common.{◌≡◌, ◌++◌, IfOk, subst}
use Rattle.std.specs.String.{string_bytes}
use Rattle.facet_solver_types.specs.Sources.{module_begin, module_end}
use Rattle.facet_solver_types.proofs.sources.Sources.text.Goals as goal

pub returns : goal.returns
returns c =
    let types = c.args.self.now.types.now in
    subst (λ standing. IfOk c.format.result (λ text. string_bytes text ≡ types ++ (module_begin ++ (standing ++ module_end))))
    c.without_mark-stand_ins.ensures c.format.ensures.ok
