use Rattle.std.proofs.Common.{◌∙◌, ap, sym, true, cond, Bor}
use Rattle.std.specs.List.{list_any}
use Rattle.std.specs.Ordering.{is_eq}
use Rattle.facet_solver.specs.Names.{name_eq, name_ref_cmp}
use Rattle.facet_solver_uses.proofs.LoadConfig.{known_more}
use Rattle.facet_solver_uses.proofs.load_config.push_new.Goals as goal

pub returns-in_ok-push-clause-known : goal.returns-in_ok-push-clause-known
returns-in_ok-push-clause-known c = λ name.
    let new = c.args.name in
    c.in_ok-insert.ensures.updates.0 name
    ∙ (ap (cond (is_eq (name_ref_cmp new name)) true) (c.requires name)
    ∙ (known_more c.args.names.now.items new name
    ∙ sym (ap (list_any (λ (other : Bor _). name_eq other.now name.now)) c.in_ok-push.ensures.items)))
