use Rattle.std.proofs.Common.{◌≡◌, ℕ, Bool, List, ◌∷◌, ◌++◌, [], nat_eq, sym, ◌∙◌, ap}
use Rattle.std.specs.List.{list_any}
use Rattle.facet_solver.proofs.FirstOfEach.{first_of_each-told}
use Rattle.facet_solver.proofs.solver.shape_at_path.add_if_new.Goals as goal

-- what the search told of the shapes so far
told_of : {shapes read so_far : List ℕ} {told answer : Bool} (id : ℕ) → shapes ≡ so_far → read ≡ shapes → told ≡ list_any (λ (other : ℕ). nat_eq other id) read → told ≡ answer → list_any (λ (other : ℕ). nat_eq other id) so_far ≡ answer
told_of id so_far same told is =
    ap (list_any (λ (other : ℕ). nat_eq other id)) (sym so_far ∙ sym same) ∙ sym told ∙ is

pub returns-in_ok-push : goal.returns-in_ok-push
returns-in_ok-push c = λ seen so_far.
    c.in_ok-push.ensures.items
    ∙ ap (λ shapes. shapes ++ c.args.shape ∷ []) so_far
    ∙ sym (first_of_each-told (λ shape. shape) seen c.args.shape _ (told_of c.args.shape so_far c.deref.ensures.value c.is_among.ensures c.if-not-is_among.true))

pub returns-else-not-is_among : goal.returns-else-not-is_among
returns-else-not-is_among c = λ seen so_far.
    so_far
    ∙ sym (first_of_each-told (λ shape. shape) seen c.args.shape _ (told_of c.args.shape so_far c.deref.ensures.value c.is_among.ensures c.if-not-is_among.false))
