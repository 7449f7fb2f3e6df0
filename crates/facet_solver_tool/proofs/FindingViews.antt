-- What is seen of findings.
use Rattle.std.proofs.Common.{◌≡◌, ◌∙◌, Bool, ap}
use Rattle.facet_solver_shape.specs.Names.{Name}
use Rattle.facet_solver_witnesses.specs.declared.ambiguity.Ambiguity.{Ambiguity}
use Rattle.facet_solver_tool.specs.Findings.{Finding}

abbrev finding : Ambiguity → Name → Bool → Finding
finding a k b = record { ambiguity = a; key = k; is_accepted = b }

-- findings of one ambiguity with the same key, which are both accepted or both not, are the same
pub same_finding : (a : Ambiguity) {k l : Name} {b c : Bool} → k ≡ l → b ≡ c → finding a k b ≡ finding a l c
same_finding a {k} {l} {b} {c} same both = ap (λ k. finding a k b) same ∙ ap (λ b. finding a l b) both
