-- What is read once in one way is read once in another that has the same readings.
use Rattle.std.proofs.Common.{◌≡◌, ◌∙◌, refl, subst, sym}
use Rattle.std.specs.Prelude.{◌↔◌, IfErr, IsErr, IsErrAnd, Result, Ok, Err}
use Rattle.facet_solver_reader.specs.declared.count.Count.{Count}
use Rattle.facet_solver_reader.specs.declared.count.Count.TheVariants.{None, One, Several}
use Rattle.facet_solver_reader.specs.declared.read.not_one.NotOne.{NotOne}
use Rattle.facet_solver_reader.specs.declared.read.not_one.NotOne.TheVariants.{NoneOrSeveral}
use Rattle.facet_solver_reader.specs.declared.read.not_one.NotOne.TheVariants.{OutOfMemory}
use Rattle.facet_solver_reader.specs.Counted.{Counted}
use Rattle.facet_solver_reader.specs.ToldAt.{IsNotOne, IsRead}
use Rattle.facet_solver_reader.proofs.Counting.{counted_same}

-- what is counted otherwise is not one
pub not_one_of : {X : Type 0} (P : X → Type 0) (n : Count) → (n ≡ One → ⊥) → Counted P n
    → Counted P One → ⊥
not_one_of P None other h one = h one.value one.has
not_one_of P One other h one = other refl
not_one_of P Several other h one =
    h.differ (one.only h.first h.has_first ∙ sym (one.only h.second h.has_second))

-- where there is not one of something, there is not one of what there would be one of with it
pub not_one_then : (e : NotOne) (C D : Type 0) → (D → C) → IsNotOne e C → IsNotOne e D
not_one_then NoneOrSeveral C D f h = λ d. h (f d)
not_one_then OutOfMemory C D f h = tt

-- what is told in one way is told in another
pub read_as : {X : Type 0} (P Q : X → Type 0) (C D : Type 0) (r : Result X NotOne)
    → ((x : X) → C → P x → Q x) → (C → D) → (D → C) → IsRead P C r → IsRead Q D r
read_as P Q C D (Ok w) f g h x = (g x.0, f w x.0 x.1)
read_as P Q C D (Err e) f g h x = not_one_then e C D h x

-- properties of the same values are had once together
pub same_one : {X : Type 0} (P Q : X → Type 0) → ((x : X) → P x ↔ Q x)
    → Counted P One ↔ Counted Q One
same_one P Q same = (
  counted_same P Q One (λ x p. (same x).0 p) (λ x q. (same x).1 q),
  counted_same Q P One (λ x q. (same x).1 q) (λ x p. (same x).0 p),
)

-- what is had once is counted so
pub is_one : {X : Type 0} (P : X → Type 0) (n : Count) → Counted P n → Counted P One → n ≡ One
is_one P None h one = absurd (h one.value one.has)
is_one P One h one = refl
is_one P Several h one = absurd (not_one_of P Several (λ e. cc) h one)

-- where there is an error, and not one of something, there is nothing to read
pub read_err : {X : Type 0} (P : X → Type 0) (C : Type 0) (r : Result X NotOne) (e : NotOne)
    → IsErr r → IsErrAnd r (λ x. x ≡ e) → IsNotOne e C → IsRead P C r
read_err P C (Ok w) e is and h = absurd and
read_err P C (Err x) e is and h = subst (λ y. IsNotOne y C) (sym and) h

-- the same of what has no result
pub err_not_one : {X : Type 0} (C : Type 0) (r : Result X NotOne) (e : NotOne)
    → IsErr r → IsErrAnd r (λ x. x ≡ e) → IsNotOne e C → IfErr r (λ x. IsNotOne x C)
err_not_one C (Ok w) e is and h = tt
err_not_one C (Err x) e is and h = subst (λ y. IsNotOne y C) (sym and) h
