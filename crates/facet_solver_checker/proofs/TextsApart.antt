-- Texts that two ends read in common.
use Rattle.std.proofs.Common.{◌≡◌, ◌∙◌, sym, ap, subst, refl, ℕ, List, All, Any, Bool, true, false}
use Rattle.std.proofs.Common.{IsTrue, not, length, nat_eq, Bor, Vec, Global}
use Rattle.std.specs.Str.{chars}
use Rattle.facet_solver_shape.specs.Names.{Name}
use Rattle.facet_solver_reader.specs.declared.plan.PlannedEnd.{PlannedEnd}
use Rattle.facet_solver_reader.specs.declared.plan.PlannedEnd.TheVariants as planned
use Rattle.facet_solver_reader.specs.declared.plan.PlannedName.{PlannedName}
use Rattle.facet_solver_checker.specs.Apartness.{IsNoText, IsNoUnit, TextsApart, reads_text}
use Rattle.facet_solver_checker.specs.Atoms.{NamesUnit, ReadsAs}
use Rattle.facet_solver_reader.specs.Documents.{text}
use Rattle.facet_solver_reader.specs.Plans.{Meaning}
use Rattle.facet_solver_reader.specs.Values.{ReadsDown}
use Rattle.facet_solver_checker.proofs.EndsApart.{text_read}
use Rattle.facet_solver_reader.proofs.Quantifiers.{all_at, any_is_at}

-- a test that is refused
pub refused : (b x : Bool) → b ≡ x → IsTrue (not b) → x ≡ false
refused true x e h = absurd (cc)
refused false x e h = sym e

-- either order
pub texts_turned : (e f : PlannedEnd) → TextsApart f e → TextsApart e f
texts_turned e f h m depth x a b = h m depth x b a

-- the text of a tag that the other end does not read
pub tag_apart : (name : Bor Name) (e f : PlannedEnd) → e ≡ planned.Tag name → IsNoText f name.now
    → TextsApart e f
tag_apart name e f is none =
    subst (λ (p : PlannedEnd). TextsApart p f) (sym is)
    (λ m depth x a b.
    none m depth (subst (λ (y : Name). ReadsAs m (ReadsDown m.rules depth) f (text y)) a b))

-- the texts of units that the other end does not read
pub units_apart : (ps : Vec PlannedName Global) (e f : PlannedEnd) → e ≡ planned.Named ps
    → All (IsNoUnit f) ps.items → TextsApart e f
units_apart ps e f is none =
    subst (λ (p : PlannedEnd). TextsApart p f) (sym is)
    (λ m depth x (a : Any (NamesUnit x) ps.items) b.
    all_at (IsNoUnit f) ps.items a.0 a.1 none (any_is_at (NamesUnit x) ps.items a) a.4.0 m depth
    (subst (λ (y : Name). ReadsAs m (ReadsDown m.rules depth) f (text y)) (sym a.4.1) b))

-- another tag
pub other_tag : (name : Bor Name) (e : PlannedEnd) (x : Name) → e ≡ planned.Tag name
    → (name.now ≡ x → ⊥) → IsNoText e x
other_tag name e x is ne =
    subst (λ (p : PlannedEnd). IsNoText p x) (sym is) (λ m depth h. ne (sym h))

-- no unit of the name
pub no_such_unit : (ps : Vec PlannedName Global) (e : PlannedEnd) (x : Name)
    → e ≡ planned.Named ps → All (λ (p : PlannedName). NamesUnit x p → ⊥) ps.items → IsNoText e x
no_such_unit ps e x is none =
    subst (λ (p : PlannedEnd). IsNoText p x) (sym is)
    (λ m depth (a : Any (NamesUnit x) ps.items).
    all_at (λ (p : PlannedName). NamesUnit x p → ⊥) ps.items a.0 a.1 none
    (any_is_at (NamesUnit x) ps.items a) a.4)

-- no single character
pub no_character : (e : PlannedEnd) (x : Name) → e ≡ planned.Character
    → nat_eq (length (chars x)) 1 ≡ false → IsNoText e x
no_character e x is ne =
    subst (λ (p : PlannedEnd). IsNoText p x) (sym is)
    (λ m depth (h : IsTrue (nat_eq (length (chars x)) 1)). absurd (cc))

-- what reads no text
pub no_text_of : (e : PlannedEnd) (x : Name) → reads_text e ≡ false → IsNoText e x
no_text_of e x none m depth a =
    let h = text_read m (ReadsDown m.rules depth) e x a in absurd (cc)
