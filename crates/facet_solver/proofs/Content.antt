-- Newtypes.
use Rattle.facet_solver.specs.build.Build.{Catalogue, kind_of, kind_at}
use Rattle.std.proofs.Common.{◌≡◌, ℕ, List, [], ◌∷◌, Some, None, Bool, true, false, sym, refl, ap, ◌∙◌, slice_get, arith, subst, string_bytes}
use Rattle.std.specs.Prelude.{if◌then◌else◌, IsSome, nat_eq, not}
use Rattle.facet_solver_shape.specs.declared.shape.Shape.{Shape}
use Rattle.facet_solver_shape.specs.declared.shape.Field.{Field}
use Rattle.facet_solver_shape.specs.Catalogues.{NamesEarlier}
use Rattle.facet_solver.specs.build.Content.{effective_of_only, newtype_fields, struct_fields, is_zero, IsNewtypeOf}
use Rattle.facet_solver_shape.specs.EffectiveShapes.{effective}
use Rattle.facet_solver_shape.proofs.EffectiveShapes.{effective-le}
use Rattle.std.specs.Cmp.Lexicographic.{pointwise, same_text}
use Rattle.facet_solver_shape.specs.declared.shape.ShapeKind.{ShapeKind}

-- ---- a single field `0` over a struct is a newtype of it

module _ (cat : Catalogue) (checked : NamesEarlier cat) where
  kind-at : (id : ℕ) (s : Shape) → slice_get cat id ≡ Some s → kind_at cat id ≡ s.kind
  kind-at id s e = ap kind_of e

  if-zero : (b : Bool) (id : ℕ) → b ≡ true → (if b then struct_fields (kind_at cat id) else None) ≡ struct_fields (kind_at cat id)
  if-zero true id e = refl
  if-zero false id e = absurd (cc)

  single : (f : Field) (id : ℕ) (s : Shape) → is_zero (string_bytes f.name) ≡ true → id ≡ effective cat f.shape → slice_get cat id ≡ Some s → IsSome (struct_fields s.kind) → IsNewtypeOf cat (f ∷ []) id
  single f id s zero_named is_effective here is_struct =
      record {
        is_effective = ap Some (sym is_effective);
        is_struct = subst (λ (k : ShapeKind). IsSome (struct_fields k)) (sym (kind-at id s here)) is_struct;
        same_fields = if-zero (is_zero (string_bytes f.name)) (effective cat f.shape) zero_named ∙ ap (λ (i : ℕ). struct_fields (kind_at cat i)) (sym is_effective);
        earlier = λ limit below. let le = effective-le cat checked f.shape in omega (arith, below.0);
      }

  pub newtype_of : (fs : List Field) (f : Field) (id : ℕ) (s : Shape) → fs ≡ f ∷ [] → is_zero (string_bytes f.name) ≡ true → id ≡ effective cat f.shape → slice_get cat id ≡ Some s → IsSome (struct_fields s.kind) → IsNewtypeOf cat fs id
  newtype_of fs f id s one zero_named is_effective here is_struct = subst (λ (gs : List Field). IsNewtypeOf cat gs id) (sym one) (single f id s zero_named is_effective here is_struct)

-- the struct of a newtype stands at its effective shape
pub newtype_at : (cat : Catalogue) (fs gs : List Field) → newtype_fields cat fs ≡ Some gs → (id : ℕ) × (effective_of_only cat fs ≡ Some id) × (struct_fields (kind_at cat id) ≡ Some gs)
newtype_at cat [] gs e = absurd (cc)
newtype_at cat (f ∷ []) gs e = go (is_zero (string_bytes f.name)) e
  where
    go : (b : Bool) → (if b then struct_fields (kind_at cat (effective cat f.shape)) else None) ≡ Some gs → (id : ℕ) × (effective_of_only cat (f ∷ []) ≡ Some id) × (struct_fields (kind_at cat id) ≡ Some gs)
    go true e = (effective cat f.shape, refl, e)
    go false e = absurd (cc)
newtype_at cat (f ∷ g ∷ fs) gs e = absurd (cc)

not-false : (b : Bool) → false ≡ not b → true ≡ b
not-false true e = refl
not-false false e = absurd (cc)

-- what a test of a name has told
pub zero_named : (name written : List ℕ) → false ≡ not (pointwise nat_eq written (48 ∷ [])) → written ≡ name → is_zero name ≡ true
zero_named name written test same = ap is_zero (sym same ∙ same_text written (48 ∷ []) (not-false _ test))
