-- The fields that the walk of a root meets: its own, and those that they flatten.
use Rattle.std.specs.Prelude.{◌≡◌, ℕ, zero, suc, Any, IsTrue, List}
use Rattle.facet_solver_shape.specs.declared.shape.Field.{Field}
use Rattle.facet_solver_shape.specs.declared.shape.Variant.{Variant}
use Rattle.facet_solver_shape.specs.Catalogues.{Catalogue}
use Rattle.facet_solver_shape.specs.Representation.{is_walked, repr_of_shape}
use Rattle.facet_solver_shape.specs.Roles.{Role, regular, block, alternatives, catch_all, leaf}
use Rattle.facet_solver_shape.specs.Roles.{role_of}
use Rattle.facet_solver.specs.build.Content.{content_of}

-- fields are those of a variant's content
abbrev pub AreOfContent : Catalogue → List Field → Variant → Type 0
AreOfContent shapes fs v = (content_of shapes v).fields ≡ fs

-- a field of a role brings others in: those of the struct that it flattens, or those of the content
-- of one variant of the enum that it flattens, if that content stands at the enum's own level
abbrev pub BringsIn : Catalogue → List Field → Role → Type 0
BringsIn shapes fs regular = ⊥
BringsIn shapes fs (block target inside) = inside ≡ fs
BringsIn shapes fs (alternatives target s vs) =
    IsTrue (is_walked (repr_of_shape s)) × Any (AreOfContent shapes fs) vs
BringsIn shapes fs (catch_all target) = ⊥
BringsIn shapes fs (leaf target) = ⊥

-- one of some fields brings others in
abbrev pub BringIn : Catalogue → List Field → List Field → Type 0
BringIn shapes from fs = Any (λ f. BringsIn shapes fs (role_of shapes f)) from

-- from some fields the walk comes to others, so many levels deep
abbrev pub AreMetAt : ℕ → Catalogue → List Field → List Field → Type 0
AreMetAt zero shapes from fs = from ≡ fs
AreMetAt (suc n) shapes from fs =
    (around : List Field) × AreMetAt n shapes from around × BringIn shapes around fs

-- from some fields the walk comes to others
abbrev pub AreMet : Catalogue → List Field → List Field → Type 0
AreMet shapes from fs = (n : ℕ) × AreMetAt n shapes from fs
