-- Marks of what walks go through: more of them keep what is reached.
use Rattle.std.proofs.Common.{◌≡◌, ◌<◌, ◌≤◌, ◌+◌, ℕ, List, Option, Some, None, Bool, true, false, sym, subst, slice_get, inl, inr, get_or, length, set, arith}
use Rattle.std.proofs.lemmas.Bool.{cases_lt}
use Rattle.std.specs.Prelude.{All, IfSome, IsSome, Vec}
use Rattle.std.specs.declared.alloc.Global.{Global}
use Rattle.facet_solver_shape.specs.declared.shape.Field.{Field}
use Rattle.facet_solver_shape.specs.declared.shape.Shape.{Shape}
use Rattle.facet_solver_shape.specs.declared.shape.ShapeKind.{ShapeKind}
use Rattle.facet_solver_shape.specs.declared.shape.ShapeKind.TheVariants.{Enum, Struct}
use Rattle.facet_solver_shape.specs.declared.shape.Variant.{Variant}
use Rattle.facet_solver_shape.specs.declared.role.Target.{Target}
use Rattle.facet_solver.specs.build.Build.{Build, Catalogue, kind_at, repr_for}
use Rattle.facet_solver.specs.build.Content.{IsNewtypeOf, effective_of_only, newtype_fields, struct_fields}
use Rattle.facet_solver.specs.build.NestedTable.{IsMarked, IsMarkedMore}
use Rattle.facet_solver.specs.build.Reached.{ContentReached, ContentReachedBy, FieldReached, IsReachedAt, IsReachedMore, KindReached, Reach, RoleReached, ShapeReached, VariantReached, reach}
use Rattle.facet_solver_shape.specs.Representation.{is_walked}
use Rattle.facet_solver_shape.specs.Roles.{Role, alternatives, block, catch_all, leaf, regular, role_of}
use Rattle.facet_solver.proofs.Marks.{more-mono, more-refl, more-set, more-trans}
use Rattle.facet_solver.proofs.Roles.{target_in}

pub reached-trans : (limit : ℕ) (a b c : Reach) → IsReachedMore limit a b → IsReachedMore limit b c → IsReachedMore limit a c
reached-trans limit a b c f g = record {
  walked = more-trans limit a.walked b.walked c.walked f.walked g.walked;
  structs = more-trans limit a.structs b.structs c.structs f.structs g.structs;
}

pub reached-mono : (m n : ℕ) (a b : Reach) → m ≤ n → IsReachedMore m a b → IsReachedMore n a b
reached-mono m n a b le f = record {
  walked = more-mono m n a.walked b.walked le f.walked;
  structs = more-mono m n a.structs b.structs le f.structs;
}

-- a mark of a walked shape
pub reached-set : (limit i : ℕ) (walked structs : List Bool) → i < limit → i < length walked → IsReachedMore limit (reach walked structs) (reach (set walked i true) structs)
reached-set limit i walked structs below within = record {
  walked = more-mono (i + 1) limit walked (set walked i true) (omega (arith, below)) (more-set walked i within);
  structs = more-refl limit structs;
}

-- a field whose target is marked leads to what is marked
module _ (m : Reach) (cat : Catalogue) where
  role_marked : (id : ℕ) (r : Role) (target : Target) → Some target ≡ target_in r → IsMarked m.walked target.shape → RoleReached m cat id r
  unfolding target_in
  role_marked id regular target e h = absurd (cc)
  role_marked id (block t fs) target e h = let same : t ≡ target = cc in subst (λ (t : Target). IsMarked m.walked t.shape) (sym same) h
  role_marked id (alternatives t s vs) target e h = let same : t ≡ target = cc in subst (λ (t : Target). IsMarked m.walked t.shape) (sym same) h
  role_marked id (catch_all t) target e h = tt
  role_marked id (leaf t) target e h = tt

  pub field_marked : (f : Field) (target : Target) → Some target ≡ target_in (role_of cat f) → IsMarked m.walked target.shape → FieldReached m cat f
  field_marked f target e h = role_marked f.shape (role_of cat f) target e h

  -- so does a newtype whose struct is marked
  module _ (fs : List Field) (id : ℕ) (newtype : IsNewtypeOf cat fs id) where
    by_newtype : (o : Option (List Field)) → IsSome o → IsMarked m.walked id → ContentReachedBy m cat fs o
    by_newtype None some h = absurd (cc)
    by_newtype (Some gs) some h = subst (λ (o : Option ℕ). IfSome o (IsMarked m.walked)) (sym newtype.is_effective) h

    pub newtype_marked : IsMarked m.walked id → ContentReached m cat fs
    newtype_marked h = subst (ContentReachedBy m cat fs) (sym newtype.same_fields) (by_newtype (struct_fields (kind_at cat id)) newtype.is_struct h)

  -- else what the fields lead to is marked
  pub own_reached : (fs : List Field) → newtype_fields cat fs ≡ None → ContentReached m cat fs → All (FieldReached m cat) fs
  own_reached fs none h = subst (ContentReachedBy m cat fs) none h

  -- an enum that is written apart
  pub apart_marked : (A : Type 0) (k : ShapeKind) (vs : Vec Variant Global) (b : Bool) → k ≡ Enum vs → b ≡ false → A → KindReached m cat A b k
  apart_marked A k vs b e f h = subst (λ (k : ShapeKind). KindReached m cat A b k) (sym e) (subst (λ (b : Bool). KindReached m cat A b (Enum vs)) (sym f) h)

-- the shape at an index
pub shape_marked : (m : Reach) (apart : Type 0) (build : Build) (o : Option Shape) (s : Shape) → o ≡ Some s → KindReached m build.catalogue apart (is_walked (repr_for build s)) s.kind → ShapeReached m apart build o
shape_marked m apart build o s e h = subst (ShapeReached m apart build) (sym e) h

-- ---- more marks keep what is reached
module _ (a b : Reach) (walked_kept : (id : ℕ) → IsMarked a.walked id → IsMarked b.walked id) (structs_kept : (id : ℕ) → IsMarked a.structs id → IsMarked b.structs id) (cat : Catalogue) where
  role_kept : (id : ℕ) (r : Role) → RoleReached a cat id r → RoleReached b cat id r
  role_kept id regular h = λ is. structs_kept id (h is)
  role_kept id (block target fs) h = walked_kept target.shape h
  role_kept id (alternatives target s vs) h = walked_kept target.shape h
  role_kept id (catch_all target) h = tt
  role_kept id (leaf target) h = tt

  pub field_kept : (f : Field) → FieldReached a cat f → FieldReached b cat f
  field_kept f h = role_kept f.shape (role_of cat f) h

  content_kept : (fs : List Field) (o : Option (List Field)) → ContentReachedBy a cat fs o → ContentReachedBy b cat fs o
  content_kept fs None h = λ i d lt. field_kept (get_or fs i d) (h i d lt)
  content_kept fs (Some gs) h = still (effective_of_only cat fs) h
    where
      still : (o : Option ℕ) → IfSome o (IsMarked a.walked) → IfSome o (IsMarked b.walked)
      still None h = tt
      still (Some id) h = walked_kept id h

  pub variant_kept : (v : Variant) → VariantReached a cat v → VariantReached b cat v
  variant_kept v h = content_kept v.fields.items (newtype_fields cat v.fields.items) h

  pub kind_kept : (A B : Type 0) (also : A → B) (w : Bool) (k : ShapeKind) → KindReached a cat A w k → KindReached b cat B w k
  kind_kept A B also w (Struct kind fs) h = λ i d lt. field_kept (get_or fs.items i d) (h i d lt)
  kind_kept A B also true (Enum vs) h = λ i d lt. variant_kept (get_or vs.items i d) (h i d lt)
  kind_kept A B also false (Enum vs) h = also h
  kind_kept A B also w _ h = tt

module _ (a b : Reach) (walked_kept : (id : ℕ) → IsMarked a.walked id → IsMarked b.walked id) (structs_kept : (id : ℕ) → IsMarked a.structs id → IsMarked b.structs id) where
  pub shape_kept : (A B : Type 0) (also : A → B) (build : Build) (o : Option Shape) → ShapeReached a A build o → ShapeReached b B build o
  shape_kept A B also build None h = tt
  shape_kept A B also build (Some s) h = kind_kept a b walked_kept structs_kept build.catalogue A B also (is_walked (repr_for build s)) s.kind h

-- ---- from the last index down
-- what the marked shapes from an index on lead to is marked, and so it is from one index less
module _ (build : Build) (m n : Reach) (apart more_apart : List Bool) (left : ℕ) where
  pub one_less : IsReachedMore left m n → IsMarkedMore (left + 1) apart more_apart → IsReachedAt n more_apart build left
      → ((id : ℕ) → left + 1 ≤ id → IsMarked m.walked id → IsReachedAt m apart build id)
      → (id : ℕ) → left ≤ id → IsMarked n.walked id → IsReachedAt n more_apart build id
  one_less more also here h id le mark = elim (cases_lt left id) [
    | inl lt ↦ shape_kept m n more.walked.kept more.structs.kept (IsMarked apart id) (IsMarked more_apart id) (λ x. also.kept id x) build (slice_get build.catalogue id) (h id (omega (arith, lt)) (more.walked.below id le mark))
    | inr ge ↦ subst (IsReachedAt n more_apart build) (let same : left ≡ id = omega (arith, le, ge) in same) here
  ]
